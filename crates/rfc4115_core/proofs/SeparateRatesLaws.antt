-- What each bucket of a meter with two separate rates has before a packet.
use Rattle.std.proofs.Common.{refl}
use Rattle.moment_core.proofs.MeteringLaws.{IsFilledAt, filled_at}
use Rattle.rfc4115_core.specs.SeparateRates.{gain, separate_rates}

pub committed_filled : IsFilledAt separate_rates (λ l. l.committed) (λ p. p.committed_burst) (λ p. p.committed_rate)
unfolding separate_rates gain
committed_filled = filled_at separate_rates (λ l. l.committed) (λ p. p.committed_burst) (λ p. p.committed_rate) (λ _ _ _ _. refl)

pub excess_filled : IsFilledAt separate_rates (λ l. l.excess) (λ p. p.excess_burst) (λ p. p.excess_rate)
unfolding separate_rates gain
excess_filled = filled_at separate_rates (λ l. l.excess) (λ p. p.excess_burst) (λ p. p.excess_rate) (λ _ _ _ _. refl)
