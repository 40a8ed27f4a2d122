-- What each bucket of a two-rate meter has before a packet.
use Rattle.std.proofs.Common.{refl}
use Rattle.moment_core.proofs.MeteringLaws.{IsFilledAt, filled_at}
use Rattle.trtcm_core.specs.TwoRate.{gain, two_rate}

pub committed_filled : IsFilledAt two_rate (λ l. l.committed) (λ p. p.committed_burst) (λ p. p.committed_rate)
unfolding two_rate gain
committed_filled = filled_at two_rate (λ l. l.committed) (λ p. p.committed_burst) (λ p. p.committed_rate) (λ _ _ _ _. refl)

pub peak_filled : IsFilledAt two_rate (λ l. l.peak) (λ p. p.peak_burst) (λ p. p.peak_rate)
unfolding two_rate gain
peak_filled = filled_at two_rate (λ l. l.peak) (λ p. p.peak_burst) (λ p. p.peak_rate) (λ _ _ _ _. refl)
