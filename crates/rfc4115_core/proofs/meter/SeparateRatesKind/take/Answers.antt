use Rattle.std.proofs.Common.{ap, refl}
use Rattle.moment_core.proofs.MeteringLaws.{drained}
use Rattle.rfc4115_core.specs.SeparateRates.{separate_rates}
use Rattle.rfc4115_core.specs.declared.meter.SeparateRates.{SeparateRates}
use Rattle.rfc4115_core.proofs.meter.SeparateRatesKind.take.Goals as goal

pub returns-clause-colour : goal.returns-clause-colour
unfolding separate_rates
returns-clause-colour c m same = rw (c.take_committed_or_excess.ensures.colour, same) refl

pub returns-clause-taken : goal.returns-clause-taken
unfolding separate_rates
returns-clause-taken c m same =
    let taken = c.take_committed_or_excess in
    let levels = rw same at taken.ensures.levels in
    let committed = drained m _ _ _ _ taken.new.committed (ap (λ (b : SeparateRates). b.committed) same) taken.ensures.committed_size in
    let excess = drained m _ _ _ _ taken.new.excess (ap (λ (b : SeparateRates). b.excess) same) taken.ensures.excess_size in
    rw (← levels, committed, excess) refl
