use Rattle.std.proofs.Common.{ap, refl}
use Rattle.moment_core.proofs.MeteringLaws.{drained}
use Rattle.srtcm_core.specs.SingleRate.{single_rate}
use Rattle.srtcm_core.specs.declared.meter.SingleRate.{SingleRate}
use Rattle.srtcm_core.proofs.meter.SingleRateKind.take.Goals as goal

pub returns-clause-colour : goal.returns-clause-colour
unfolding single_rate
returns-clause-colour c m same = rw (c.take_committed_or_excess.ensures.colour, same) refl

pub returns-clause-taken : goal.returns-clause-taken
unfolding single_rate
returns-clause-taken c m same =
    let taken = c.take_committed_or_excess in
    let levels = rw same at taken.ensures.levels in
    let committed = drained m _ _ _ _ taken.new.committed (ap (λ (b : SingleRate). b.committed) same) taken.ensures.committed_size in
    rw (← levels, committed, taken.ensures.excess_size, same) refl
