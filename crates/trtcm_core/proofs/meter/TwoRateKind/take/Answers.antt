use Rattle.std.proofs.Common.{ap, refl}
use Rattle.moment_core.proofs.MeteringLaws.{drained}
use Rattle.trtcm_core.specs.TwoRate.{two_rate}
use Rattle.trtcm_core.specs.declared.meter.TwoRate.{TwoRate}
use Rattle.trtcm_core.proofs.meter.TwoRateKind.take.Goals as goal

pub returns-clause-colour : goal.returns-clause-colour
unfolding two_rate
returns-clause-colour c m same = rw (c.take.ensures.colour, same) refl

pub returns-clause-taken : goal.returns-clause-taken
unfolding two_rate
returns-clause-taken c m same =
    let levels = rw same at c.take.ensures.levels in
    let committed = drained m _ _ _ _ c.take.new.committed (ap (λ (b : TwoRate). b.committed) same) c.take.ensures.committed_size in
    let peak = drained m _ _ _ _ c.take.new.peak (ap (λ (b : TwoRate). b.peak) same) c.take.ensures.peak_size in
    rw (← levels, committed, peak) refl
