use Rattle.std.proofs.Common.{ap, refl}
use Rattle.moment_core.proofs.MeteringLaws.{fills}
use Rattle.moment_core.specs.Metering.{filled}
use Rattle.trtcm_core.proofs.TwoRateLaws.{committed_filled, peak_filled}
use Rattle.trtcm_core.specs.TwoRate.{two_rate}
use Rattle.trtcm_core.specs.declared.meter.TwoRate.{TwoRate}
use Rattle.trtcm_core.proofs.meter.TwoRateKind.fill_over.Goals as goal

pub returns : goal.returns
unfolding filled
returns c m arrival begun same span =
    let committed = fills two_rate _ _ _ committed_filled m arrival _ _ _ begun (ap (λ (b : TwoRate). b.committed) same) span c.fill_over.ensures.filled in
    let peak = fills two_rate _ _ _ peak_filled m arrival _ _ _ begun (ap (λ (b : TwoRate). b.peak) same) span c.fill_over-2.ensures.filled in
    rw (committed, peak) refl
