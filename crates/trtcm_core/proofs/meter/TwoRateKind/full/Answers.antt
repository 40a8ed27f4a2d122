use Rattle.std.proofs.Common.{refl}
use Rattle.moment_core.proofs.TokenLaws.{begun_token-origin}
use Rattle.moment_core.specs.Metering.{opening}
use Rattle.trtcm_core.specs.TwoRate.{full, two_rate}
use Rattle.trtcm_core.proofs.meter.TwoRateKind.full.Goals as goal

pub returns : goal.returns
unfolding opening two_rate full
returns c mode origin =
    let p = c.args.parameters in
    rw (c.full.ensures, c.full-2.ensures, begun_token-origin p.committed_rate origin, begun_token-origin p.peak_rate origin) refl
