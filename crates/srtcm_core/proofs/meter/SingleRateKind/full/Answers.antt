use Rattle.std.proofs.Common.{refl}
use Rattle.moment_core.proofs.TokenLaws.{begun_token-origin}
use Rattle.moment_core.specs.Metering.{opening}
use Rattle.srtcm_core.specs.SingleRate.{full, single_rate}
use Rattle.srtcm_core.proofs.meter.SingleRateKind.full.Goals as goal

pub returns : goal.returns
unfolding opening single_rate full
returns c mode origin =
    rw (c.full.ensures, c.full-2.ensures.level, c.full-2.ensures.size, begun_token-origin c.args.parameters.committed_rate origin) refl
