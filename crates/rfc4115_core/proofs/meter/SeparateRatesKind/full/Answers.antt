use Rattle.std.proofs.Common.{refl}
use Rattle.moment_core.proofs.TokenLaws.{begun_token-origin}
use Rattle.moment_core.specs.Metering.{opening}
use Rattle.rfc4115_core.specs.SeparateRates.{full, separate_rates}
use Rattle.rfc4115_core.proofs.meter.SeparateRatesKind.full.Goals as goal

pub returns : goal.returns
unfolding opening separate_rates full
returns c mode origin =
    let p = c.args.parameters in
    rw (c.full.ensures, c.full-2.ensures, begun_token-origin p.committed_rate origin, begun_token-origin p.excess_rate origin) refl
