use Rattle.std.proofs.Common.{◌*◌, ◌/◌, ◌∙◌, ap, arith}
use Rattle.pcapng_capture.proofs.StampLaws.{nanoseconds_are, units_some}
use Rattle.pcapng_capture.proofs.stamp.nanoseconds.Goals as goal

pub nonzero_div-result : goal.nonzero_div-result
nonzero_div-result c = omega (arith, c.units.ensures, units_some c.args.resolution)

pub returns-in_default-clause-value : goal.returns-in_default-clause-value
returns-in_default-clause-value c =
    ap (λ stamp. stamp * 1000000000 / c.units.result) c.from-in_default.ensures
    ∙ nanoseconds_are c.args.resolution c.args.stamp c.units.result (omega arith) c.units.ensures
