use Rattle.std.proofs.Common.{refl, arith}
use Rattle.moment_core.proofs.KindLaws.{gives-back, stands-for}
use Rattle.moment_core.specs.Metering.{opening}
use Rattle.moment_core.proofs.meter.TokenMeter.open.Goals as goal

pub invariant_of-result : goal.invariant_of-result
unfolding opening
invariant_of-result g c =
    let k = g.K.Kind in
    let law = g.met.K.Kind in
    let m = opening k.rules c.get.result c.args.mode c.args.origin in
    rw c.new.ensures (
      omega arith,
      gives-back k.buckets_of k.parameters_of k.levels_of law.gives_parameters law.gives_levels m (record { origin = c.args.origin; newest = c.args.origin }) c.full.result
          (c.full.ensures c.args.mode c.args.origin) refl refl,
    )

pub returns : goal.returns
unfolding opening
returns g c =
    let k = g.K.Kind in
    let law = g.met.K.Kind in
    let m = opening k.rules c.get.result c.args.mode c.args.origin in
    rw (← c.get.ensures.value, c.new.ensures)
    (stands-for k.buckets_of k.parameters_of k.levels_of law.gives_parameters law.gives_levels m (record { origin = c.args.origin; newest = c.args.origin }) c.full.result
    (c.full.ensures c.args.mode c.args.origin) refl refl)
