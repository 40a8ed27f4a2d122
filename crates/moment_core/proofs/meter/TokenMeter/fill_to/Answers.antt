use Rattle.std.proofs.Common.{◌≡◌, refl, sym, ◌∙◌, arith}
use Rattle.moment_core.proofs.KindLaws.{gives-back, stands-for}
use Rattle.moment_core.proofs.MeteringLaws.{newest_le-used}
use Rattle.moment_core.specs.Fillings.{moved_on, state_at}
use Rattle.moment_core.specs.Metering.{filled}
use Rattle.moment_core.proofs.meter.TokenMeter.fill_to.Given.{Over}
use Rattle.moment_core.proofs.meter.TokenMeter.fill_to.Goals as goal

-- the buckets are those of the meter that is filled up to the arrival
buckets_filled : (g : Over) (c : goal.After-fill_over g)
    → let i = c.self.inside in
    let k = g.K.Kind in
    c.fill_over.new.self ≡ k.buckets_of (filled k.rules (state_at i.mode i.clock (k.parameters_of i.buckets) (k.levels_of i.buckets)) c.args.arrival)
buckets_filled g c =
    let i = c.self.inside in
    let k = g.K.Kind in
    c.fill_over.ensures (state_at i.mode i.clock (k.parameters_of i.buckets) (k.levels_of i.buckets)) c.args.arrival c.self.invariant.0 (sym c.self.invariant.1)
    (c.move_on-gap.ensures.gap ∙ rw c.move_on-gap.ensures.moved refl)

pub invariant_of-self : goal.invariant_of-self
unfolding filled
invariant_of-self g c =
    let i = c.self.inside in
    let k = g.K.Kind in
    let law = g.met.K.Kind in
    let m = filled k.rules (state_at i.mode i.clock (k.parameters_of i.buckets) (k.levels_of i.buckets)) c.args.arrival in
    rw c.move_on-gap.ensures.moved (
      omega (arith, c.self.invariant.0, newest_le-used i.clock.newest c.args.arrival),
      gives-back k.buckets_of k.parameters_of k.levels_of law.gives_parameters law.gives_levels m (moved_on i.clock c.args.arrival) c.fill_over.new.self (buckets_filled g c) refl refl,
    )

pub returns : goal.returns
unfolding filled
returns g c =
    let i = c.self.inside in
    let k = g.K.Kind in
    let law = g.met.K.Kind in
    let m = filled k.rules (state_at i.mode i.clock (k.parameters_of i.buckets) (k.levels_of i.buckets)) c.args.arrival in
    rw (← c.self.view_is, c.move_on-gap.ensures.moved)
    (stands-for k.buckets_of k.parameters_of k.levels_of law.gives_parameters law.gives_levels m (moved_on i.clock c.args.arrival) c.fill_over.new.self (buckets_filled g c) refl refl)
