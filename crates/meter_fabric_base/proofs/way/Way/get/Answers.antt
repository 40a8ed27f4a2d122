use Rattle.std.proofs.Common.{ap, ◌∙◌, arith, slice_get}
use Rattle.meter_fabric_base.proofs.WayLaws.{found_hop, no_hop}
use Rattle.meter_fabric_base.proofs.way.Way.get.Goals as goal

pub returns-then-place-from : goal.returns-then-place-from
returns-then-place-from c =
    no_hop c.self.inside.first c.self.inside.count c.args.place c.self.inside.sites (omega (arith, c.if-place-from.true, c.from.ensures)) c.self.invariant.1 c.self.invariant.2
    ∙ ap (λ hops. slice_get hops c.args.place) c.self.view_is

pub returns : goal.returns
returns c =
    found_hop c.self.inside.first c.self.inside.count c.args.place c.self.inside.sites 0 (omega (arith, c.if-place-from.false, c.from.ensures)) c.self.invariant.1 c.self.invariant.2
    ∙ ap (λ hops. slice_get hops c.args.place) c.self.view_is
