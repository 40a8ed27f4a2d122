use Rattle.std.proofs.Common.{length, sym, ap, ◌∙◌}
use Rattle.meter_fabric_base.proofs.WayLaws.{counted}
use Rattle.meter_fabric_base.proofs.way.Way.len.Goals as goal

pub returns : goal.returns
returns c =
    c.from.ensures ∙ sym (counted c.self.inside.first c.self.inside.count c.self.inside.sites c.self.invariant.1 c.self.invariant.2) ∙ ap length c.self.view_is
