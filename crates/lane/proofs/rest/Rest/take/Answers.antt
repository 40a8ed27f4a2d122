use Rattle.std.proofs.Common.{sym, ◌∙◌}
use Rattle.lane.proofs.Order.{empties, left}
use Rattle.lane.proofs.Emptied.{stays_left, first_left}
use Rattle.lane.proofs.rest.Rest.take.Goals as goal

pub try_recv_as-requires-clause-rule : goal.try_recv_as-requires-clause-rule
try_recv_as-requires-clause-rule g c = (empties _ _ c.self.invariant.1 c.self.invariant.2, left _ _ c.self.invariant.1 c.self.invariant.2)

pub invariant_of-self-2 : goal.invariant_of-self-2
invariant_of-self-2 g c = let h = stays_left _ _ _ (c.self.invariant.1, c.self.invariant.2, c.self.invariant.3) c.in-Ok.ensures.rule in (c.try_recv_as.ensures.channel.0, h.0, h.1, h.2)

pub returns : goal.returns
returns g c = sym c.self.view_is ∙ first_left _ _ _ c.in-Ok.ensures.rule
