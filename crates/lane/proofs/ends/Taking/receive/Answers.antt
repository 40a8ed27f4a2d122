use Rattle.lane.proofs.Order.{takes, takes_learns}
use Rattle.lane.proofs.ends.Taking.receive.Goals as goal

pub recv_as-requires-clause-rule : goal.recv_as-requires-clause-rule
recv_as-requires-clause-rule g c = let may = c.loop.invariant.2.3 in (takes _ _ may, takes_learns _ _ may)
