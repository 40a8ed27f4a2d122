use Rattle.lane.proofs.Order.{takes, takes_learns}
use Rattle.lane.proofs.ends.Taking.take.Goals as goal

pub try_recv_as-requires-clause-rule : goal.try_recv_as-requires-clause-rule
try_recv_as-requires-clause-rule g c = (takes _ _ c.self.invariant.3, takes_learns _ _ c.self.invariant.3)
