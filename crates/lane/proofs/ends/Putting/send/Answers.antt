use Rattle.lane.proofs.Order.{puts, puts_learns}
use Rattle.lane.proofs.ends.Putting.send.Goals as goal

pub send_as-requires-clause-rule : goal.send_as-requires-clause-rule
send_as-requires-clause-rule g c = let may = c.loop.invariant.2.2 in (puts _ _ _ _ may, puts_learns _ _ may)
