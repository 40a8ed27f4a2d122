use Rattle.std.proofs.Common.{rules}
use Rattle.lane.proofs.Order.{merges, forks}
use Rattle.lane.proofs.ends.meet.Goals as goal

pub absorb-requires-clause-rule : goal.absorb-requires-clause-rule
absorb-requires-clause-rule g c = merges _ _ _ _ c.putting.invariant.2 c.taking.invariant.3

pub another-taken-requires-clause-rule : goal.another-taken-requires-clause-rule
another-taken-requires-clause-rule g c = forks _ _ (search rules) (search rules)
