use Rattle.std.proofs.Common.{rules}
use Rattle.lane.proofs.Order.{begins, forks}
use Rattle.lane.proofs.ends.lane.Goals as goal

pub bounded_with-requires-clause-rule : goal.bounded_with-requires-clause-rule
bounded_with-requires-clause-rule g c = begins

pub another-taken-requires-clause-rule : goal.another-taken-requires-clause-rule
another-taken-requires-clause-rule g c = forks _ _ (search rules) (search rules)
