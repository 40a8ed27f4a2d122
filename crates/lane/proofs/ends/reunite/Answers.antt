use Rattle.std.proofs.Common.{rules}
use Rattle.lane.proofs.Order.{merges, left}
use Rattle.lane.proofs.ends.reunite.Goals as goal

pub absorb-requires-clause-rule : goal.absorb-requires-clause-rule
absorb-requires-clause-rule g c = merges _ _ _ _ c.putting.invariant.2 c.taking.invariant.3

pub learn_as-requires-clause-rule : goal.learn_as-requires-clause-rule
learn_as-requires-clause-rule g c = left _ _ (search rules) (search rules)
