use Rattle.std.proofs.Common.{◌≡◌, map, take}
use Rattle.flow_classifier.proofs.tuples.flows_of.Given as goal

-- the flows of the rules so far
abbrev pub invariant-loop-row : goal.invariant-loop-row
invariant-loop-row l = l.flows.items ≡ map (λ row. row.flow) (take l.row-index l.rules)
