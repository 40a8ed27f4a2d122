use Rattle.std.proofs.Common.{◌≡◌, map, take}
use Rattle.std.specs.Prelude.{All}
use Rattle.flow_classifier.specs.Tuples.{IsTupleOf}
use Rattle.flow_classifier.proofs.tuples.tuples_of.Given as goal

-- a tuple for each of the lengths so far
abbrev pub invariant-loop-one : goal.invariant-loop-one
invariant-loop-one l = record {
  each : All (λ t. IsTupleOf l.rules t) l.tuples.items;
  same : map (λ t. t.lengths) l.tuples.items ≡ take l.one-index l.lengths;
}
