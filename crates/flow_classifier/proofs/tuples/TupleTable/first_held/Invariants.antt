use Rattle.std.proofs.Common.{◌<◌, ◌≤◌, length}
use Rattle.flow_classifier.specs.Tuples.{IsHeldAt}
use Rattle.flow_classifier.proofs.TupleLaws.{NoneIn}
use Rattle.flow_classifier.proofs.tuples.TupleTable.first_held.Given as goal

-- the first place at which a rule of the tuples so far holds
abbrev pub invariant-loop-tuple : goal.invariant-loop-tuple
invariant-loop-tuple l = record {
  within : l.first ≤ length l.self-inside.rules.items;
  here : l.first < length l.self-inside.rules.items → IsHeldAt l.self-inside.rules.items l.key l.first;
  before : NoneIn l.self-inside.tuples.items l.self-inside.rules.items l.key l.tuple-index l.first;
}
