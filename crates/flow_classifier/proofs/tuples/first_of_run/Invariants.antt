use Rattle.flow_classifier.proofs.TupleLaws.{NoneSoFar}
use Rattle.flow_classifier.proofs.tuples.first_of_run.Given as goal

-- none of the rules so far holds
abbrev pub invariant-loop-row : goal.invariant-loop-row
invariant-loop-row l = NoneSoFar l.run l.rules l.key l.row-index
