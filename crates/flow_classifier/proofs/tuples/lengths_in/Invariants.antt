use Rattle.flow_classifier.proofs.TupleLaws.{AreLengthsOf}
use Rattle.flow_classifier.proofs.tuples.lengths_in.Given as goal

-- the bits for which the rules so far ask are found
abbrev pub invariant-loop-row : goal.invariant-loop-row
invariant-loop-row l = AreLengthsOf l.found.items l.rules l.row-index
