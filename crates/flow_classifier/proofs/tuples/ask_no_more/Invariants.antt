use Rattle.flow_classifier.proofs.TupleLaws.{AskNoMoreSoFar}
use Rattle.flow_classifier.proofs.tuples.ask_no_more.Given as goal

-- the rules so far that ask for the bits ask for no more
abbrev pub invariant-loop-row : goal.invariant-loop-row
invariant-loop-row l = AskNoMoreSoFar l.lengths l.rules l.row-index
