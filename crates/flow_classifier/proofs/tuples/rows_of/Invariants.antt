use Rattle.std.proofs.Common.{◌≡◌, ◌++◌, drop}
use Rattle.flow_classifier.specs.Tuples.{rows_from}
use Rattle.flow_classifier.proofs.tuples.rows_of.Given as goal

-- the rows so far, and those of the rules that are left, are those of all
abbrev pub invariant-loop-place : goal.invariant-loop-place
invariant-loop-place l = l.rows.items ++ rows_from l.lengths l.place (drop l.place l.rules) ≡ rows_from l.lengths 0 l.rules
