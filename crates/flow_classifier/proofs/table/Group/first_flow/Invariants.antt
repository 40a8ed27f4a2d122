use Rattle.std.proofs.Common.{◌≡◌, drop}
use Rattle.flow_classifier.specs.Tables.{first_flow_of}
use Rattle.flow_classifier.proofs.table.Group.first_flow.Given as goal

-- none of the rules so far holds
abbrev pub invariant-loop-row : goal.invariant-loop-row
invariant-loop-row l = first_flow_of l.initial.row-items l.key ≡ first_flow_of (drop l.row-index l.row-items) l.key
