use Rattle.std.proofs.Common.{◌≡◌, drop}
use Rattle.flow_classifier.specs.Kept.{rules_in}
use Rattle.flow_classifier.specs.Tables.{first_flow_of}
use Rattle.flow_classifier.proofs.table.first_in.Given as goal

-- no rule of the groups so far holds
abbrev pub invariant-loop-group : goal.invariant-loop-group
invariant-loop-group l =
    first_flow_of (rules_in l.groups) l.key ≡ first_flow_of (rules_in (drop l.group-index l.groups)) l.key
