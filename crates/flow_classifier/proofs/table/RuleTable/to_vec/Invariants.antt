use Rattle.std.proofs.Common.{◌≡◌, ◌++◌, drop}
use Rattle.flow_classifier.specs.Kept.{rules_in}
use Rattle.flow_classifier.proofs.table.RuleTable.to_vec.Given as goal

-- the rules so far, and those of the groups that are left, are all
abbrev pub invariant-loop-group : goal.invariant-loop-group
invariant-loop-group l = l.rules.items ++ rules_in (drop l.group-index l.group-items) ≡ l.self
