use Rattle.std.proofs.Common.{◌≡◌, ◌++◌, drop}
use Rattle.std.specs.List.{filter}
use Rattle.flow_classifier.specs.Families.{can_take_ipv4, can_take_ipv6}
use Rattle.flow_classifier.proofs.families.RuleTables.of.Given as goal

-- the rules so far of each family, and those that are left, are all of the family
abbrev pub invariant-loop-row : goal.invariant-loop-row
invariant-loop-row l = record {
  ipv4 : l.ipv4 ++ filter (λ row. can_take_ipv4 row.rule) (drop l.row-index l.rules) ≡ filter (λ row. can_take_ipv4 row.rule) l.rules;
  ipv6 : l.ipv6 ++ filter (λ row. can_take_ipv6 row.rule) (drop l.row-index l.rules) ≡ filter (λ row. can_take_ipv6 row.rule) l.rules;
}
