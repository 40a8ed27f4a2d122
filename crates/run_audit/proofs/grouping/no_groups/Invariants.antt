use Rattle.std.proofs.Common.{◌≡◌, [], flat_map}
use Rattle.run_audit.proofs.grouping.no_groups.Given as goal

-- no group has a trail
abbrev pub invariant-loop : goal.invariant-loop
invariant-loop l = flat_map (λ group. group.items) l.groups.items ≡ []
