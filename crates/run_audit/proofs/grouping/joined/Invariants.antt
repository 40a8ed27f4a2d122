use Rattle.std.proofs.Common.{◌≡◌, ◌++◌, drop, flat_map}
use Rattle.run_audit.proofs.grouping.joined.Given as goal

-- the trails so far, and those of the groups that are left
abbrev pub invariant-loop-group : goal.invariant-loop-group
invariant-loop-group l =
    l.trails.items ++ flat_map (λ group. group.items) (drop l.group-index l.groups) ≡ flat_map (λ group. group.items) l.groups
