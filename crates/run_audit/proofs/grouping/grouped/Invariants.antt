use Rattle.std.proofs.Common.{◌<◌, IsPermutation, flat_map, length, take}
use Rattle.run_audit.proofs.grouping.grouped.Given as goal

-- those that are in groups are those so far
abbrev pub invariant-loop-trail : goal.invariant-loop-trail
invariant-loop-trail l =
    IsPermutation (take l.trail-index l.trails) (flat_map (λ group. group.items) l.groups.items) × (0 < length l.groups.items)
