use Rattle.std.proofs.Common.{◌≡◌}
use Rattle.ds_conductor_base.proofs.way.number_all.Given as goal

-- the stops stay
abbrev pub invariant-loop-place : goal.invariant-loop-place
invariant-loop-place l = l.ways.items ≡ l.fn.ways.items
