use Rattle.std.proofs.Common.{◌≡◌}
use Rattle.ds_conductor_base.proofs.way.Stops.number.Given as goal

-- the stops stay
abbrev pub invariant-loop-place : goal.invariant-loop-place
invariant-loop-place l = l.self-inside.stops.items ≡ l.fn.self
