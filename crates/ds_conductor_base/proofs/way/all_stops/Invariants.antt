use Rattle.std.proofs.Common.{◌≡◌, ◌<◌, ℕ, map}
use Rattle.std.specs.List.{range_with_len}
use Rattle.ds_conductor_base.specs.Ways.{AreNear, stops_at}
use Rattle.ds_conductor_base.proofs.way.all_stops.Given as goal

-- the stops of the contracts up to here
abbrev pub invariant-loop-flow : goal.invariant-loop-flow
invariant-loop-flow l = record {
  ways : l.ways.items ≡ map (stops_at l.accepted) (range_with_len 0 l.flow);
  reach : (flow : ℕ) → flow < l.flow → AreNear (stops_at l.accepted flow);
}
