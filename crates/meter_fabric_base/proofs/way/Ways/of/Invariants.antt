use Rattle.std.proofs.Common.{◌≡◌, map}
use Rattle.std.specs.List.{range_with_len}
use Rattle.meter_fabric_base.specs.Grounds.{ground_of}
use Rattle.meter_fabric_base.specs.Ways.{way_at}
use Rattle.meter_fabric_base.proofs.way.Ways.of.Given as goal

-- the ways of the contracts up to here
abbrev pub invariant-loop-flow : goal.invariant-loop-flow
invariant-loop-flow l = l.ways.items ≡ map (way_at (ground_of l.accepted)) (range_with_len 0 l.flow)
