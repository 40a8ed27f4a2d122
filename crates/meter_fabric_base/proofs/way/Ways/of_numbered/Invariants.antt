use Rattle.std.proofs.Common.{◌≡◌, map, take}
use Rattle.meter_fabric_base.specs.Numbered.{numbered_ground}
use Rattle.meter_fabric_base.specs.Ways.{way_at}
use Rattle.meter_fabric_base.proofs.way.Ways.of_numbered.Given as goal

-- the ways of the contracts up to here
abbrev pub invariant-loop-place : goal.invariant-loop-place
invariant-loop-place l =
    l.ways.items ≡ map (way_at (numbered_ground l.numbered.accepted.now l.numbered.flows.now)) (take l.place l.numbered.flows.now)
