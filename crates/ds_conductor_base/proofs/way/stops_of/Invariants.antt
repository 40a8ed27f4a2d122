use Rattle.std.proofs.Common.{◌≡◌, ◌+◌, ◌*◌, ◌≤◌, ◌^◌, ◌++◌, drop}
use Rattle.ds_conductor_base.specs.Ways.{AreNear, edge_stops, stops_on}
use Rattle.ds_conductor_base.proofs.way.stops_of.Given as goal

-- the stops so far, and those of the legs that are left
abbrev pub invariant-loop-leg : goal.invariant-loop-leg
invariant-loop-leg l = record {
  counted : l.number ≡ l.leg-index;
  reached : l.delay ≤ l.leg-index * 10 ^ 10;
  near : AreNear l.stops.items;
  value : l.stops.items ++ stops_on (l.number + 1) l.delay (drop l.leg-index l.legs) ≡ edge_stops l.domain l.flow l.contract.terms ++ stops_on 1 0 l.legs;
}
