-- The visits that packets make, in order.
use Rattle.std.specs.Prelude.{ℕ, suc, ◌+◌, ◌-◌, ◌^◌, min, nat_eq, nat_lt, Bool, ◌&&◌, ◌||◌, List, [], ◌∷◌, ◌++◌, map}
use Rattle.ds_checker.specs.Acceptance.{Table}
use Rattle.meter_fabric_base.specs.Orders.{in_order}
use Rattle.ds_conductor_base.specs.Ways.{stops_at, Stop}
use Rattle.ds_conductor_base.specs.declared.sent.Sent.{Sent}
use Rattle.ds_conductor_base.specs.declared.visit.Visit.{Visit}

-- so long after a moment, but not behind the last moment that there is
abbrev pub later : ℕ → ℕ → ℕ
later moment delay = min (moment + delay) (2 ^ 63 - 1)

-- the packet of a place comes to a stop
abbrev pub visit_to : ℕ → Sent → Stop → Visit
visit_to place s stop = record { place = place; hop = stop.hop; moment = later s.moment stop.delay }

-- the visits of packets, packet by packet, of which the first has this place
unfoldable pub visits_from : Table → ℕ → List Sent → List Visit
visits_from t place [] = []
visits_from t place (s ∷ sent) = map (visit_to place s) (stops_at t s.flow) ++ visits_from t (suc place) sent

-- a visit comes before another by its moment, then by its packet, then by its hop
abbrev pub is_before : Visit → Visit → Bool
is_before v w =
    nat_lt v.moment w.moment
    || nat_eq v.moment w.moment
    && (nat_lt v.place w.place || nat_eq v.place w.place && nat_lt v.hop.number w.hop.number)

-- all visits of packets, in their order
unfoldable pub visits_of : Table → List Sent → List Visit
visits_of t sent = in_order is_before (visits_from t 0 sent)

-- whether two visits are those of one packet to one hop
abbrev pub is_same : Visit → Visit → Bool
is_same v w = nat_eq v.place w.place && nat_eq v.hop.number w.hop.number
