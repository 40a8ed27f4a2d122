-- What the fields of a traveller stand for, and what they keep.
use Rattle.std.specs.Prelude.{◌≤◌, length, vec_capacity}
use Rattle.meter_fabric_base.specs.Trails.{IsTrail, packet_of}
use Rattle.meter_fabric_base.specs.Travels.{Traveller}
use Rattle.meter_fabric_base.specs.declared.traveller.Traveller.TheInside as traveller

abbrev pub traveller_of : traveller.Inside → Traveller
traveller_of t =
    record { packet = packet_of t.trail; came = t.came; hops = t.way; receipts = t.trail.receipts.items }

-- the receipts are a trail along the hops, and there is room for one of each hop
pub record IsTraveller (t : traveller.Inside) : Type 0 where
  pub trail : IsTrail (packet_of t.trail) t.trail.begun t.came t.way t.trail.receipts.items
  pub room : length t.way ≤ vec_capacity t.trail.receipts
