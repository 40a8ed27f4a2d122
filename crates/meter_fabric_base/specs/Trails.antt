-- The trail of a packet: what it carried away from each hop of its way so far.
use Rattle.std.specs.Prelude.{◌≡◌, ℕ, ◌≤◌, ⊤, List, [], ◌∷◌}
use Rattle.moment_core.specs.declared.colour.Colour.{Colour}
use Rattle.meter_book.specs.declared.row.Arrival.{Arrival}
use Rattle.meter_book.specs.declared.row.Row.{Row}
use Rattle.meter_fabric_base.specs.declared.hop.Hop.{Hop}
use Rattle.meter_fabric_base.specs.declared.trail.Receipt.{Receipt}
use Rattle.meter_fabric_base.specs.declared.trail.Trail.{Trail}

-- a packet as it begins: the number of its contract, its own number, its size, its code point, and when
pub record Packet : Type 0 where
  pub flow : ℕ
  pub number : ℕ
  pub size : ℕ
  pub dscp : ℕ
  pub begun : ℕ

-- the packet of a trail
abbrev pub packet_of : Trail → Packet
packet_of trail = record {
  flow = trail.flow;
  number = trail.packet;
  size = trail.size;
  dscp = trail.dscp;
  begun = trail.begun;
}

-- a packet as it arrives at a hop, at a moment and with a colour
abbrev pub arrival_at : Packet → Hop → ℕ → Colour → Arrival
arrival_at p hop moment came = record {
  flow = p.flow;
  packet = p.number;
  hop = hop.number;
  moment = moment;
  size = p.size;
  came = came;
}

-- what of a row is the arrival
abbrev pub arrival_of : Row → Arrival
arrival_of r =
    record { flow = r.flow; packet = r.packet; hop = r.hop; moment = r.arrival; size = r.size; came = r.came }

-- a receipt of a packet's arrival at a hop, with a colour and not before a moment
pub record IsReceipt (p : Packet) (since : ℕ) (came : Colour) (hop : Hop) (r : Receipt) : Type 0 where
  pub site : r.site ≡ hop.site
  pub arrival : arrival_of r.row ≡ arrival_at p hop r.row.arrival came
  pub in_time : since ≤ r.row.arrival

-- The receipts are those of the first hops in order. The packet comes to each as it left the one before, and not
-- earlier.
unfoldable pub IsTrail : Packet → ℕ → Colour → List Hop → List Receipt → Type 0
IsTrail p since came hops [] = ⊤
IsTrail p since came [] (r ∷ receipts) = ⊥
IsTrail p since came (hop ∷ hops) (r ∷ receipts) =
    IsReceipt p since came hop r × IsTrail p r.row.arrival r.row.left hops receipts
