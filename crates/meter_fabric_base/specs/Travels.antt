-- A traveller: a packet on its way, the hops of its way, and what it carried away from those that it has visited.
use Rattle.std.specs.Prelude.{ℕ, ◌-◌, nat_lt, List, [], ◌∷◌, ◌++◌, length, slice_get, option_map, unwrap_or, Option, None, Some, Result, Ok, Err, if◌then◌else◌}
use Rattle.moment_core.specs.declared.colour.Colour.{Colour}
use Rattle.meter_book.specs.Replay.{Book, note_of}
use Rattle.meter_book.specs.declared.book.NoteFault.{NoteFault}
use Rattle.meter_book.specs.declared.row.Row.{Row}
use Rattle.ds_domain_base.specs.Sent.{came}
use Rattle.meter_fabric_base.specs.Faults.{visit_fault_of}
use Rattle.meter_fabric_base.specs.Grounds.{Ground, contract_of}
use Rattle.meter_fabric_base.specs.Sites.{hops_of}
use Rattle.meter_fabric_base.specs.Trails.{Packet, arrival_at}
use Rattle.meter_fabric_base.specs.declared.fault.VisitFault.{VisitFault}
use Rattle.meter_fabric_base.specs.declared.fault.VisitFault.TheVariants.{PathEnded, NoMemory, BeforeLast}
use Rattle.meter_fabric_base.specs.declared.hop.Hop.{Hop}
use Rattle.meter_fabric_base.specs.declared.trail.Receipt.{Receipt}

-- the colour is the one that it comes in with at its first hop
pub record Traveller : Type 0 where
  pub packet : Packet
  pub came : Colour
  pub hops : List Hop
  pub receipts : List Receipt

-- a packet at its beginning, if its contract is there
abbrev pub begun_of : Ground → Packet → Option Traveller
begun_of g p = option_map
    (λ c. record { packet = p; came = came c p.dscp; hops = hops_of g.domain p.flow c; receipts = [] })
    (contract_of g p.flow)

-- the hop that it comes to next, none at the end of its way
abbrev pub next_hop : Traveller → Option Hop
next_hop t = slice_get t.hops (length t.receipts)

abbrev pub next_site : Traveller → Option ℕ
next_site t = option_map (λ hop. hop.site) (next_hop t)

abbrev pub last_receipt : List Receipt → Option Receipt
last_receipt receipts = slice_get receipts (length receipts - 1)

-- the moment of its last arrival, at first that of its beginning
abbrev pub last_moment : Traveller → ℕ
last_moment t = unwrap_or (option_map (λ r. r.row.arrival) (last_receipt t.receipts)) t.packet.begun

-- the colour that it comes in with next: the one that it left its last hop with
abbrev pub comes_as : Traveller → Colour
comes_as t = unwrap_or (option_map (λ r. r.row.left) (last_receipt t.receipts)) t.came

-- with one receipt more, of a hop's site
abbrev pub received : Traveller → Hop → Row → Traveller
received t hop row = record t { receipts = t.receipts ++ record { site = hop.site; row = row } ∷ [] }

-- the traveller keeps the row that a book noted, or what stands against that
abbrev pub keeping : Traveller → Hop → Result (Row × Book) NoteFault → Result (Traveller × Book) VisitFault
keeping t hop (Ok noted) = Ok (received t hop noted.0, noted.1)
keeping t hop (Err fault) = Err (visit_fault_of fault)

abbrev pub visit_at : Option Hop → Traveller → Book → ℕ → Result (Traveller × Book) VisitFault
visit_at None t b moment = Err PathEnded
visit_at (Some hop) t b moment =
    if nat_lt moment (last_moment t) then
    Err BeforeLast
    else
    keeping t hop (note_of b (arrival_at t.packet hop moment (comes_as t)))

-- A visit at a moment to the book of its next site: the traveller and the book behind it, or what stands against it.
abbrev pub visit : Traveller → Book → ℕ → Result (Traveller × Book) VisitFault
visit t b moment = visit_at (next_hop t) t b moment

-- what is answered where there was no visit: what stands against it, and where nothing does, that memory ran out
abbrev pub refusal_of : Result (Traveller × Book) VisitFault → VisitFault
refusal_of (Ok done) = NoMemory
refusal_of (Err fault) = fault
