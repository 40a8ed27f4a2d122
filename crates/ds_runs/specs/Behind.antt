-- The run behind packets that are sent, where each link takes its floor and one worker makes all visits in their order.
use Rattle.std.specs.Prelude.{◌≡◌, ℕ, ◌-◌, ◌<◌, ◌≤◌, ◌^◌, nat_eq, true, List, All, AllPairs, IsSome, filter, length, is_some, map, option_map, slice_get, unwrap_or, Option, Some}
use Rattle.std.specs.List.{range_with_len}
use Rattle.moment_core.specs.declared.colour.Colour.{Colour}
use Rattle.meter_book.specs.declared.row.Arrival.{Arrival}
use Rattle.ds_checker.specs.Acceptance.{Table}
use Rattle.meter_fabric_base.specs.Grounds.{contract_of, ground_of}
use Rattle.meter_fabric_base.specs.Openings.{opening_at, site_count}
use Rattle.meter_fabric_base.specs.Trails.{Packet}
use Rattle.meter_fabric_base.specs.Travels.{last_receipt}
use Rattle.meter_fabric_base.specs.declared.trail.Receipt.{Receipt}
use Rattle.run_audit.specs.Runs.{IsRun, Passage, Run}
use Rattle.ds_conductor_base.specs.Passing.{colours_of}
use Rattle.ds_conductor_base.specs.Streams.{rise_from}
use Rattle.ds_conductor_base.specs.Visits.{visit_to, visits_of}
use Rattle.ds_conductor_base.specs.Ways.{stops_at}
use Rattle.ds_conductor_base.specs.declared.sent.Sent.{Sent}
use Rattle.ds_conductor_base.specs.declared.visit.Visit.{Visit}

-- What can be sent, and judged: moments do not fall, packet numbers rise, each contract is there, no visit is later
-- than the last moment that there is, and no meter is visited more often than a book gives places.
pub record AreSendable (t : Table) (sent : List Sent) : Type 0 where
  pub rising : rise_from 0 sent ≡ true
  pub numbered : AllPairs (λ s r. s.packet < r.packet) sent
  pub known : All (λ s. IsSome (contract_of (ground_of t) s.flow)) sent
  pub timed : All (λ s. s.moment < 2 ^ 63 - 2 ^ 40) sent
  pub few : length sent ≤ 2 ^ 44

-- a packet as a run has it
abbrev pub packet_sent : Sent → Packet
packet_sent s =
    record { flow = s.flow; number = s.packet; size = s.size; dscp = s.dscp; begun = s.moment }

-- the visit that a receipt tells of, by the packet of a place
abbrev pub visit_told : ℕ → Receipt → Visit
visit_told place r =
    record { place = place; hop = record { number = r.row.hop; site = r.site }; moment = r.row.arrival }

-- the packet of a place made all its visits, in their order, and no others
abbrev pub MadeItsVisits : Table → ℕ → Sent → Passage → Type 0
MadeItsVisits t place s p = map (visit_told place) p.receipts ≡ map (visit_to place s) (stops_at t s.flow)

-- the colour that a packet left its last meter with
abbrev pub left_last : Passage → Option Colour
left_last p = option_map (λ r. r.row.left) (last_receipt p.receipts)

-- the number of the packet of a place
abbrev pub number_at : List Sent → ℕ → ℕ
number_at sent place = unwrap_or (option_map (λ s. s.packet) (slice_get sent place)) 0

-- what an arrival and a visit say: the packet's number, the number of its hop, and when
abbrev pub arrival_told : Arrival → ℕ × ℕ × ℕ
arrival_told a = (a.packet, a.hop, a.moment)

abbrev pub visit_noted : List Sent → Visit → ℕ × ℕ × ℕ
visit_noted sent v = (number_at sent v.place, v.hop.number, v.moment)

-- the visits to a site, in their order
abbrev pub visits_at : Table → List Sent → ℕ → List Visit
visits_at t sent site = filter (λ v. nat_eq v.hop.site site) (visits_of t sent)

-- A run whose packets are those that are sent, each of which made all its visits; whose journals note them in the order
-- of visits; and whose packets left their last meters with the colours that are marked.
pub record IsBehind (t : Table) (sent : List Sent) (made : Run) : Type 0 where
  pub run : IsRun (ground_of t) made
  pub packets : map (λ p. p.packet) made.passages ≡ map packet_sent sent
  pub visits : (place : ℕ) (s : Sent) (p : Passage) → slice_get sent place ≡ Some s
      → slice_get made.passages place ≡ Some p → MadeItsVisits t place s p
  pub journals : All (λ j. map (λ a. a.moment) j.arrivals ≡ map (λ v. v.moment) (visits_at t sent j.site)) made.journals
  pub arrivals : All (λ j. map arrival_told j.arrivals ≡ map (visit_noted sent) (visits_at t sent j.site)) made.journals
  pub sites : map (λ j. j.site) made.journals
      ≡ filter (λ site. is_some (opening_at (ground_of t) site)) (range_with_len 0 (site_count t))
  pub colours : map left_last made.passages ≡ map (λ c. Some c) (colours_of t sent)
