-- Packets under way: those that were sent and whose colours were not handed out, and the visits that they still make.
use Rattle.std.specs.Prelude.{◌≡◌, ◌<◌, ◌^◌, Bool, true, ◌&&◌, ℕ, suc, ◌+◌, ◌≤◌, nat_eq, nat_le, nat_lt, List, [], ◌∷◌, ◌++◌, length, map, Option, None, Some, IfSome, if◌then◌else◌}
use Rattle.std.specs.List.{All, IsDistinct, filter, list_any}
use Rattle.moment_core.specs.declared.colour.Colour.{Colour}
use Rattle.meter_fabric_base.specs.Orders.{in_order}
use Rattle.ds_checker.specs.Acceptance.{Table}
use Rattle.meter_fabric_base.specs.Grounds.{contract_of, ground_of}
use Rattle.ds_conductor_base.specs.Passing.{Carried, Traffic, came_in, colours_in, entered, passed_all}
use Rattle.ds_conductor_base.specs.Visits.{is_before, is_same, visit_to, visits_from}
use Rattle.ds_conductor_base.specs.Ways.{stops_at}
use Rattle.ds_conductor_base.specs.declared.sent.Sent.{Sent}
use Rattle.ds_conductor_base.specs.declared.visit.Visit.{Visit}

-- the meters and the packets, and the visits that were not made yet, in their order
pub record Stream : Type 0 where
  pub table : Table
  pub traffic : Traffic
  pub waiting : List Visit

-- before the first packet
abbrev pub begun : Table → Stream
begun t = record { table = t; traffic = entered t []; waiting = [] }

-- packets behind those that are there
abbrev pub with_packets : Traffic → List Carried → Traffic
with_packets g packets = record g { packets = g.packets ++ packets }

-- the place among all packets that the next one gets
abbrev pub next_place : Stream → ℕ
next_place u = u.traffic.first + length u.traffic.packets

-- the visits of packets that are sent behind those that are there
abbrev pub visits_behind : Stream → List Sent → List Visit
visits_behind u sent = visits_from u.table (next_place u) sent

-- one packet more is sent: all its visits wait from then on
abbrev pub with_sent : Stream → Sent → Stream
with_sent u s = record u {
  traffic = with_packets u.traffic (came_in u.table s ∷ []);
  waiting = in_order is_before (u.waiting ++ map (visit_to (next_place u) s) (stops_at u.table s.flow));
}

-- the visits at or before a moment, and those after it
abbrev pub due : ℕ → List Visit → List Visit
due moment visits = filter (λ v. nat_le v.moment moment) visits

abbrev pub late : ℕ → List Visit → List Visit
late moment visits = filter (λ v. nat_lt moment v.moment) visits

-- all visits at or before a moment are made
abbrev pub made_due : ℕ → Stream → Stream
made_due moment u =
    record u { traffic = passed_all u.traffic (due moment u.waiting); waiting = late moment u.waiting }

-- the colour of the first packet, if it has made all its visits
abbrev pub decided_by : ℕ → List Visit → List Carried → Option Colour
decided_by first waiting [] = None
decided_by first waiting (p ∷ packets) =
    if list_any (λ v. nat_eq v.place first) waiting then None else Some p.colour

abbrev pub decided : Stream → Option Colour
decided u = decided_by u.traffic.first u.waiting u.traffic.packets

-- without the first packet
abbrev pub behind_first : List Carried → List Carried
behind_first [] = []
behind_first (p ∷ packets) = packets

abbrev pub handed_by : Option Colour → Stream → Stream
handed_by None u = u
handed_by (Some colour) u = record u {
  traffic = record u.traffic { first = suc u.traffic.first; packets = behind_first u.traffic.packets };
}

-- where its colour is decided, the first packet is handed out
abbrev pub handed : Stream → Stream
handed u = handed_by (decided u) u

-- packets that come to no stop before a moment
abbrev pub ComeFrom : Table → ℕ → List Sent → Type 0
ComeFrom t moment sent = All (λ s. All (λ stop. moment ≤ s.moment + stop.delay) (stops_at t s.flow)) sent

-- packets that are sent at a port at a moment or later: those of contracts there
abbrev pub AreSentAt : Table → List ℕ → ℕ → List Sent → Type 0
AreSentAt t port moment sent =
    All (λ s. (moment ≤ s.moment) × IfSome (contract_of (ground_of t) s.flow) (λ c. c.port ≡ port)) sent

-- whether packets are sent at moments that do not fall, and the first at this moment or later
unfoldable pub rise_from : ℕ → List Sent → Bool
rise_from moment [] = true
rise_from moment (s ∷ sent) = nat_le moment s.moment && rise_from s.moment sent

-- The colours that are still to come, in the order in which their packets were sent, where these packets are sent
-- behind those that are there, and no others.
unfoldable pub colours_left : Stream → List Sent → List Colour
colours_left u back = colours_in
    (passed_all (with_packets u.traffic (map (came_in u.table) back))
    (in_order is_before (u.waiting ++ visits_behind u back))).packets

-- whether a visit is of one of so many packets, of which the first has this place
abbrev pub IsAmong : ℕ → ℕ → Visit → Type 0
IsAmong first count v = (first ≤ v.place) × (v.place < first + count)

-- Waiting visits stand in their order, no two are those of one packet to one hop, and each is of a packet that is
-- there, at a moment that there is.
pub record IsStream (u : Stream) : Type 0 where
  pub ordered : in_order is_before u.waiting ≡ u.waiting
  pub apart : IsDistinct is_same u.waiting
  pub among : All (IsAmong u.traffic.first (length u.traffic.packets)) u.waiting
  pub timed : All (λ v. v.moment < 2 ^ 63) u.waiting
