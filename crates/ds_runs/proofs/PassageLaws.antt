-- The passages of a run behind packets that are sent, one by one.
use Rattle.std.proofs.Common.{◌≡◌, ◌<◌, ◌≤◌, ◌+◌, ◌-◌, ◌*◌, ◌^◌, ℕ, zero, suc, Bool, true, false, cond, List, [], ◌∷◌, ◌++◌, length, map, get_or, Option, None, Some, refl, sym, ap, subst, ◌∙◌, arith, All, filter}
use Rattle.std.specs.Prelude.{⊤, slice_get}
use Rattle.std.proofs.lemmas.List.Elements.{All-head, All-tail}
use Rattle.moment_core.specs.declared.colour.Colour.{Colour}
use Rattle.ds_domain_base.specs.Domains.{Domain}
use Rattle.ds_domain_base.specs.Sent.{came}
use Rattle.ds_domain_base.specs.declared.contract.Contract.{Contract}
use Rattle.ds_domain_base.specs.declared.terms.Terms.{Terms}
use Rattle.ds_domain_base.specs.declared.terms.Terms.TheVariants.{Trusted, Policed}
use Rattle.ds_checker.specs.Acceptance.{Table}
use Rattle.meter_fabric_base.specs.Grounds.{contract_of, ground_of}
use Rattle.meter_fabric_base.specs.Trails.{Packet}
use Rattle.meter_fabric_base.specs.declared.trail.Receipt.{Receipt}
use Rattle.run_audit.specs.Runs.{Passage}
use Rattle.run_audit.specs.Sendings.{Sending, sending_by, sending_of}
use Rattle.run_audit.specs.Verdicts.{first_found, first_of}
use Rattle.ds_conductor_base.specs.Visits.{later, visit_to}
use Rattle.ds_conductor_base.specs.Ways.{AreNear, edge_stops, stops_along, stops_by, Stop}
use Rattle.ds_conductor_base.specs.declared.sent.Sent.{Sent}
use Rattle.ds_conductor_base.specs.declared.visit.Visit.{Visit}
use Rattle.ds_runs.specs.Behind.{MadeItsVisits, packet_sent, visit_told}

-- no visit of a packet is later than the last moment that there is
abbrev pub IsTimed : Sent → Type 0
IsTimed s = s.moment < 2 ^ 63 - 2 ^ 40

-- the passage of a packet that is sent
abbrev pub MadeOf : Table → ℕ → Sent → Passage → Type 0
MadeOf t place s p = (p.packet ≡ packet_sent s) × MadeItsVisits t place s p

-- the passages of packets, of which the first has this place
unfoldable pub AreMade : Table → ℕ → List Sent → List Passage → Type 0
AreMade t place [] [] = ⊤
AreMade t place [] (p ∷ passages) = ⊥
AreMade t place (s ∷ sent) [] = ⊥
AreMade t place (s ∷ sent) (p ∷ passages) = MadeOf t place s p × AreMade t (suc place) sent passages

pub are_made : (t : Table) (place : ℕ) (sent : List Sent) (passages : List Passage) → map (λ p. p.packet) passages ≡ map packet_sent sent
    → ((i : ℕ) (s : Sent) (p : Passage) → slice_get sent i ≡ Some s → slice_get passages i ≡ Some p → MadeItsVisits t (place + i) s p)
    → AreMade t place sent passages
unfolding AreMade
are_made t place [] [] packets visits = tt
are_made t place [] (p ∷ passages) packets visits = absurd cc
are_made t place (s ∷ sent) [] packets visits = absurd cc
are_made t place (s ∷ sent) (p ∷ passages) packets visits =
    let here : p.packet ≡ packet_sent s = cc in
    let rest : map (λ (q : Passage). q.packet) passages ≡ map packet_sent sent = cc in
    let first : place + 0 ≡ place = omega arith in (
      (here, subst (λ n. MadeItsVisits t n s p) first (visits 0 s p refl refl)),
      are_made t (suc place) sent passages rest
          (λ i r q at to.
          let next : place + suc i ≡ suc place + i = omega arith in
          subst (λ n. MadeItsVisits t n r q) next (visits (suc i) r q at to)),
    )

-- ---- tests along passages

pub found_made : {B : Type 0} (t : Table) (find : Passage → Option B) (told : Sent → Option B)
    → ((place : ℕ) (s : Sent) (p : Passage) → IsTimed s → MadeOf t place s p → find p ≡ told s)
    → (place : ℕ) (sent : List Sent) (passages : List Passage) → All IsTimed sent → AreMade t place sent passages
    → first_found find passages ≡ first_found told sent
unfolding AreMade first_found
found_made t find told same place [] [] timed made = refl
found_made t find told same place [] (p ∷ passages) timed made = absurd made
found_made t find told same place (s ∷ sent) [] timed made = absurd made
found_made {B} t find told same place (s ∷ sent) (p ∷ passages) timed made =
    ap (λ (here : Option B). first_of here (first_found find passages)) (same place s p (All-head IsTimed s sent timed) made.0)
    ∙ ap (first_of (told s)) (found_made t find told same (suc place) sent passages (All-tail IsTimed s sent timed) made.1)

pub filter_made : (t : Table) (picks : Passage → Bool) (takes : Sent → Bool)
    → ((place : ℕ) (s : Sent) (p : Passage) → MadeOf t place s p → picks p ≡ takes s)
    → (place : ℕ) (sent : List Sent) (passages : List Passage) → AreMade t place sent passages
    → map (λ p. p.packet) (filter picks passages) ≡ map packet_sent (filter takes sent)
unfolding AreMade
filter_made t picks takes same place [] [] made = refl
filter_made t picks takes same place [] (p ∷ passages) made = absurd made
filter_made t picks takes same place (s ∷ sent) [] made = absurd made
filter_made t picks takes same place (s ∷ sent) (p ∷ passages) made =
    by_test (picks p) (takes s) (same place s p made.0) (filter_made t picks takes same (suc place) sent passages made.1)
  where
    by_test : (a b : Bool) → a ≡ b → map (λ q. q.packet) (filter picks passages) ≡ map packet_sent (filter takes sent)
        → map (λ q. q.packet) (cond a (p ∷ filter picks passages) (filter picks passages)) ≡ map packet_sent (cond b (s ∷ filter takes sent) (filter takes sent))
    by_test true true is further =
        ap (λ (packet : Packet). packet ∷ map (λ q. q.packet) (filter picks passages)) made.0.0 ∙ ap (λ (packets : List Packet). packet_sent s ∷ packets) further
    by_test false false is further = further
    by_test true false is further = absurd cc
    by_test false true is further = absurd cc

-- ---- as what a packet was sent, and what it visited since

pub record SentSo (place : ℕ) (s : Sent) (stops : List Stop) (found : Option Sending) : Type 0 where
  pub sending : Sending
  pub is : found ≡ Some sending
  pub moment : sending.moment ≡ s.moment
  pub visits : map (visit_told place) sending.receipts ≡ map (visit_to place s) stops

at_once : (moment : ℕ) → moment < 2 ^ 63 - 2 ^ 40 → later moment 0 ≡ moment
at_once moment timed = grind arith

sent_by : (d : Domain) (flow place : ℕ) (s : Sent) (stops : List Stop) (terms : Terms) (colour : Colour) (begun : ℕ) (receipts : List Receipt)
    → begun ≡ s.moment → IsTimed s → map (visit_told place) receipts ≡ map (visit_to place s) (edge_stops d flow terms ++ stops)
    → SentSo place s stops (sending_by terms colour begun receipts)
sent_by d flow place s stops (Trusted committed peak) colour begun receipts is timed visits = record {
  sending = record { moment = begun; colour = colour; receipts = receipts };
  is = refl;
  moment = is;
  visits = visits;
}
sent_by d flow place s stops (Policed parameters mode) colour begun [] is timed visits = absurd cc
sent_by d flow place s stops (Policed parameters mode) colour begun (edge ∷ receipts) is timed visits =
    let first : edge.row.arrival ≡ later s.moment 0 = first_moment visits in
    record {
      sending = record { moment = edge.row.arrival; colour = edge.row.left; receipts = receipts };
      is = refl;
      moment = first ∙ at_once s.moment timed;
      visits = rest_of visits;
    }
  where
    first_moment : {v w : Visit} {vs ws : List Visit} → v ∷ vs ≡ w ∷ ws → v.moment ≡ w.moment
    first_moment {v} {w} same = let here : v ≡ w = cc in ap (λ (u : Visit). u.moment) here

    rest_of : {v w : Visit} {vs ws : List Visit} → v ∷ vs ≡ w ∷ ws → vs ≡ ws
    rest_of same = cc

pub sent_so : (t : Table) (place : ℕ) (s : Sent) (p : Passage) (c : Contract) → IsTimed s → MadeOf t place s p → contract_of (ground_of t) s.flow ≡ Some c
    → SentSo place s (stops_along t.domain 1 c.port 0 c.path) (sending_of c p)
sent_so t place s p c timed made known =
    sent_by t.domain s.flow place s (stops_along t.domain 1 c.port 0 c.path) c.terms (came c p.packet.dscp) p.packet.begun p.receipts
    (ap (λ (packet : Packet). packet.begun) made.0) timed
    (made.1 ∙ ap (λ (found : Option Contract). map (visit_to place s) (stops_by t.domain s.flow found)) known)

-- the meters' stops are as near as all of a contract's
near_by : (d : Domain) (flow : ℕ) (terms : Terms) (stops : List Stop) → AreNear (edge_stops d flow terms ++ stops) → AreNear stops
near_by d flow (Trusted committed peak) stops near = near
near_by d flow (Policed parameters mode) stops near = All-tail (λ (stop : Stop). stop.delay ≤ 16 * 10 ^ 10) _ stops near

pub near_along : (t : Table) (flow : ℕ) (c : Contract) → contract_of (ground_of t) flow ≡ Some c → AreNear (stops_by t.domain flow (contract_of (ground_of t) flow))
    → AreNear (stops_along t.domain 1 c.port 0 c.path)
near_along t flow c known near =
    near_by t.domain flow c.terms (stops_along t.domain 1 c.port 0 c.path) (subst (λ (found : Option Contract). AreNear (stops_by t.domain flow found)) known near)
