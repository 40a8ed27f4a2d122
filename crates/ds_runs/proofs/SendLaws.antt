-- Packets that are sent, one after the other, before the first visit.
use Rattle.std.proofs.Common.{◌≡◌, ◌<◌, ℕ, suc, false, List, [], ◌∷◌, ◌++◌, append-nil, append_assoc, get_or, map, nat_eq, Option, None, Some, refl, sym, ap, ◌∙◌, arith, ◌||◌, option_map, AllPairs, IsSome, Ok, Result, ne_eqb}
use Rattle.std.specs.List.{All, list_any}
use Rattle.std.proofs.lemmas.List.{map_push}
use Rattle.std.proofs.lemmas.List.Elements.{All-head, All-push, All-tail}
use Rattle.ds_domain_base.specs.declared.contract.Contract.{Contract}
use Rattle.ds_checker.specs.Acceptance.{Table}
use Rattle.meter_fabric_base.specs.Grounds.{contract_of, ground_of}
use Rattle.meter_fabric_base.specs.Trails.{Packet}
use Rattle.meter_fabric_base.specs.Travels.{Traveller}
use Rattle.ds_runs.specs.Conducting.{conducted_from, going_on}
use Rattle.ds_runs.specs.Steps.{Stage, numbers_of, stepped}
use Rattle.ds_runs.specs.OnTheWay.{IsUnderWay}
use Rattle.ds_runs.specs.declared.fault.ConductFault.{ConductFault}
use Rattle.ds_runs.specs.declared.step.Step.{Step}
use Rattle.ds_runs.proofs.BeginningLaws.{beginning}
use Rattle.ds_runs.proofs.StepLaws.{send_begun}
use Rattle.ds_runs.proofs.OnTheWayLaws.{stepped_under_way}
use Rattle.ds_conductor_base.specs.Passing.{Carried, came_by, came_in}
use Rattle.ds_conductor_base.specs.declared.sent.Sent.{Sent}
use Rattle.ds_runs.specs.Behind.{packet_sent}
use Rattle.ds_runs.specs.Making.{send_step}
use Rattle.ds_runs.proofs.MeetLaws.{carried_by}

-- no number is as great as one above all
none_above : (number : ℕ) (ts : List Traveller) → All (λ p. p.packet.number < number) ts → list_any (nat_eq number) (numbers_of ts) ≡ false
none_above number [] below = refl
none_above number (p ∷ ts) below =
    let first = All-head (λ (p : Traveller). p.packet.number < number) p ts below in
    ap (λ b. b || list_any (nat_eq number) (numbers_of ts)) (ne_eqb number p.packet.number (λ same. omega (arith, first, same)))
    ∙ none_above number ts (All-tail (λ (p : Traveller). p.packet.number < number) p ts below)

found : {A : Type 0} (o : Option A) → IsSome o → (x : A) × (o ≡ Some x)
found None there = absurd cc
found (Some x) there = (x, refl)

abbrev packet_in : Traveller → Packet
packet_in p = p.packet

-- a packet of a contract that is there, with a number above all, begins
module _ (t : Table) (g : Stage) (s : Sent) (c : Contract) (is : contract_of (ground_of t) s.flow ≡ Some c) where
  abbrev begins : Traveller
  begins = beginning t (packet_sent s) c

  abbrev behind_sent : Stage
  behind_sent = record { travellers = g.travellers ++ begins ∷ []; books = g.books }

  send_goes : All (λ p. p.packet.number < s.packet) g.travellers → stepped t g (send_step s) ≡ Ok behind_sent
  send_goes below =
      send_begun t g s.flow s.packet s.size s.dscp s.moment begins (g.travellers ++ begins ∷ []) (none_above s.packet g.travellers below)
      (ap (option_map (beginning t (packet_sent s))) is) refl

  conducted_more : (index : ℕ) (back : List Sent) (rest : List Step) (made : Result Stage ConductFault) → All (λ p. p.packet.number < s.packet) g.travellers
      → conducted_from t behind_sent (suc index) (map send_step back ++ rest) ≡ made → conducted_from t g index (map send_step (s ∷ back) ++ rest) ≡ made
  unfolding conducted_from
  conducted_more index back rest made below onward =
      ap (going_on index (λ k. conducted_from t k (suc index) (map send_step back ++ rest))) (send_goes below) ∙ onward

  carried_begun : carried_by begins ≡ came_in t s
  carried_begun =
      let size : ℕ = s.size in
      ap (λ (o : Option Contract). let p : Carried = record { size = size; colour = came_by o s.dscp } in p) (sym is)

  -- the packets of a stage, with those that are sent behind it
  packets_more : (back : List Sent) (all : List Packet) → all ≡ map packet_in behind_sent.travellers ++ map packet_sent back
      → all ≡ map packet_in g.travellers ++ map packet_sent (s ∷ back)
  packets_more back all are =
      are ∙ ap (λ ps. ps ++ map packet_sent back) (map_push packet_in g.travellers begins)
      ∙ append_assoc (map packet_in g.travellers) (packet_sent s ∷ []) (map packet_sent back)

  carried_more : (back : List Sent) (all : List Carried) → all ≡ map carried_by behind_sent.travellers ++ map (came_in t) back
      → all ≡ map carried_by g.travellers ++ map (came_in t) (s ∷ back)
  carried_more back all are =
      are ∙ ap (λ ps. ps ++ map (came_in t) back) (map_push carried_by g.travellers begins)
      ∙ append_assoc (map carried_by g.travellers) (carried_by begins ∷ []) (map (came_in t) back)
      ∙ ap (λ p. map carried_by g.travellers ++ p ∷ map (came_in t) back) carried_begun

-- What was made of packets that were sent behind a stage: they are on their way behind the others, and nothing else
-- has changed.
pub record AreSent (t : Table) (g : Stage) (index : ℕ) (back : List Sent) (rest : List Step) : Type 0 where
  pub stage : Stage
  pub next : ℕ
  pub conducted : conducted_from t g index (map send_step back ++ rest) ≡ conducted_from t stage next rest
  pub under_way : IsUnderWay t stage
  pub books : stage.books ≡ g.books
  pub packets : map (λ p. p.packet) stage.travellers ≡ map (λ p. p.packet) g.travellers ++ map packet_sent back
  pub carried : map carried_by stage.travellers ≡ map carried_by g.travellers ++ map (came_in t) back
  pub fresh : All (λ p. p.receipts ≡ []) stage.travellers

pub all_sent : (t : Table) (g : Stage) (index : ℕ) (back : List Sent) (rest : List Step) → IsUnderWay t g → All (λ p. p.receipts ≡ []) g.travellers
    → All (λ s. IsSome (contract_of (ground_of t) s.flow)) back → AllPairs (λ s r. s.packet < r.packet) back
    → All (λ s. All (λ p. p.packet.number < s.packet) g.travellers) back → AreSent t g index back rest
unfolding conducted_from
all_sent t g index [] rest way fresh known rising below = record {
  stage = g;
  next = index;
  conducted = refl;
  under_way = way;
  books = refl;
  packets = sym (append-nil (map (λ (p : Traveller). p.packet) g.travellers));
  carried = sym (append-nil (map carried_by g.travellers));
  fresh = fresh;
}
all_sent t g index (s ∷ back) rest way fresh known rising below =
    let (c, is) = found (contract_of (ground_of t) s.flow) (All-head (λ s. IsSome (contract_of (ground_of t) s.flow)) s back known) in
    let b = begins t g s c is in
    let h = behind_sent t g s c is in
    let lower = All-head (λ s. All (λ p. p.packet.number < s.packet) g.travellers) s back below in
    let goes = send_goes t g s c is lower in
    let onward = all_sent t h (suc index) back rest (stepped_under_way t g h (send_step s) way goes)
    (All-push (λ (p : Traveller). p.receipts ≡ []) g.travellers b fresh refl)
    (All-tail (λ s. IsSome (contract_of (ground_of t) s.flow)) s back known)
    (λ i j d first short. rising (suc i) (suc j) d (omega (arith, first)) (omega (arith, short)))
    (λ k d short.
    All-push (λ (p : Traveller). p.packet.number < (get_or back k d).packet) g.travellers b
    (below (suc k) d (omega (arith, short)))
    (rising 0 (suc k) d (omega arith) (omega (arith, short)))) in
    record {
      stage = onward.stage;
      next = onward.next;
      conducted = conducted_more t g s c is index back rest (conducted_from t onward.stage onward.next rest) lower onward.conducted;
      under_way = onward.under_way;
      books = onward.books;
      packets = packets_more t g s c is back (map packet_in onward.stage.travellers) onward.packets;
      carried = carried_more t g s c is back (map carried_by onward.stage.travellers) onward.carried;
      fresh = onward.fresh;
    }
