-- What a step makes, by what is found of its packet's number.
use Rattle.std.proofs.Common.{◌≡◌, ℕ, zero, suc, true, false, List, [], ◌∷◌, ◌++◌, Option, None, Some, Result, Ok, Err, nat_eq, position, is_some, refl, sym, ◌∙◌, ap, subst, ◌↔◌, option_map, slice_get, slice_set, IfErr, OnOk, OnErr}
use Rattle.std.specs.List.{list_any}
use Rattle.std.specs.Map.{keys_of, values_of}
use Rattle.std.proofs.lemmas.List.{map_push}
use Rattle.indexmap.specs.IndexMap.{IndexMap, get, insert_entry, keys, set_value_at, values, with_value_at}
use Rattle.indexmap.proofs.CallerLemmas.{insert_entry-new, keys-with_value_at}
use Rattle.std.proofs.lemmas.Map.Made.{is_some-lookup}
use Rattle.std.proofs.lemmas.Option.{same_Some}
use Rattle.meter_book.specs.Replay.{Book}
use Rattle.ds_domain_base.specs.declared.contract.Contract.{Contract}
use Rattle.ds_checker.specs.Acceptance.{Table}
use Rattle.meter_fabric_base.specs.Grounds.{contract_of, ground_of}
use Rattle.meter_fabric_base.specs.Trails.{Packet}
use Rattle.meter_fabric_base.specs.Travels.{Traveller, begun_of}
use Rattle.meter_fabric_base.specs.declared.fault.BeginFault.{BeginFault}
use Rattle.meter_fabric_base.specs.declared.fault.BeginFault.TheVariants as begins
use Rattle.meter_fabric_base.specs.Travels as visits
use Rattle.meter_fabric_base.specs.declared.fault.VisitFault.{VisitFault}
use Rattle.ds_runs.specs.Faults.{begin_fault_of, visit_fault_of}
use Rattle.ds_runs.specs.KeptConductors.{Conduct}
use Rattle.ds_runs.specs.Steps.{Stage, as_step, numbers_of, put_back, refusal_of, sent, stepped, visited_by, visited_from, visited_next, with_books}
use Rattle.ds_runs.proofs.ListLaws.{set_same}
use Rattle.ds_runs.specs.OnTheWay.{IsUnderWay}
use Rattle.ds_runs.specs.declared.fault.StepFault.{StepFault}
use Rattle.ds_runs.specs.declared.fault.StepFault.TheVariants.{BadStep, NoMemory}
use Rattle.ds_runs.specs.declared.step.Step.TheVariants.{Send, Visit}
use Rattle.ds_runs.proofs.BeginningLaws.{beginning}
use Rattle.ds_runs.proofs.OnTheWayLaws.{stepped_under_way}
use Rattle.ds_runs.proofs.VisitingLaws.{numbers_visited}

unfound : {A : Type 0} (found : Option A) → is_some found ≡ false → found ≡ None
unfound None absent = refl
unfound (Some x) absent = absurd cc

-- packets that are kept by their numbers
module _ {S : Type 0} (old : IndexMap ℕ Traveller S) (packet : ℕ) (kept : keys old ≡ numbers_of (values old)) where
  -- a number was sent before where a packet is kept by it
  pub sent_before : list_any (nat_eq packet) (numbers_of (values old)) ≡ is_some (get nat_eq old packet)
  sent_before = ap (list_any (nat_eq packet)) (sym kept) ∙ sym (is_some-lookup (nat_eq packet) old.entries)

  -- a packet of a new number stands behind the others
  module _ (new : IndexMap ℕ Traveller S) (p : Traveller) (fresh : is_some (get nat_eq old packet) ≡ false)
      (put : new.entries ≡ insert_entry nat_eq old.entries packet p) where
    pushed : new.entries ≡ old.entries ++ (packet, p) ∷ []
    pushed = put ∙ insert_entry-new nat_eq old packet p (unfound (get nat_eq old packet) fresh)

    pub values_sent : values new ≡ values old ++ p ∷ []
    values_sent = ap values_of pushed ∙ map_push (λ (e : ℕ × Traveller). e.1) old.entries (packet, p)

    pub keys_sent : p.packet.number ≡ packet → keys new ≡ numbers_of (values new)
    keys_sent own =
        ap keys_of pushed ∙ map_push (λ (e : ℕ × Traveller). e.0) old.entries (packet, p)
        ∙ ap (λ ns. ns ++ packet ∷ []) kept ∙ ap (λ n. numbers_of (values old) ++ n ∷ []) (sym own)
        ∙ sym (map_push (λ (q : Traveller). q.packet.number) (values old) p) ∙ ap numbers_of (sym values_sent)

-- a packet put in place of another
values-with_value_at : {S : Type 0} (m : IndexMap ℕ Traveller S) (i : ℕ) (t : Traveller) → values (with_value_at m i t) ≡ slice_set (values m) i t
values-with_value_at m i t = by m.entries i
  where
    by : (es : List (ℕ × Traveller)) (i : ℕ) → values_of (set_value_at es i t) ≡ slice_set (values_of es) i t
    by [] i = refl
    by (e ∷ es) zero = refl
    by (e ∷ es) (suc i) = ap (λ ts. e.1 ∷ ts) (by es i)

module _ (t : Table) (g : Stage) (flow packet size dscp moment : ℕ) where
  abbrev own : Packet
  own = record { flow = flow; number = packet; size = size; dscp = dscp; begun = moment }

  -- a number that was sent before
  pub send_known : list_any (nat_eq packet) (numbers_of g.travellers) ≡ true → stepped t g (Send flow packet size dscp moment) ≡ Err BadStep
  unfolding stepped
  send_known known = rw known refl

  -- a number that was not
  send_new : (begun : Option Traveller) → list_any (nat_eq packet) (numbers_of g.travellers) ≡ false
      → begun_of (ground_of t) (record { flow = flow; number = packet; size = size; dscp = dscp; begun = moment }) ≡ begun
      → stepped t g (Send flow packet size dscp moment) ≡ sent g begun
  unfolding stepped
  send_new begun new is = rw new (ap (sent g) is)

  pub send_begun : (p : Traveller) (ts : List Traveller) → list_any (nat_eq packet) (numbers_of g.travellers) ≡ false
      → begun_of (ground_of t) own ≡ Some p → ts ≡ g.travellers ++ p ∷ []
      → stepped t g (Send flow packet size dscp moment) ≡ Ok (record { travellers = ts; books = g.books })
  send_begun p ts new is pushed = send_new (Some p) new is ∙ ap (λ us. Ok (record { travellers = us; books = g.books })) (sym pushed)

  pub send_refused : {A : Type 0} (fault : BeginFault) → list_any (nat_eq packet) (numbers_of g.travellers) ≡ false
      → (◌≡◌ {A = Result A BeginFault} (Err fault) (Err begins.UnknownFlow) ↔ (contract_of (ground_of t) flow ≡ None))
      → begin_fault_of fault ≡ refusal_of (stepped t g (Send flow packet size dscp moment))
  send_refused begins.UnknownFlow new unknown = sym (ap (refusal_of {A = Stage}) (send_new None new (ap (option_map _) (unknown.0 refl))))
  send_refused begins.NoMemory new unknown = by (contract_of (ground_of t) flow) refl
    where
      by : (found : Option Contract) → contract_of (ground_of t) flow ≡ found → NoMemory ≡ refusal_of (stepped t g (Send flow packet size dscp moment))
      by None is = let other = unknown.1 is in absurd cc
      by (Some c) is = sym (ap (refusal_of {A = Stage}) (send_new (Some (beginning t own c)) new (ap (option_map (beginning t own)) is)))

  -- what was to begin, where memory ran out
  pub send_memory : (p : Traveller) → list_any (nat_eq packet) (numbers_of g.travellers) ≡ false → begun_of (ground_of t) own ≡ Some p
      → NoMemory ≡ refusal_of (stepped t g (Send flow packet size dscp moment))
  send_memory p new is = sym (ap (refusal_of {A = Stage}) (send_new (Some p) new is))

  -- the packet that begins is of that number
  pub begun_number : (p : Traveller) → begun_of (ground_of t) own ≡ Some p → p.packet.number ≡ packet
  begun_number p is = by (contract_of (ground_of t) flow) is
    where
      by : (found : Option Contract) → option_map (beginning t own) found ≡ Some p → p.packet.number ≡ packet
      by None is = absurd cc
      by (Some c) is = ap (λ (q : Traveller). q.packet.number) (sym (same_Some _ p is))

module _ (t : Table) (g : Stage) (packet moment : ℕ) where
  pub visit_unknown : position (nat_eq packet) (numbers_of g.travellers) ≡ None → stepped t g (Visit packet moment) ≡ Err BadStep
  unfolding stepped
  visit_unknown none = rw none refl

-- what stands against a visit stands against the step
put_back_refused : (g : Stage) (place : ℕ) (r : Result (Traveller × List (Option Book)) StepFault) → refusal_of (put_back g place r) ≡ refusal_of r
put_back_refused g place (Ok done) = refl
put_back_refused g place (Err fault) = refl

pub with_books_refused : (books : List (Option Book)) (site : ℕ) (r : Result (Traveller × Option Book) StepFault) → refusal_of (with_books books site r) ≡ refusal_of r
with_books_refused books site (Ok done) = refl
with_books_refused books site (Err fault) = refl

pub as_step_refused : (r : Result (Traveller × Book) VisitFault) → refusal_of (as_step r) ≡ visit_fault_of (visits.refusal_of r)
as_step_refused (Ok done) = refl
as_step_refused (Err fault) = refl

-- a packet that is kept by its number, and is put back where it stood
module _ {S : Type 0} (t : Table) (kept : IndexMap ℕ Traveller S) (books : List (Option Book)) (packet moment place : ℕ) (p : Traveller) (own : keys kept ≡ numbers_of (values kept))
    (found : position (nat_eq packet) (keys kept) ≡ Some place) (there : slice_get (values kept) place ≡ Some p) where
  abbrev before : Stage
  before = record { travellers = values kept; books = books }

  abbrev behind : Traveller → List (Option Book) → Stage
  behind q after = record { travellers = values (with_value_at kept place q); books = after }

  known : stepped t before (Visit packet moment) ≡ visited_by before moment place (slice_get (values kept) place)
  unfolding stepped
  known = ap (visited_from before moment) (ap (position (nat_eq packet)) (sym own) ∙ found)

  goes_on : visited_by before moment place (slice_get (values kept) place) ≡ put_back before place (visited_next p books moment)
  goes_on = ap (visited_by before moment place) there

  made : (q : Traveller) (after : List (Option Book)) → visited_next p books moment ≡ Ok (q, after)
      → visited_by before moment place (slice_get (values kept) place) ≡ Ok (behind q after)
  made q after done =
      goes_on ∙ ap (put_back before place) done ∙ ap (λ ts. Ok (record { travellers = ts; books = after })) (sym (values-with_value_at kept place q))

  pub visit_done : {A : Type 0} (q : Traveller) (after : List (Option Book)) (result : Result A StepFault) → OnOk result (visited_next p books moment ≡ Ok (q, after))
      → OnOk result (stepped t before (Visit packet moment) ≡ Ok (behind q after))
  visit_done q after (Ok x) done = known ∙ made q after done
  visit_done q after (Err fault) done = done

  pub visit_refused : {A : Type 0} (result : Result A StepFault) → IfErr result (λ fault. fault ≡ refusal_of (visited_next p books moment))
      → IfErr result (λ fault. fault ≡ refusal_of (stepped t before (Visit packet moment)))
  visit_refused (Ok x) refused = refused
  visit_refused (Err fault) refused = refused ∙ sym (put_back_refused before place (visited_next p books moment)) ∙ sym (ap (refusal_of {A = Stage}) (known ∙ goes_on))

  unchanged : (q : Traveller) (after : List (Option Book)) → q ≡ p → after ≡ books → behind q after ≡ before
  unchanged q after same all =
      let stays : values (with_value_at kept place q) ≡ values kept = values-with_value_at kept place q ∙ set_same (values kept) place q (there ∙ ap Some (sym same)) in
      ap (λ ts. record { travellers = ts; books = after }) stays ∙ ap (λ bs. record { travellers = values kept; books = bs }) all

  pub visit_unchanged : {A : Type 0} (q : Traveller) (after : List (Option Book)) (result : Result A StepFault) → OnErr result ((q ≡ p) × (after ≡ books))
      → OnErr result (◌≡◌ {A = Conduct} (record { table = t; stage = behind q after }) (record { table = t; stage = before }))
  visit_unchanged q after (Ok x) same = same
  visit_unchanged q after (Err fault) same = ap (λ (g : Stage). record { table = t; stage = g }) (unchanged q after same.0 same.1)

  -- the packets stay on their way, and keep their numbers, whether the packet went on or not
  pub visit_keeps : {A : Type 0} (q : Traveller) (after : List (Option Book)) (result : Result A StepFault) → IsUnderWay t before
      → OnOk result (visited_next p books moment ≡ Ok (q, after)) → OnErr result ((q ≡ p) × (after ≡ books))
      → IsUnderWay t (behind q after) × (keys (with_value_at kept place q) ≡ numbers_of (values (with_value_at kept place q)))
  visit_keeps q after (Ok x) way done same = (
    stepped_under_way t before (behind q after) (Visit packet moment) way (known ∙ made q after done),
    keys-with_value_at kept place q ∙ own ∙ sym (numbers_visited before (behind q after) place moment (made q after done)),
  )
  visit_keeps q after (Err fault) way done same =
      let stays = unchanged q after same.0 same.1 in
      (subst (IsUnderWay t) (sym stays) way, keys-with_value_at kept place q ∙ own ∙ ap (λ (g : Stage). numbers_of g.travellers) (sym stays))
