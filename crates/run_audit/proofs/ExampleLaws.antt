-- The small run meets all that is asked of a run.
use Rattle.std.proofs.Common.{◌≡◌, ℕ, ◌-◌, ◌≤◌, zero, suc, false, List, [], ◌∷◌, refl, sym, ◌∙◌, ap, subst, arith, Some, None, inl, inr, nat_eq, nat_lt, is_some, option_and_then, IsPermutation, IsSome, All, AllPairs, Contains}
use Rattle.std.proofs.lemmas.List.Elements.{All-cons, All-nil}
use Rattle.std.proofs.lemmas.List.Sorted.{IsPermutation-refl}
use Rattle.std.proofs.lemmas.Option.{none-some, same_Some}
use Rattle.std.proofs.lemmas.Bool.{false≢true}
use Rattle.std.proofs.lemmas.Bool.Decides.{nat_tests}
use Rattle.std.specs.Option.{ForSome}
use Rattle.moment_core.specs.Conformance.{Keeps}
use Rattle.moment_core.specs.Metering.{opening, used}
use Rattle.envelope_core.proofs.Windows.{Keeps-nil, size_within_cases}
use Rattle.meter_book.specs.Replay.{Journal, journal_rows, row_of}
use Rattle.meter_book_base.specs.declared.any_meter.Parameters.{Parameters}
use Rattle.ds_domain_base.specs.Fitting.{lacks_link, names_unknown, repeats}
use Rattle.ds_domain_base.specs.Sent.{came}
use Rattle.ds_domain_base.specs.declared.contract.Contract.{Contract}
use Rattle.ds_domain_base.specs.declared.terms.Terms.{Terms}
use Rattle.ds_certificate.specs.Bounds.{Grows, IsCertificate}
use Rattle.ds_certificate.specs.Columns.{Bound}
use Rattle.ds_certificate.specs.Sources.{jitters_along, source_of}
use Rattle.ds_checker.specs.Acceptance.{Carries}
use Rattle.ds_checker.specs.Loads.{bound_into, shares_at}
use Rattle.af_marker.specs.CodePoints.{colour_at}
use Rattle.meter_fabric_base.specs.Grounds.{Ground, contract_of, ground_of}
use Rattle.meter_fabric_base.specs.Openings.{edge_opening, opening_at}
use Rattle.meter_fabric_base.specs.Sites.{hops_along}
use Rattle.meter_fabric_base.specs.Trails.{IsTrail}
use Rattle.run_audit.specs.Examples.{SmallRunIsKept, arrival_as_hop, contract_on, domain_with, meter_name, port_name, small_bound, small_journal, small_meter, small_parameters, small_passage, small_run, small_table, small_terms, table_with}
use Rattle.run_audit.specs.Premises.{IsInTime, IsTimely, KeepsSource, Premises}
use Rattle.run_audit.specs.Runs.{IsPassage, IsRun, Passage, told}
use Rattle.run_audit.specs.Sendings.{ForSent, Sending, sending_of}

-- ---- the least domain, whatever its meter and the terms of its contract

-- what holds of the only thing of a list
pub only : {X : Type 0} (P : X → Type 0) (x : X) → P x → All P (x ∷ [])
only P x holds = All-cons P x [] holds (All-nil P)

-- no two things stand in it
pub only_pairs : {X : Type 0} (R : X → X → Type 0) (x : X) → AllPairs R (x ∷ [])
only_pairs R x i j d first second = absurd (omega (arith, first, second))

-- there is no other contract, and so no other edge
pub nobody : (parameters : Parameters) (terms : Terms) (bound : Bound) (flow : ℕ)
    → contract_of (ground_of (table_with parameters terms bound)) (suc flow) ≡ None
nobody parameters terms bound flow =
    let other : nat_eq 0 (suc flow) ≡ false = grind (arith, nat_tests) in
    rw other refl

pub no_site : (parameters : Parameters) (terms : Terms) (bound : Bound) (flow : ℕ)
    → opening_at (ground_of (table_with parameters terms bound)) (suc (suc flow)) ≡ None
no_site parameters terms bound flow =
    let behind : nat_lt (suc (suc flow)) 1 ≡ false = grind (arith, nat_tests) in
    let edge : suc (suc flow) - 1 ≡ suc flow = omega arith in
    rw behind (rw edge (ap (option_and_then (edge_opening (domain_with parameters))) (nobody parameters terms bound flow)))

-- what holds of a packet as it was sent
pub as_sent : (g : Ground) (p : Passage) (c : Contract) (s : Sending) (P : Contract → Sending → Type 0)
    → contract_of g p.packet.flow ≡ Some c → sending_of c p ≡ Some s → P c s
    → ForSome (contract_of g p.packet.flow) (λ d. ForSome (sending_of d p) (P d))
as_sent g p c s P there sent holds d is t told =
    let contract : c ≡ d = same_Some c d (sym there ∙ is) in
    subst (λ (x : Contract). sending_of x p ≡ Some t → P x t) contract
    (λ own. subst (P c) (same_Some s t (sym sent ∙ own)) holds)
    told

-- what holds of the only packet of a run
pub only_sent : (g : Ground) (journals : List Journal) (p : Passage) (c : Contract) (s : Sending) (P : Contract → Sending → Type 0)
    → contract_of g p.packet.flow ≡ Some c → sending_of c p ≡ Some s → P c s
    → ForSent g (record { journals = journals; passages = p ∷ [] }) P
only_sent g journals p c s P there sent holds =
    only (λ q. ForSome (contract_of g q.packet.flow) (λ d. ForSome (sending_of d q) (P d))) p (as_sent g p c s P there sent holds)

-- ---- the small run

pub Keeps-one : (rate burst moment size : ℕ) → size ≤ burst → Keeps rate burst ((moment, size) ∷ [])
Keeps-one rate burst moment size small start end ordered =
    elim (size_within_cases start end (moment, size)) [
      | inl inside ↦ omega (arith, inside.2, small)
      | inr outside ↦ omega (arith, outside.1)
    ]

small_certificate : IsCertificate small_table.domain small_table.contracts small_table.certificate
unfolding lacks_link names_unknown repeats Grows jitters_along source_of
small_certificate = (((refl, refl), ((omega arith, (omega arith, tt)), ((omega arith, (omega arith, tt)), ((omega arith, (omega arith, tt)), tt)))), tt)

small_carries : All (λ entry. Carries entry.1 (shares_at small_table.domain entry.0 small_table.contracts small_table.certificate)) small_table.domain.meters
unfolding shares_at bound_into source_of
small_carries =
    only (λ entry. Carries entry.1 (shares_at small_table.domain entry.0 small_table.contracts small_table.certificate))
    (meter_name, record { parameters = small_parameters; skew = 0; origin = 0 })
    ((omega arith, omega arith), (omega arith, omega arith))

small_trail : IsPassage (ground_of small_table) small_passage
unfolding hops_along IsTrail came colour_at
small_trail = (contract_on small_terms, refl, (record { site = refl; arrival = refl; in_time = omega arith }, tt))

-- there is no site but the meter's: a trusted contract has no edge
small_sites : (site : ℕ) → IsSome (opening_at (ground_of small_table) site) → Contains (0 ∷ []) site
small_sites zero there = (0, omega arith, refl)
small_sites (suc zero) there = absurd (false≢true there)
small_sites (suc (suc flow)) there = absurd (false≢true (sym (ap is_some (no_site small_parameters small_terms small_bound flow)) ∙ there))

small_is_run : IsRun (ground_of small_table) small_run
small_is_run = record {
  journals = record {
    own = only (λ j. opening_at (ground_of small_table) j.site ≡ Some (record { meter = j.opening; skew = j.skew })) small_journal refl;
    once = only_pairs (λ j k. ¬ (j.site ≡ k.site)) small_journal;
    each = small_sites;
  };
  passages = only (IsPassage (ground_of small_table)) small_passage small_trail;
  numbers = only_pairs (λ p q. ¬ (p.packet.number ≡ q.packet.number)) small_passage;
  rows = only (λ j. IsPermutation (told j.site small_run.passages) (journal_rows j)) small_journal (IsPermutation-refl (journal_rows small_journal));
}

-- what holds of the packet as it was sent
small_sent : (P : Contract → Sending → Type 0)
    → P (contract_on small_terms) (record { moment = 0; colour = came (contract_on small_terms) 10; receipts = small_passage.receipts })
    → ForSent (ground_of small_table) small_run P
small_sent P holds =
    only_sent (ground_of small_table) (small_journal ∷ []) small_passage (contract_on small_terms)
    (record { moment = 0; colour = came (contract_on small_terms) 10; receipts = small_passage.receipts }) P refl refl holds

small_keeps : KeepsSource (ground_of small_table) small_run 0 (contract_on small_terms)
unfolding source_of came colour_at
small_keeps = (Keeps-one 8000 1500 0 100 (omega arith), (Keeps-one 8000 1500 0 100 (omega arith), (Keeps-nil 8000 1500, tt)))

small_source : (flow : ℕ) (c : Contract) → contract_of (ground_of small_table) flow ≡ Some c → KeepsSource (ground_of small_table) small_run flow c
small_source zero c is =
    let contract : contract_on small_terms ≡ c = same_Some (contract_on small_terms) c is in
    subst (KeepsSource (ground_of small_table) small_run 0) contract small_keeps
small_source (suc flow) c is = absurd (none-some c (sym (nobody small_parameters small_terms small_bound flow) ∙ is))

small_way : IsTimely small_table.domain port_name (meter_name ∷ []) 0 small_passage.receipts
unfolding IsTimely
small_way = ((omega arith, omega arith), tt)

small_late : All (λ r. r.late ≤ 0) (journal_rows small_journal)
unfolding used opening
small_late = only (λ r. r.late ≤ 0) (row_of small_meter 0 (arrival_as_hop 1)) (omega arith)

small_premises : Premises (ground_of small_table) small_run
small_premises = record {
  time = small_sent IsInTime (omega arith, λ until is. absurd (none-some until is));
  source = λ flow c is trusted. small_source flow c is;
  link = small_sent (λ c s. IsTimely small_table.domain c.port c.path s.moment s.receipts) small_way;
  skew = only (λ j. All (λ r. r.late ≤ j.skew) (journal_rows j)) small_journal small_late;
}

pub small_run_kept : SmallRunIsKept
small_run_kept = ((small_certificate, small_carries), small_is_run, small_premises)
