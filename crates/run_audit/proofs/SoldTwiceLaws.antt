-- The run over a share that is sold twice meets all that is asked of it.
use Rattle.std.proofs.Common.{◌≡◌, ℕ, ◌+◌, ◌-◌, ◌≤◌, zero, suc, Bool, true, false, [], ◌∷◌, refl, sym, ◌∙◌, ap, subst, arith, Option, Some, None, inl, inr, nat_eq, nat_lt, filter, is_some, option_and_then, option_map, IsPermutation, IsSome, All, Contains}
use Rattle.std.specs.Option.{ForSome}
use Rattle.std.proofs.lemmas.Bool.{cases_lt, false≢true}
use Rattle.std.proofs.lemmas.Bool.Decides.{nat_tests}
use Rattle.std.proofs.lemmas.List.Elements.{All-cons}
use Rattle.std.proofs.lemmas.List.Kept.{AllPairs-cons}
use Rattle.std.proofs.lemmas.List.Sorted.{IsPermutation-refl}
use Rattle.std.proofs.lemmas.Option.{none-some, same_Some}
use Rattle.moment_core.specs.Metering.{after, opening, used}
use Rattle.envelope_core.proofs.Windows.{Keeps-nil}
use Rattle.meter_book.specs.Replay.{journal_rows, row_of}
use Rattle.ds_domain_base.specs.Fitting.{lacks_link, names_unknown, repeats}
use Rattle.ds_domain_base.specs.Lifetimes.{Span}
use Rattle.ds_domain_base.specs.Sent.{came}
use Rattle.ds_domain_base.specs.declared.contract.Contract.{Contract}
use Rattle.ds_certificate.specs.Bounds.{Grows}
use Rattle.ds_certificate.specs.Rates.{HasRates}
use Rattle.ds_certificate.specs.Sources.{jitters_along, source_of}
use Rattle.ds_checker.specs.Acceptance.{Carries, IsAcceptable}
use Rattle.ds_checker.specs.Holds.{greatest, hold_of, holds_along}
use Rattle.ds_checker.specs.Loads.{bound_into, shares_at}
use Rattle.af_marker.specs.CodePoints.{colour_at}
use Rattle.ds_timeline.specs.Timelines.{AreRated, IsCovered, IsHeld, IsRated, is_reserved, reservation_of, table_at, table_by}
use Rattle.ds_timeline.specs.declared.reservation.Reservation.{Reservation}
use Rattle.meter_fabric_base.specs.Grounds.{contract_of}
use Rattle.meter_fabric_base.specs.Openings.{edge_opening, opening_at}
use Rattle.meter_fabric_base.specs.Sites.{hops_along}
use Rattle.meter_fabric_base.specs.Trails.{IsTrail}
use Rattle.run_audit.specs.Examples.{meter_name, port_name, small_bound, small_meter, small_parameters}
use Rattle.run_audit.specs.KeptColours.{WasGranted}
use Rattle.run_audit.specs.Premises.{IsInTime, IsTimely, KeepsSource, Premises}
use Rattle.run_audit.specs.Runs.{IsPassage, IsRun, told}
use Rattle.run_audit.specs.Sendings.{ForSent, Sending, sending_of}
use Rattle.run_audit.specs.SoldTwiceExample.{ShareSoldTwiceIsKept, burst_arrival, contract_for, first_contract, first_passage, first_reservation, resale, resold, resold_ground, resold_journal, resold_run, second_contract, second_passage, second_reservation, used_meter}
use Rattle.run_audit.proofs.ExampleLaws.{Keeps-one, as_sent, only, only_pairs}

both : {X : Type 0} (P : X → Type 0) (x y : X) → P x → P y → All P (x ∷ y ∷ [])
both P x y first second = All-cons P x (y ∷ []) first (only P y second)

-- ---- the timeline

-- one contract at a time is acceptable, whichever its time is
one_acceptable : (flow from : ℕ) (lifetime : Span) (retirement : Option ℕ)
    → IsAcceptable (table_by resold.domain (record { flow = flow; contract = contract_for lifetime; bounds = small_bound ∷ small_bound ∷ []; from = from; retirement = retirement } ∷ []))
unfolding lacks_link names_unknown repeats Grows jitters_along source_of shares_at bound_into
one_acceptable flow from lifetime retirement = (
  (((refl, refl), ((omega arith, (omega arith, tt)), ((omega arith, (omega arith, tt)), ((omega arith, (omega arith, tt)), tt)))), tt),
  only (λ entry. Carries entry.1 (shares_at resold.domain entry.0 (contract_for lifetime ∷ []) ((small_bound ∷ small_bound ∷ []) ∷ [])))
      (meter_name, record { parameters = small_parameters; skew = 0; origin = 0 }) ((omega arith, omega arith), (omega arith, omega arith)),
)

-- but not both at once
not_both : ¬ IsAcceptable (table_by resold.domain resold.reservations)
unfolding source_of shares_at bound_into
not_both met =
    let carries = met.1 0 (meter_name, record { parameters = small_parameters; skew = 0; origin = 0 }) (omega arith) in
    let rate = carries.0.0 in
    absurd (omega (arith, rate))

first_only : (test : Reservation → Bool) (x y : Reservation) → test x ≡ true → test y ≡ false → filter test (x ∷ y ∷ []) ≡ x ∷ []
first_only test x y first second = rw (first, second) refl

second_only : (test : Reservation → Bool) (x y : Reservation) → test x ≡ false → test y ≡ true → filter test (x ∷ y ∷ []) ≡ y ∷ []
second_only test x y first second = rw (first, second) refl

-- the share is the first contract's until it is sold again, and then the second one's
resold_acceptable : (moment : ℕ) → IsAcceptable (table_at resold moment)
resold_acceptable moment =
    elim (cases_lt moment resale) [
      | inl early ↦
          let first : is_reserved first_reservation moment ≡ true = grind (arith, nat_tests, early) in
          let second : is_reserved second_reservation moment ≡ false = grind (arith, nat_tests, early) in
          subst (λ rs. IsAcceptable (table_by resold.domain rs)) (sym (first_only (λ r. is_reserved r moment) first_reservation second_reservation first second))
          (one_acceptable 0 0 first_contract.lifetime (Some resale))
      | inr later ↦
          let first : is_reserved first_reservation moment ≡ false = grind (arith, nat_tests, later) in
          let second : is_reserved second_reservation moment ≡ true = grind (arith, nat_tests, later) in
          subst (λ rs. IsAcceptable (table_by resold.domain rs)) (sym (second_only (λ r. is_reserved r moment) first_reservation second_reservation first second))
          (one_acceptable 1 resale second_contract.lifetime None)
    ]

-- the share is held for as long as the rate takes for the burst
first_hold : 1 + hold_of resold.domain first_contract (small_bound ∷ small_bound ∷ []) ≤ resale
unfolding source_of holds_along greatest
first_hold = omega arith

first_held : IsHeld resold.domain first_reservation
first_held moment is =
    subst (λ end. 1 + hold_of resold.domain first_contract (small_bound ∷ small_bound ∷ []) ≤ end) (same_Some resale moment is) first_hold

first_rated : HasRates resold.domain first_contract
unfolding source_of
first_rated = (omega arith, (omega arith, (omega arith, tt)))

resold_covered : IsCovered resold
resold_covered = record {
  apart =
      AllPairs-cons (λ r s. ¬ (r.flow ≡ s.flow)) first_reservation (second_reservation ∷ [])
      (only (λ s. ¬ (0 ≡ s.flow)) second_reservation (λ same. omega (arith, same))) (only_pairs (λ r s. ¬ (r.flow ≡ s.flow)) second_reservation);
  begun = both (λ r. r.from ≤ r.contract.lifetime.since) first_reservation second_reservation (omega arith) (omega arith);
  held = both (IsHeld resold.domain) first_reservation second_reservation first_held (λ moment some. absurd (none-some moment some));
  acceptable = resold_acceptable;
}

resold_rated : AreRated resold
resold_rated = both (IsRated resold.domain) first_reservation second_reservation (λ moment some. first_rated) (λ moment some. absurd (none-some moment some))

-- ---- the ground

-- there is no other contract, and no edge
nobody_else : (flow : ℕ) → contract_of resold_ground (suc (suc flow)) ≡ None
nobody_else flow =
    let first : nat_eq 0 (suc (suc flow)) ≡ false = grind (arith, nat_tests) in
    let second : nat_eq 1 (suc (suc flow)) ≡ false = grind (arith, nat_tests) in
    rw (first, second) refl

resold_granted : WasGranted resold resold_ground
resold_granted = record { domain = refl; contracts = granted }
  where
    granted : (flow : ℕ) (c : Contract) → contract_of resold_ground flow ≡ Some c → option_map (λ (r : Reservation). r.contract) (reservation_of resold flow) ≡ Some c
    granted zero c is = is
    granted (suc zero) c is = is
    granted (suc (suc flow)) c is = absurd (none-some c (sym (nobody_else flow) ∙ is))

no_edge : (flow : ℕ) → option_and_then (edge_opening resold.domain) (contract_of resold_ground flow) ≡ None
no_edge zero = refl
no_edge (suc zero) = refl
no_edge (suc (suc flow)) = ap (option_and_then (edge_opening resold.domain)) (nobody_else flow)

no_other_site : (flow : ℕ) → opening_at resold_ground (suc flow) ≡ None
no_other_site flow =
    let behind : nat_lt (suc flow) 1 ≡ false = grind (arith, nat_tests) in
    let edge : suc flow - 1 ≡ flow = omega arith in
    rw behind (rw edge (no_edge flow))

resold_sites : (site : ℕ) → IsSome (opening_at resold_ground site) → Contains (0 ∷ []) site
resold_sites zero there = (0, omega arith, refl)
resold_sites (suc flow) there = absurd (false≢true (sym (ap is_some (no_other_site flow)) ∙ there))

-- ---- the run

first_trail : IsPassage resold_ground first_passage
unfolding hops_along IsTrail came colour_at
first_trail = (first_contract, refl, (record { site = refl; arrival = refl; in_time = omega arith }, tt))

second_trail : IsPassage resold_ground second_passage
unfolding hops_along IsTrail came colour_at
second_trail = (second_contract, refl, (record { site = refl; arrival = refl; in_time = omega arith }, tt))

resold_is_run : IsRun resold_ground resold_run
resold_is_run = record {
  journals = record {
    own = only (λ j. opening_at resold_ground j.site ≡ Some (record { meter = j.opening; skew = j.skew })) resold_journal refl;
    once = only_pairs (λ j k. ¬ (j.site ≡ k.site)) resold_journal;
    each = resold_sites;
  };
  passages = both (IsPassage resold_ground) first_passage second_passage first_trail second_trail;
  numbers =
      AllPairs-cons (λ p q. ¬ (p.packet.number ≡ q.packet.number)) first_passage (second_passage ∷ [])
      (only (λ q. ¬ (0 ≡ q.packet.number)) second_passage (λ same. omega (arith, same)))
      (only_pairs (λ p q. ¬ (p.packet.number ≡ q.packet.number)) second_passage);
  rows = only (λ j. IsPermutation (told j.site resold_run.passages) (journal_rows j)) resold_journal (IsPermutation-refl (journal_rows resold_journal));
}

-- ---- its premises

-- what holds of both packets as they were sent
both_sent : (P : Contract → Sending → Type 0)
    → P first_contract (record { moment = 0; colour = came first_contract 10; receipts = first_passage.receipts })
    → P second_contract (record { moment = resale; colour = came second_contract 10; receipts = second_passage.receipts })
    → ForSent resold_ground resold_run P
both_sent P first second =
    both (λ p. ForSome (contract_of resold_ground p.packet.flow) (λ c. ForSome (sending_of c p) (P c))) first_passage second_passage
    (as_sent resold_ground first_passage first_contract (record { moment = 0; colour = came first_contract 10; receipts = first_passage.receipts }) P refl refl first)
    (as_sent resold_ground second_passage second_contract (record { moment = resale; colour = came second_contract 10; receipts = second_passage.receipts }) P refl refl second)

first_keeps : KeepsSource resold_ground resold_run 0 first_contract
unfolding source_of came colour_at
first_keeps = (Keeps-one 8000 1500 0 1500 (omega arith), (Keeps-one 8000 1500 0 1500 (omega arith), (Keeps-nil 8000 1500, tt)))

second_keeps : KeepsSource resold_ground resold_run 1 second_contract
unfolding source_of came colour_at
second_keeps = (Keeps-one 8000 1500 resale 1500 (omega arith), (Keeps-one 8000 1500 resale 1500 (omega arith), (Keeps-nil 8000 1500, tt)))

resold_source : (flow : ℕ) (c : Contract) → contract_of resold_ground flow ≡ Some c → KeepsSource resold_ground resold_run flow c
resold_source zero c is = subst (KeepsSource resold_ground resold_run 0) (same_Some first_contract c is) first_keeps
resold_source (suc zero) c is = subst (KeepsSource resold_ground resold_run 1) (same_Some second_contract c is) second_keeps
resold_source (suc (suc flow)) c is = absurd (none-some c (sym (nobody_else flow) ∙ is))

first_way : IsTimely resold.domain port_name (meter_name ∷ []) 0 first_passage.receipts
unfolding IsTimely used opening
first_way = ((omega arith, omega arith), tt)

second_way : IsTimely resold.domain port_name (meter_name ∷ []) resale second_passage.receipts
unfolding IsTimely
second_way = ((omega arith, omega arith), tt)

-- the meter uses neither later than it arrives
resold_late : All (λ r. r.late ≤ 0) (journal_rows resold_journal)
unfolding used opening after
resold_late = both (λ r. r.late ≤ 0) (row_of small_meter 0 (burst_arrival 0 0)) (row_of used_meter 1 (burst_arrival 1 resale)) (omega arith) (omega arith)

resold_premises : Premises resold_ground resold_run
resold_premises = record {
  time = both_sent IsInTime (omega arith, λ until is. let end = same_Some 1 until is in omega (arith, end)) (omega arith, λ until is. absurd (none-some until is));
  source = λ flow c is trusted. resold_source flow c is;
  link = both_sent (λ c s. IsTimely resold.domain c.port c.path s.moment s.receipts) first_way second_way;
  skew = only (λ j. All (λ r. r.late ≤ j.skew) (journal_rows j)) resold_journal resold_late;
}

pub share_sold_twice_kept : ShareSoldTwiceIsKept
share_sold_twice_kept = (not_both, resold_covered, resold_rated, resold_granted, resold_is_run, resold_premises)
