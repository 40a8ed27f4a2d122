-- What stands at a site stays one of what opened there.
use Rattle.std.proofs.Common.{◌≡◌, ◌≢◌, ℕ, zero, suc, ◌+◌, ◌<◌, ◌≤◌, Bool, true, false, List, [], ◌∷◌, ◌++◌, length, Option, None, Some, ◌⊎◌, inl, inr, refl, sym, ap, subst, ◌∙◌, arith, nat_eq, nat_lt, option_map, reverse, slice_get, if◌then◌else◌, IsSomeAnd, Ok}
use Rattle.std.proofs.lemmas.Bool.{cases_lt}
use Rattle.std.proofs.lemmas.Bool.Decides.{nat_tests}
use Rattle.std.proofs.lemmas.List.{reverse-append}
use Rattle.std.proofs.lemmas.Option.{slice_get_within}
use Rattle.ds_domain_base.specs.declared.contract.Contract.{Contract}
use Rattle.ds_domain_base.specs.declared.parts.Meter.{Meter}
use Rattle.meter_book_base.specs.AnyMeter.{after_any}
use Rattle.meter_book_base.specs.Envelopes.{mode_of, parameters_of}
use Rattle.meter_book_base.specs.OutputLaws.{stays_itself-any}
use Rattle.meter_book_base.specs.declared.any_meter.AnyMeter.{AnyMeter}
use Rattle.meter_book.specs.Chapters.{after_cut}
use Rattle.meter_book.specs.Replay.{Book, is_shut_by, meter_after, next_row, note_fault, noted, offer_of, room_of, unless}
use Rattle.meter_book.specs.declared.book.NoteFault.{NoteFault}
use Rattle.meter_book.specs.declared.book.NoteFault.TheVariants as notes
use Rattle.meter_book.specs.declared.row.Arrival.{Arrival}
use Rattle.meter_fabric_base.specs.Openings.{book_with, edge_opening, meter_opening}
use Rattle.meter_fabric_base.specs.Trails.{arrival_at}
use Rattle.meter_fabric_base.specs.Travels.{Traveller, comes_as, keeping, last_moment, next_hop, next_site, received, visit, visit_at}
use Rattle.meter_fabric_base.specs.declared.hop.Hop.{Hop}
use Rattle.meter_fabric_base.specs.declared.site.Opening.{Opening}
use Rattle.meter_fabric_base.specs.declared.fault.VisitFault.TheVariants as visits
use Rattle.meter_fabric.specs.Fabrics.{Fabric, IsBookAt, OpensAt, StandFrom, StandsAt, after_shut, book_at, first_book, sites_of}
use Rattle.meter_fabric.specs.Visits.{IsRefusedFor, IsVisited, refusal_here, standing_with, visit_here}

-- ---- a book stays one of what opened at its site

meter_kept : (m : AnyMeter) (as_ : List Arrival) → (mode_of (meter_after m as_) ≡ mode_of m) × (parameters_of (meter_after m as_) ≡ parameters_of m)
meter_kept m [] = (refl, refl)
meter_kept m (a ∷ as_) =
    let here = stays_itself-any m (offer_of a) in
    let rest = meter_kept (after_any m (offer_of a)) as_ in
    (rest.0 ∙ here.0, rest.1 ∙ here.1)

first_kept : (m o : AnyMeter) (place : ℕ) (as_ : List Arrival) → (place ≡ 0 → m ≡ o) → place + length as_ ≡ 0 → meter_after m as_ ≡ o
first_kept m o place [] first none = first (omega (arith, none))
first_kept m o place (a ∷ as_) first none = absurd (omega (arith, none))

module _ (f : Fabric) (site : ℕ) (b : Book) (is : IsBookAt f site b) where
  pub stands_noted : (a : Arrival) → IsBookAt f site (noted b a)
  stands_noted a = record { opening = is.opening; opens = is.opens; own = is.own; room = is.room; open_meter = is.open_meter }

  pub stands_cut : IsBookAt f site (after_cut b)
  stands_cut = record {
    opening = is.opening;
    opens = is.opens;
    own = record {
      mode = (meter_kept b.opening.meter b.arrivals).0 ∙ is.own.mode;
      parameters = (meter_kept b.opening.meter b.arrivals).1 ∙ is.own.parameters;
      skew = is.own.skew;
      first = first_kept b.opening.meter is.opening.meter b.opening.place b.arrivals is.own.first;
    };
    room = is.room;
    open_meter = is.open_meter;
  }

  pub stands_shut : (moment : ℕ) → length f.domain.meters ≤ site → IsBookAt f site (after_shut moment b)
  stands_shut moment slot =
      record { opening = is.opening; opens = is.opens; own = is.own; room = is.room; open_meter = λ below. absurd (omega (arith, slot, below)) }

-- ---- what stands at first

pub stands_fresh : (f : Fabric) (site : ℕ) (o : Opening) → OpensAt f site o → IsBookAt f site (book_with f.capacity o)
stands_fresh f site o opens = record {
  opening = o;
  opens = opens;
  own = record { mode = refl; parameters = refl; skew = refl; first = λ none. refl };
  room = refl;
  open_meter = λ below. refl;
}

past_none : {A : Type 0} (xs : List A) (i : ℕ) → slice_get xs i ≡ None → length xs ≤ i
past_none [] i is = omega arith
past_none (x ∷ xs) zero is = absurd cc
past_none (x ∷ xs) (suc i) is = let rest : length xs ≤ i = past_none xs i is in omega (arith, rest)

opens_meter : (f : Fabric) (site : ℕ) (entry : List ℕ × Meter) → slice_get f.domain.meters site ≡ Some entry → OpensAt f site (meter_opening entry.1)
opens_meter f site entry is = record {
  meter = λ below. ap (λ (found : Option (List ℕ × Meter)). option_map (λ e. meter_opening e.1) found) is;
  edge = λ behind. let within : site < length f.domain.meters = slice_get_within f.domain.meters site entry is in absurd (omega (arith, behind, within));
}

stands_found : (f : Fabric) (site : ℕ) (found : Option (List ℕ × Meter)) → slice_get f.domain.meters site ≡ found
    → StandsAt f site (option_map (λ entry. book_with f.capacity (meter_opening entry.1)) found)
stands_found f site None is = past_none f.domain.meters site is
stands_found f site (Some entry) is = stands_fresh f site (meter_opening entry.1) (opens_meter f site entry is)

pub stands_first : (f : Fabric) (site : ℕ) → StandsAt f site (first_book f.domain f.capacity site)
stands_first f site = stands_found f site (slice_get f.domain.meters site) refl

-- ---- visits

comes : (P : ℕ → Type 0) (t : Traveller) (site : ℕ) → next_site t ≡ Some site → P site → IsSomeAnd (next_site t) P
comes P t site next holds = subst (λ (s : Option ℕ). IsSomeAnd s P) (sym next) holds

-- a traveller and a book behind a visit
record IsDone (t : Traveller) (b : Book) (moment : ℕ) (after : Traveller) (b' : Book) : Type 0 where
  hop : Hop
  next : next_hop t ≡ Some hop
  in_time : last_moment t ≤ moment
  receipt : after ≡ received t hop (next_row b (arrival_at t.packet hop moment (comes_as t)))
  book : b' ≡ noted b (arrival_at t.packet hop moment (comes_as t))

-- what is shut has a moment at which it was
shut_then : (shut : Option ℕ) (full : Bool) (moment : ℕ) → (if is_shut_by shut moment then Some notes.Shut else if full then Some notes.JournalFull else None) ≡ Some notes.Shut → shut ≢ None
shut_then None true moment is none = cc
shut_then None false moment is none = cc
shut_then (Some end) full moment is none = cc

module _ (f : Fabric) (t : Traveller) (site moment : ℕ) (next : next_site t ≡ Some site) (in_time : last_moment t ≤ moment) (there : site < sites_of f) where
  refused_none : length f.domain.meters ≤ site → IsRefusedFor f t moment visits.NoEdge
  refused_none slot = (comes (λ s. length f.domain.meters ≤ s) t site next slot, in_time)

  refused_by : (b : Book) → IsBookAt f site b → (hop : Hop) (a : Arrival) (fault : Option NoteFault) → note_fault b moment ≡ fault
      → IsRefusedFor f t moment (refusal_here (standing_with (keeping t hop (unless fault (next_row b a, noted b a)))))
  refused_by b stands hop a None is = (comes (λ s. s < sites_of f) t site next there, in_time)
  refused_by b stands hop a (Some notes.JournalFull) is = (comes (λ s. s < sites_of f) t site next there, in_time)
  refused_by b stands hop a (Some notes.NoMemory) is = (comes (λ s. s < sites_of f) t site next there, in_time)
  refused_by b stands hop a (Some notes.Shut) is =
      let slot : length f.domain.meters ≤ site = elim (cases_lt site (length f.domain.meters)) [
        | inl below ↦ absurd (shut_then b.shut (nat_eq (room_of b) 0) moment is (stands.open_meter below))
        | inr behind ↦ behind
      ] in
      (comes (λ s. (length f.domain.meters ≤ s) × (s < sites_of f)) t site next (slot, there), in_time)

  refused_at : (found : Option Hop) → next_hop t ≡ found → (b : Book) → IsBookAt f site b → IsRefusedFor f t moment (refusal_here (standing_with (visit_at found t b moment)))
  refused_at None is b stands = is
  refused_at (Some hop) is b stands =
      let late : nat_lt moment (last_moment t) ≡ false = grind (arith, nat_tests, in_time) in
      rw late (refused_by b stands hop (arrival_at t.packet hop moment (comes_as t)) (note_fault b moment) refl)

  -- why a visit is not made where the traveller comes in time
  pub visit_refused : (book : Option Book) → StandsAt f site book → IsRefusedFor f t moment (refusal_here (visit_here t book moment))
  visit_refused None stands = refused_none stands
  visit_refused (Some b) stands = refused_at (next_hop t) refl b stands

-- ---- all sites
