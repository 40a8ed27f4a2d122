-- A visit against which nothing stands is made.
use Rattle.std.proofs.Common.{◌≡◌, ◌<◌, ◌≤◌, ◌+◌, ◌-◌, ℕ, zero, suc, true, false, cond, List, [], ◌∷◌, length, map, min, nat_eq, None, Some, refl, sym, ap, ◌∙◌, subst, arith, nat_lt, not, option_map, position, slice_get, AllPairs, Ok, Err, if◌then◌else◌, eq-eqb, ne_eqb}
use Rattle.std.specs.List.{position_or_len}
use Rattle.std.proofs.lemmas.Bool.Decides.{nat_tests}
use Rattle.std.proofs.lemmas.List.{length-map}
use Rattle.std.proofs.lemmas.Option.{none-some, same_Some, slice_get_within, get_or_from_slice_get}
use Rattle.meter_book.specs.Replay.{Book, is_shut_by, most_places, next_row, note_fault, noted, room_of, unless}
use Rattle.ds_checker.specs.Acceptance.{Table}
use Rattle.meter_fabric_base.specs.Travels.{Traveller, keeping, last_moment, visit_at}
use Rattle.meter_fabric_base.specs.declared.fault.VisitFault.TheVariants.{BeforeLast}
use Rattle.meter_fabric_base.specs.declared.hop.Hop.{Hop}
use Rattle.ds_runs.specs.Steps.{Stage, as_step, numbers_of, put_back, stepped, visit_there, visited_at, visited_by, visited_from, with_books}
use Rattle.ds_runs.specs.declared.step.Step.TheVariants.{Visit}
use Rattle.ds_runs.proofs.VisitingLaws.{Visits, coming, stage_behind}

-- ---- the place of a number

place_or_len : {A : Type 0} (key : A → ℕ) (xs : List A) (i : ℕ) (x : A) → slice_get xs i ≡ Some x → AllPairs (λ y z. ¬ (key y ≡ key z)) xs
    → position_or_len (nat_eq (key x)) (map key xs) ≡ i
place_or_len key [] i x there apart = absurd (none-some x there)
place_or_len key (y ∷ xs) zero x there apart =
    let test : nat_eq (key x) (key y) ≡ true = subst (λ z. nat_eq (key x) (key z) ≡ true) (sym (same_Some y x there)) (eq-eqb (key x) (key x) refl) in
    ap (λ b. cond (not b) (1 + position_or_len (nat_eq (key x)) (map key xs)) 0) test
place_or_len {A} key (y ∷ xs) (suc i) x there apart =
    let is_x = get_or_from_slice_get xs i x x there in
    let differs : ¬ (key x ≡ key y) = λ same. apart 0 (suc i) x (omega arith) (omega (arith, slice_get_within xs i x there)) (sym same ∙ ap key (sym is_x)) in
    let onward = place_or_len key xs i x there (λ m n d below short. apart (suc m) (suc n) d (omega (arith, below)) (omega (arith, short))) in
    ap (λ b. cond (not b) (1 + position_or_len (nat_eq (key x)) (map key xs)) 0) (ne_eqb (key x) (key y) differs)
    ∙ ap (λ n. 1 + n) onward ∙ omega arith

pub place_of : {A : Type 0} (key : A → ℕ) (xs : List A) (i : ℕ) (x : A) → slice_get xs i ≡ Some x → AllPairs (λ y z. ¬ (key y ≡ key z)) xs
    → position (nat_eq (key x)) (map key xs) ≡ Some i
place_of key xs i x there apart =
    let place = place_or_len key xs i x there apart in
    let short : i < length (map key xs) = omega (arith, slice_get_within xs i x there, length-map xs key) in
    let test : nat_lt i (length (map key xs)) ≡ true = grind (arith, nat_tests) in
    ap (λ n. cond (nat_lt n (length (map key xs))) (Some n) None) place ∙ ap (λ b. cond b (Some i) None) test

-- ---- a book that takes another row

has_room : (capacity place long most : ℕ) → capacity ≡ most → place ≡ 0 → long < most → nat_eq (min (capacity - long) (most - (place + long))) 0 ≡ false
has_room capacity place long most full first short = grind (arith, nat_tests)

pub no_fault : (b : Book) (moment : ℕ) → b.capacity ≡ most_places → b.opening.place ≡ 0 → b.shut ≡ None → length b.arrivals < most_places → note_fault b moment ≡ None
no_fault b moment capacity place unshut short =
    let untold : is_shut_by b.shut moment ≡ false = ap (λ shut. is_shut_by shut moment) unshut in
    let room : nat_eq (room_of b) 0 ≡ false = has_room b.capacity b.opening.place (length b.arrivals) most_places capacity place short in
    rw (untold, room) refl

-- ---- a visit

not_early : (moment last : ℕ) → last ≤ moment → nat_lt moment last ≡ false
not_early moment last in_time = grind (arith, nat_tests)

module _ (t : Table) (g : Stage) (number place : ℕ) (p : Traveller) (hop : Hop) (b : Book) (moment : ℕ) where
  -- the packet of a number comes to its next hop
  pub visit_goes : position (nat_eq number) (numbers_of g.travellers) ≡ Some place → Visits g place p hop b moment → note_fault b moment ≡ None
      → stepped t g (Visit number moment) ≡ Ok (stage_behind g place p hop b moment)
  unfolding stepped
  visit_goes found visits none =
      ap (visited_from g moment) found
      ∙ ap (visited_by g moment place) visits.packet
      ∙ ap (λ next. put_back g place (visited_at p g.books moment (option_map (λ hop. hop.site) next))) visits.next
      ∙ ap (λ there. put_back g place (with_books g.books hop.site (visit_there p there moment))) visits.book
      ∙ ap (λ next. put_back g place (with_books g.books hop.site (as_step (visit_at next p b moment)))) visits.next
      ∙ ap (λ early. put_back g place (with_books g.books hop.site (as_step (if early then Err BeforeLast else keeping p hop (unless (note_fault b moment) (next_row b (coming p hop moment), noted b (coming p hop moment)))))))
      (not_early moment (last_moment p) visits.in_time)
      ∙ ap (λ against. put_back g place (with_books g.books hop.site (as_step (keeping p hop (unless against (next_row b (coming p hop moment), noted b (coming p hop moment))))))) none
