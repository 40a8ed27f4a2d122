-- Legs that lead to places that all differ: each share can be added first or last, and is taken back by its place.
use Rattle.std.proofs.Common.{arith, ◌≡◌, ℕ, ◌<◌, Bool, false, nat_eq, ◌⊎◌, List, [], ◌∷◌, length, set, get_or, Option, None, refl, sym, ap, subst, ◌∙◌}
use Rattle.std.specs.List.{AllByRecursion, IsDistinct}
use Rattle.std.proofs.lemmas.List.{get_or_default, get_or-set_other, get_or-set_same, length-set, set-get_or, set-set, set_comm}
use Rattle.ds_domain_base.specs.Routes.{places_of}
use Rattle.ds_domain_base.specs.declared.parts.Meter.{Meter}
use Rattle.ds_domain_base.specs.declared.route.Leg.{Leg}
use Rattle.ds_certificate.specs.Columns.{Bound}
use Rattle.ds_certificate.specs.declared.source.Source.{Source}
use Rattle.ds_checker.specs.Places.{at_place, earlier}
use Rattle.ds_checker.specs.Routed.{share_with, with_legs}
use Rattle.ds_checker.specs.Sums.{IsCounted, no_loads, sum_tests, sums_tests, with_share, without_share}
use Rattle.ds_checker.specs.Tests.{first_failed}
use Rattle.ds_checker.specs.declared.load.Loads.{Loads}
use Rattle.ds_checker.specs.declared.refusal.Refusal.{Refusal}
use Rattle.ds_checker.proofs.PlaceLaws.{answers, answers-at, answers-set, counted-with, earlier-assoc, entry_of, first_at, first_at-set, length-answers, none-at, none_of, without-with, zero_plus}
use Rattle.std.proofs.lemmas.Bool.{eqb-false}
use Rattle.ds_checker.proofs.LoadLaws.{neither}

-- no leg leads to a place
abbrev pub AreApart : ℕ → List Leg → Type 0
AreApart place legs = AllByRecursion (λ other. nat_eq place other ≡ false) (places_of legs)

pub length-with_legs : (source : Source) (peaked : Bool) (legs : List Leg) (bounds : List Bound) (sums : List Loads) → length (with_legs source peaked legs bounds sums) ≡ length sums
unfolding with_legs
length-with_legs source peaked [] bounds sums = refl
length-with_legs source peaked (leg ∷ legs) [] sums = refl
length-with_legs source peaked (leg ∷ legs) (b ∷ bounds) sums =
    let own = with_share (get_or sums leg.place (no_loads 0)) (share_with source peaked b) in
    length-with_legs source peaked legs bounds (set sums leg.place own) ∙ length-set sums leg.place own

-- the sums at a place to which no leg leads stay
pub apart-get : (source : Source) (peaked : Bool) (legs : List Leg) (bounds : List Bound) (sums : List Loads) (place : ℕ) (l : Loads) → AreApart place legs
    → get_or (with_legs source peaked legs bounds sums) place l ≡ get_or sums place l
unfolding with_legs
apart-get source peaked [] bounds sums place l apart = refl
apart-get source peaked (leg ∷ legs) [] sums place l apart = refl
apart-get source peaked (leg ∷ legs) (b ∷ bounds) sums place l apart =
    let own = with_share (get_or sums leg.place (no_loads 0)) (share_with source peaked b) in
    apart-get source peaked legs bounds (set sums leg.place own) place l apart.1
    ∙ get_or-set_other sums leg.place place own l (eqb-false place leg.place apart.0)

-- and may be written before or after
pub apart-set : (source : Source) (peaked : Bool) (legs : List Leg) (bounds : List Bound) (sums : List Loads) (place : ℕ) (new : Loads) → AreApart place legs
    → set (with_legs source peaked legs bounds sums) place new ≡ with_legs source peaked legs bounds (set sums place new)
unfolding with_legs
apart-set source peaked [] bounds sums place new apart = refl
apart-set source peaked (leg ∷ legs) [] sums place new apart = refl
apart-set source peaked (leg ∷ legs) (b ∷ bounds) sums place new apart =
    let other = eqb-false place leg.place apart.0 in
    let share = share_with source peaked b in
    let own = with_share (get_or sums leg.place (no_loads 0)) share in
    apart-set source peaked legs bounds (set sums leg.place own) place new apart.1
    ∙ ap (with_legs source peaked legs bounds)
    (sym (set_comm sums place leg.place new own other)
    ∙ ap (λ l. set (set sums place new) leg.place (with_share l share)) (sym (get_or-set_other sums place leg.place new (no_loads 0) (λ same. other (sym same)))))

pub once-here : (xs legs : List Leg) (leg : Leg) → xs ≡ leg ∷ legs → IsDistinct nat_eq (places_of xs) → AreApart leg.place legs × IsDistinct nat_eq (places_of legs)
unfolding IsDistinct
once-here xs legs leg is once = subst (λ list. IsDistinct nat_eq (places_of list)) is once

-- ---- taken back, leg by leg
-- what is held at the place of the first leg
held-here : (source : Source) (peaked : Bool) (legs : List Leg) (leg : Leg) (b : Bound) (bounds : List Bound) (sums before : List Loads) (l : Loads)
    → leg.place < length before → AreApart leg.place legs → sums ≡ with_legs source peaked (leg ∷ legs) (b ∷ bounds) before → l ≡ get_or sums leg.place l
    → l ≡ with_share (get_or before leg.place (no_loads 0)) (share_with source peaked b)
unfolding with_legs
held-here source peaked legs leg b bounds sums before l inside apart is_sums is =
    let own = with_share (get_or before leg.place (no_loads 0)) (share_with source peaked b) in
    is ∙ ap (λ list. get_or list leg.place l) is_sums
    ∙ apart-get source peaked legs bounds (set before leg.place own) leg.place l apart
    ∙ get_or-set_same before leg.place own l inside

pub leg-counted : (source : Source) (peaked : Bool) (xs legs : List Leg) (leg : Leg) (ys bounds : List Bound) (b : Bound) (sums before : List Loads) (l : Loads)
    → xs ≡ leg ∷ legs → ys ≡ b ∷ bounds → leg.place < length before → AreApart leg.place legs → l ≡ get_or sums leg.place l → sums ≡ with_legs source peaked xs ys before
    → IsCounted (share_with source peaked b) l
leg-counted source peaked xs legs leg ys bounds b sums before l is_legs is_bounds inside apart is is_sums =
    let whole = is_sums ∙ ap (λ p. with_legs source peaked p ys before) is_legs ∙ ap (λ p. with_legs source peaked (leg ∷ legs) p before) is_bounds in
    let share = share_with source peaked b in
    subst (IsCounted share) (sym (held-here source peaked legs leg b bounds sums before l inside apart whole is)) (counted-with (get_or before leg.place (no_loads 0)) share)

pub leg-taken : (source : Source) (peaked : Bool) (xs legs : List Leg) (leg : Leg) (ys bounds : List Bound) (b : Bound) (sums before : List Loads) (l new : Loads)
    → xs ≡ leg ∷ legs → ys ≡ b ∷ bounds → leg.place < length before → AreApart leg.place legs → l ≡ get_or sums leg.place l → new ≡ without_share l (share_with source peaked b)
    → sums ≡ with_legs source peaked xs ys before → set sums leg.place new ≡ with_legs source peaked legs bounds before
unfolding with_legs
leg-taken source peaked xs legs leg ys bounds b sums before l new is_legs is_bounds inside apart is is_new is_sums =
    let whole = is_sums ∙ ap (λ p. with_legs source peaked p ys before) is_legs ∙ ap (λ p. with_legs source peaked (leg ∷ legs) p before) is_bounds in
    let share = share_with source peaked b in
    let first = get_or before leg.place (no_loads 0) in
    let own = with_share first share in
    let left : new ≡ first = is_new ∙ ap (λ held. without_share held share) (held-here source peaked legs leg b bounds sums before l inside apart whole is) ∙ without-with first share in
    ap (λ list. set list leg.place new) whole
    ∙ ap (set (with_legs source peaked legs bounds (set before leg.place own)) leg.place) left
    ∙ apart-set source peaked legs bounds (set before leg.place own) leg.place first apart
    ∙ ap (with_legs source peaked legs bounds) (set-set before leg.place own first ∙ set-get_or before leg.place (no_loads 0))

pub taken-whole : (source : Source) (peaked : Bool) (xs : List Leg) (ys : List Bound) (sums before : List Loads) → (xs ≡ []) ⊎ (ys ≡ [])
    → sums ≡ with_legs source peaked xs ys before → sums ≡ before
unfolding with_legs
taken-whole source peaked [] ys sums before ended kept = kept
taken-whole source peaked (leg ∷ legs) [] sums before ended kept = kept
taken-whole source peaked (leg ∷ legs) (b ∷ bounds) sums before ended kept = neither ended

pub before-long : (source : Source) (peaked : Bool) (legs : List Leg) (bounds : List Bound) (sums before : List Loads) → sums ≡ with_legs source peaked legs bounds before
    → length before ≡ length sums
before-long source peaked legs bounds sums before is = sym (ap length is ∙ length-with_legs source peaked legs bounds before)

-- ---- the first meter that refuses, leg by leg
pub found-leg : (source : Source) (peaked : Bool) (xs legs : List Leg) (leg : Leg) (ys bounds : List Bound) (b : Bound) (meters : List (List ℕ × Meter)) (sums : List Loads)
    (l new : Loads) (refusal : Option Refusal) (first next whole : Option (ℕ × Refusal))
    → xs ≡ leg ∷ legs → ys ≡ b ∷ bounds → leg.place < length meters → AreApart leg.place legs → length sums ≡ length meters
    → first_failed (sums_tests meters sums) ≡ None → l ≡ get_or sums leg.place l → new ≡ with_share l (share_with source peaked b)
    → ((e : List ℕ × Meter) → refusal ≡ first_failed (sum_tests (get_or meters leg.place e) new)) → next ≡ earlier first (at_place leg.place refusal)
    → earlier first (first_at 0 (answers meters (with_legs source peaked xs ys sums))) ≡ whole
    → earlier next (first_at 0 (answers meters (with_legs source peaked legs bounds sums))) ≡ whole
unfolding with_legs
found-leg source peaked xs legs leg ys bounds b meters sums l new refusal first next whole is_legs is_bounds inside apart long passed is is_new refused is_next held =
    let i = leg.place in
    let share = share_with source peaked b in
    let within : i < length sums = omega (arith, inside, long) in
    let e = entry_of meters (omega (arith, inside)) in
    let is_refusal = refused e in
    let left = with_legs source peaked legs bounds sums in
    let left_long : length left ≡ length meters = length-with_legs source peaked legs bounds sums ∙ long in
    let own : with_share (get_or sums i (no_loads 0)) share ≡ new = ap (λ m. with_share m share) (get_or_default sums i (no_loads 0) l within ∙ sym is) ∙ sym is_new in
    let all : with_legs source peaked xs ys sums ≡ set left i new =
    ap (λ p. with_legs source peaked p ys sums) is_legs ∙ ap (λ p. with_legs source peaked (leg ∷ legs) p sums) is_bounds
    ∙ sym (apart-set source peaked legs bounds sums i (with_share (get_or sums i (no_loads 0)) share) apart) ∙ ap (set left i) own in
    let none : get_or (answers meters left) i None ≡ None =
    answers-at meters left i l e inside (omega (arith, inside, left_long)) ∙ ap (λ m. first_failed (sum_tests (get_or meters i e) m)) (apart-get source peaked legs bounds sums i l apart)
    ∙ sym (answers-at meters sums i l e inside within) ∙ none-at (answers meters sums) i (none_of meters sums passed) in
    let answered : first_at 0 (answers meters (set left i new)) ≡ earlier (at_place i refusal) (first_at 0 (answers meters left)) =
    ap (first_at 0) (answers-set meters left i new e inside ∙ ap (set (answers meters left) i) (sym is_refusal))
    ∙ first_at-set 0 (answers meters left) i refusal (omega (arith, inside, length-answers meters left left_long)) none
    ∙ ap (λ n. earlier (at_place n refusal) (first_at 0 (answers meters left))) (zero_plus i) in
    ap (λ f. earlier f (first_at 0 (answers meters left))) is_next
    ∙ earlier-assoc first (at_place i refusal) (first_at 0 (answers meters left))
    ∙ ap (earlier first) (sym answered)
    ∙ ap (λ list. earlier first (first_at 0 (answers meters list))) (sym all)
    ∙ held
