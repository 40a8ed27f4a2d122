-- Traffic tried along a route.
use Rattle.std.proofs.Common.{arith, ◌≡◌, ℕ, zero, suc, ◌<◌, Bool, true, false, ◌⊎◌, List, [], ◌∷◌, length, get_or, set, slice_get, nat_eq, if◌then◌else◌, Option, None, Some, option_map, is_some, refl, sym, ap, subst, ◌∙◌}
use Rattle.std.specs.List.{AllByRecursion, IsDistinct, fold}
use Rattle.std.proofs.lemmas.Bool.Decides.{nat_tests}
use Rattle.std.proofs.lemmas.List.{get_or_default, get_or-set_other, get_or-set_same, length-set}
use Rattle.std.proofs.lemmas.Option.{slice_get-get_or}
use Rattle.ds_domain_base.specs.Routes.{AreInside, places_of}
use Rattle.ds_domain_base.specs.declared.parts.Meter.{Meter}
use Rattle.ds_domain_base.specs.declared.route.Leg.{Leg}
use Rattle.ds_certificate.specs.Columns.{Bound}
use Rattle.ds_certificate.specs.declared.source.Source.{Source}
use Rattle.ds_checker.specs.Places.{at_place, earlier}
use Rattle.ds_checker.specs.Routed.{bound_at, first_on, refusal_by, share_with, sums_at, sums_on, with_legs}
use Rattle.ds_checker.specs.Sums.{AreBelow, no_loads, share_by, sums_tests, with_share}
use Rattle.ds_checker.specs.Tests.{first_failed}
use Rattle.ds_checker.specs.declared.load.Loads.{Loads}
use Rattle.ds_checker.specs.declared.refusal.Refusal.{Refusal}
use Rattle.ds_checker.proofs.LoadLaws.{AreBelow-at, neither}
use Rattle.ds_checker.proofs.PlaceLaws.{answers, earlier-None, earlier-assoc, first-failed-at, first_at, some_first}
use Rattle.ds_checker.proofs.RoutedPlaceLaws.{AreApart, apart-get, found-leg}

-- ---- a loop over legs
pub walk-hop : (meters : List (List ℕ × Meter)) (source : Source) (peaked : Bool) (xs legs : List Leg) (leg : Leg) (zs sums : List Loads) (l new : Loads) (ys bounds : List Bound) (b : Bound)
    (refusal : Option Refusal) (first next whole : Option (ℕ × Refusal)) → xs ≡ leg ∷ legs → zs ≡ l ∷ sums → ys ≡ b ∷ bounds → new ≡ with_share l (share_with source peaked b)
    → refusal ≡ refusal_by (slice_get meters leg.place) new → next ≡ earlier first (at_place leg.place refusal)
    → earlier first (first_on meters source peaked xs zs ys) ≡ whole → earlier next (first_on meters source peaked legs sums bounds) ≡ whole
unfolding first_on
walk-hop meters source peaked xs legs leg zs sums l new ys bounds b refusal first next whole is_legs is_sums is_bounds is_new is_refusal is_next held =
    let behind = first_on meters source peaked legs sums bounds in
    let own : refusal ≡ refusal_by (slice_get meters leg.place) (with_share l (share_with source peaked b)) = is_refusal ∙ ap (refusal_by (slice_get meters leg.place)) is_new in
    ap (λ f. earlier f behind) (is_next ∙ ap (λ r. earlier first (at_place leg.place r)) own)
    ∙ earlier-assoc first (at_place leg.place (refusal_by (slice_get meters leg.place) (with_share l (share_with source peaked b)))) behind
    ∙ sym (ap (λ list. earlier first (first_on meters source peaked list zs ys)) is_legs ∙ ap (λ list. earlier first (first_on meters source peaked (leg ∷ legs) list ys)) is_sums
    ∙ ap (λ list. earlier first (first_on meters source peaked (leg ∷ legs) (l ∷ sums) list)) is_bounds)
    ∙ held

pub walk-ended : (meters : List (List ℕ × Meter)) (source : Source) (peaked : Bool) (xs : List Leg) (zs : List Loads) (ys : List Bound) (first whole : Option (ℕ × Refusal)) → (xs ≡ []) ⊎ (zs ≡ [])
    → earlier first (first_on meters source peaked xs zs ys) ≡ whole → first ≡ whole
unfolding first_on
walk-ended meters source peaked [] zs ys first whole ended held = sym (earlier-None first) ∙ held
walk-ended meters source peaked (leg ∷ legs) [] ys first whole ended held = sym (earlier-None first) ∙ held
walk-ended meters source peaked (leg ∷ legs) (l ∷ sums) ys first whole ended held = neither ended

pub bounded-ended : (meters : List (List ℕ × Meter)) (source : Source) (peaked : Bool) (xs : List Leg) (sums : List Loads) (ys : List Bound) (first whole : Option (ℕ × Refusal)) → (xs ≡ []) ⊎ (ys ≡ [])
    → earlier first (first_on meters source peaked xs (sums_on xs sums) ys) ≡ whole → first ≡ whole
unfolding first_on
bounded-ended meters source peaked [] sums ys first whole ended held = sym (earlier-None first) ∙ held
bounded-ended meters source peaked (leg ∷ legs) sums [] first whole ended held = sym (earlier-None first) ∙ held
bounded-ended meters source peaked (leg ∷ legs) sums (b ∷ bounds) first whole ended held = neither ended

-- what is found once stays found
some_by : (p : Bool) (a b : ℕ × Refusal) → is_some (if p then Some b else Some a) ≡ true
some_by true a b = refl
some_by false a b = refl

some_first_of : (a b : Option (ℕ × Refusal)) → is_some a ≡ true → is_some (earlier a b) ≡ true
some_first_of None b some = absurd cc
some_first_of (Some a) None some = refl
some_first_of (Some a) (Some b) some = some_by _ a b

some_second_of : (a b : Option (ℕ × Refusal)) → is_some b ≡ true → is_some (earlier a b) ≡ true
some_second_of a None some = absurd cc
some_second_of None (Some b) some = refl
some_second_of (Some a) (Some b) some = some_by _ a b

some_at : (place : ℕ) (refusal : Option Refusal) → is_some refusal ≡ true → is_some (at_place place refusal) ≡ true
some_at place None some = absurd cc
some_at place (Some r) some = refl

pub walk-found : (place : ℕ) (refusal : Option Refusal) (first behind whole : Option (ℕ × Refusal)) → is_some refusal ≡ true
    → earlier (earlier first (at_place place refusal)) behind ≡ whole → is_some refusal ≡ is_some whole
walk-found place refusal first behind whole some held =
    some ∙ sym (some_first_of _ behind (some_second_of first _ (some_at place refusal some))) ∙ ap is_some held

pub some-map : {X Y : Type 0} (f : X → Y) (x : Option X) → is_some (option_map f x) ≡ is_some x
some-map f None = refl
some-map f (Some x) = refl

-- ---- what is found along legs is the first test of all meters that fails
walked : (meters : List (List ℕ × Meter)) (source : Source) (peaked : Bool) (legs : List Leg) (bounds : List Bound) (sums : List Loads) (first : Option (ℕ × Refusal))
    → AreInside (length meters) legs → IsDistinct nat_eq (places_of legs) → length sums ≡ length meters → first_failed (sums_tests meters sums) ≡ None
    → earlier first (first_at 0 (answers meters (with_legs source peaked legs bounds sums))) ≡ earlier first (first_on meters source peaked legs (sums_on legs sums) bounds)
unfolding with_legs first_on IsDistinct
walked meters source peaked [] bounds sums first inside once long passed =
    ap (earlier first) (some_first (first_at 0 (answers meters sums)) (first-failed-at 0 meters sums ∙ passed))
walked meters source peaked (leg ∷ legs) [] sums first inside once long passed =
    ap (earlier first) (some_first (first_at 0 (answers meters sums)) (first-failed-at 0 meters sums ∙ passed))
walked meters source peaked (leg ∷ legs) (b ∷ bounds) sums first inside once long passed =
    let within : leg.place < length sums = omega (arith, inside.0, long) in
    let l = sums_at sums leg.place in
    let new = with_share l (share_with source peaked b) in
    let refusal = refusal_by (slice_get meters leg.place) new in
    sym (found-leg source peaked (leg ∷ legs) legs leg (b ∷ bounds) bounds b meters sums l new refusal first (earlier first (at_place leg.place refusal)) _ refl refl inside.0 once.0 long passed
    (get_or_default sums leg.place (no_loads 0) l within) refl
    (λ e. ap (λ entry. refusal_by entry new) (slice_get-get_or meters leg.place e inside.0)) refl refl)
    ∙ walked meters source peaked legs bounds sums (earlier first (at_place leg.place refusal)) inside.1 once.1 long passed
    ∙ earlier-assoc first (at_place leg.place refusal) (first_on meters source peaked legs (sums_on legs sums) bounds)

pub walk-tests : (meters : List (List ℕ × Meter)) (source : Source) (peaked : Bool) (legs : List Leg) (bounds : List Bound) (sums : List Loads)
    → AreInside (length meters) legs → IsDistinct nat_eq (places_of legs) → length sums ≡ length meters → first_failed (sums_tests meters sums) ≡ None
    → option_map (λ f. f.1) (first_on meters source peaked legs (sums_on legs sums) bounds) ≡ first_failed (sums_tests meters (with_legs source peaked legs bounds sums))
walk-tests meters source peaked legs bounds sums inside once long passed =
    ap (option_map (λ f. f.1)) (sym (walked meters source peaked legs bounds sums None inside once long passed)) ∙ first-failed-at 0 meters (with_legs source peaked legs bounds sums)

-- ---- the sums along legs are as small as all are
pub below-on : (most : ℕ) (legs : List Leg) (sums : List Loads) → AreInside (length sums) legs → AllByRecursion (AreBelow most) sums → AllByRecursion (AreBelow most) (sums_on legs sums)
below-on most [] sums inside below = tt
below-on most (leg ∷ legs) sums inside below = (AreBelow-at most sums leg.place (no_loads 0) inside.0 below, below-on most legs sums inside.1 below)

-- ---- what a leg left at its place
apart_by : (b : Bool) (place : ℕ) (leg : Leg) (legs : List Leg) (bound : Bound) (bounds : List Bound) (source : Source) (peaked : Bool) (before : List Loads) (l : Loads)
    → nat_eq place leg.place ≡ b → place < length before → AreApart leg.place legs
    → (get_or (with_legs source peaked legs bounds (set before leg.place (with_share (sums_at before leg.place) (share_with source peaked bound)))) place l
    ≡ fold with_share (get_or (set before leg.place (with_share (sums_at before leg.place) (share_with source peaked bound))) place l) (share_by source peaked (bound_at place legs bounds)))
    → get_or (with_legs source peaked legs bounds (set before leg.place (with_share (sums_at before leg.place) (share_with source peaked bound)))) place l
    ≡ fold with_share (get_or before place l) (share_by source peaked (if b then Some bound else bound_at place legs bounds))
apart_by true place leg legs bound bounds source peaked before l is inside apart behind =
    let same : place ≡ leg.place = grind (arith, nat_tests, is) in
    let own = with_share (sums_at before leg.place) (share_with source peaked bound) in
    let within : leg.place < length before = omega (arith, same, inside) in
    ap (λ p. get_or (with_legs source peaked legs bounds (set before leg.place own)) p l) same
    ∙ apart-get source peaked legs bounds (set before leg.place own) leg.place l apart
    ∙ get_or-set_same before leg.place own l within
    ∙ ap (λ x. with_share x (share_with source peaked bound)) (get_or_default before leg.place (no_loads 0) l within ∙ ap (λ p. get_or before p l) (sym same))
apart_by false place leg legs bound bounds source peaked before l is inside apart behind =
    let own = with_share (sums_at before leg.place) (share_with source peaked bound) in
    behind ∙ ap (λ x. fold with_share x (share_by source peaked (bound_at place legs bounds)))
    (get_or-set_other before leg.place place own l (λ same. grind (arith, nat_tests, is, same)))

pub held-at : (place : ℕ) (legs : List Leg) (bounds : List Bound) (source : Source) (peaked : Bool) (before : List Loads) (l : Loads) → place < length before → IsDistinct nat_eq (places_of legs)
    → get_or (with_legs source peaked legs bounds before) place l ≡ fold with_share (get_or before place l) (share_by source peaked (bound_at place legs bounds))
unfolding with_legs bound_at IsDistinct
held-at place [] bounds source peaked before l inside once = refl
held-at place (leg ∷ legs) [] source peaked before l inside once = refl
held-at place (leg ∷ legs) (b ∷ bounds) source peaked before l inside once =
    let own = with_share (sums_at before leg.place) (share_with source peaked b) in
    apart_by (nat_eq place leg.place) place leg legs b bounds source peaked before l refl inside once.0
    (held-at place legs bounds source peaked (set before leg.place own) l (omega (arith, inside, length-set before leg.place own)) once.1)

-- the bound at the place of the first leg, or behind it
pub at-leg : (place : ℕ) (xs legs : List Leg) (leg : Leg) (ys bounds : List Bound) (b : Bound) (whole : Option Bound) → whole ≡ bound_at place xs ys → xs ≡ leg ∷ legs → ys ≡ b ∷ bounds
    → nat_eq place leg.place ≡ true → Some b ≡ whole
unfolding bound_at
at-leg place xs legs leg ys bounds b whole held is_legs is_bounds same = sym (held ∙ rw (is_legs, is_bounds, same) refl)

pub at-behind : (place : ℕ) (xs legs : List Leg) (leg : Leg) (ys bounds : List Bound) (b : Bound) (whole : Option Bound) → whole ≡ bound_at place xs ys → xs ≡ leg ∷ legs → ys ≡ b ∷ bounds
    → nat_eq place leg.place ≡ false → whole ≡ bound_at place legs bounds
unfolding bound_at
at-behind place xs legs leg ys bounds b whole held is_legs is_bounds other = held ∙ rw (is_legs, is_bounds, other) refl

pub at-none : (place : ℕ) (xs : List Leg) (ys : List Bound) → (xs ≡ []) ⊎ (ys ≡ []) → bound_at place xs ys ≡ None
unfolding bound_at
at-none place [] ys ended = refl
at-none place (leg ∷ legs) [] ended = refl
at-none place (leg ∷ legs) (b ∷ bounds) ended = neither ended

-- a leg leads to one of the meters
pub inside-at : (n : ℕ) (legs : List Leg) (i : ℕ) (leg : Leg) → AreInside n legs → i < length legs → leg ≡ get_or legs i leg → leg.place < n
inside-at n [] i leg inside within is = absurd (omega (arith, within))
inside-at n (own ∷ legs) zero leg inside within is = subst (λ (x : Leg). x.place < n) (sym is) inside.0
inside-at n (own ∷ legs) (suc i) leg inside within is = inside-at n legs i leg inside.1 (omega (arith, within)) is
