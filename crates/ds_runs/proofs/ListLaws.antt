-- Pairs of a list, a list of which one thing is put in place of another, what a test keeps of one, and elements at their
-- places.
use Rattle.std.proofs.Common.{◌≡◌, ◌<◌, ◌-◌, ℕ, zero, suc, Bool, true, false, cond, List, [], ◌∷◌, ◌++◌, length, length-append, get_or, map, set, Option, None, Some, refl, sym, ap, ◌∙◌, subst, subst₂, append_assoc, arith, IsPermutation, nat_eq, slice_get, Result, Ok, All, AllPairs, filter, flat_map}
use Rattle.std.proofs.lemmas.Bool.Decides.{nat_tests}
use Rattle.std.proofs.lemmas.List.{get_or-map, length-map}
use Rattle.std.proofs.lemmas.List.Elements.{All-head, All-tail}
use Rattle.std.proofs.lemmas.List.Sorted.{IsPermutation-append_right, IsPermutation-sym, IsPermutation-to_front, sum_by-IsPermutation}
use Rattle.std.proofs.lemmas.List.Sums.{length-filter}
use Rattle.std.proofs.lemmas.Option.{none-some, same_Some, slice_get-get_or}
use Rattle.ds_runs.specs.Steps.{some_of}

-- ---- pairs of a list whose things are mapped

pub AllPairs-map : {X Y : Type 0} (R : Y → Y → Type 0) (f : X → Y) (xs : List X) → AllPairs (λ x y. R (f x) (f y)) xs → AllPairs R (map f xs)
AllPairs-map R f [] all i j d first below = absurd (omega (arith, below))
AllPairs-map R f (x ∷ xs) all i j d first below =
    let short : j < length (x ∷ xs) = omega (arith, below, length-map (x ∷ xs) f) in
    let low : i < length (x ∷ xs) = omega (arith, first, short) in
    subst₂ R (sym (get_or-map f (x ∷ xs) i x d low)) (sym (get_or-map f (x ∷ xs) j x d short)) (all i j x first short)

-- pairs of what things are mapped to, as pairs of the things
pub AllPairs-of_map : {X Y : Type 0} (R : Y → Y → Type 0) (f : X → Y) (xs : List X) → AllPairs R (map f xs) → AllPairs (λ x y. R (f x) (f y)) xs
AllPairs-of_map R f xs all i j d first below =
    let short : j < length (map f xs) = omega (arith, below, length-map xs f) in
    let low : i < length xs = omega (arith, first, below) in
    subst₂ R (get_or-map f xs i d (f d) low) (get_or-map f xs j d (f d) below) (all i j (f d) first short)

-- ---- a thing put in place of another

pub set_here : {X : Type 0} (xs : List X) (i : ℕ) (x y : X) → slice_get xs i ≡ Some x → slice_get (set xs i y) i ≡ Some y
set_here [] i x y there = absurd (none-some x there)
set_here (z ∷ xs) zero x y there = refl
set_here (z ∷ xs) (suc i) x y there = set_here xs i x y there

pub set_elsewhere : {X : Type 0} (xs : List X) (i j : ℕ) (y : X) → ¬ (i ≡ j) → slice_get (set xs i y) j ≡ slice_get xs j
set_elsewhere [] i j y other = refl
set_elsewhere (z ∷ xs) zero zero y other = absurd (other refl)
set_elsewhere (z ∷ xs) zero (suc j) y other = refl
set_elsewhere (z ∷ xs) (suc i) zero y other = refl
set_elsewhere (z ∷ xs) (suc i) (suc j) y other = set_elsewhere xs i j y (λ same. other (ap suc same))

pub set_there : {X : Type 0} (xs : List X) (i j : ℕ) (y : X) → nat_eq i j ≡ false → slice_get (set xs i y) j ≡ slice_get xs j
set_there xs i j y other = set_elsewhere xs i j y (are_apart i j other)
  where
    are_apart : (m n : ℕ) → nat_eq m n ≡ false → ¬ (m ≡ n)
    are_apart m n test same = grind (arith, nat_tests)

pub set_same : {X : Type 0} (xs : List X) (i : ℕ) (x : X) → slice_get xs i ≡ Some x → set xs i x ≡ xs
set_same [] i x there = refl
set_same (z ∷ xs) zero x there = ap (λ w. w ∷ xs) (sym (same_Some z x there))
set_same (z ∷ xs) (suc i) x there = ap (λ ws. z ∷ ws) (set_same xs i x there)

-- what is mapped to the same
pub map-set_same : {X : Type 0} {Y : Type 0} (f : X → Y) (xs : List X) (i : ℕ) (x y : X) → slice_get xs i ≡ Some x → f y ≡ f x → map f (set xs i y) ≡ map f xs
map-set_same f [] i x y there same = refl
map-set_same f (z ∷ xs) zero x y there same = ap (λ w. w ∷ map f xs) (same ∙ sym (ap f (same_Some z x there)))
map-set_same f (z ∷ xs) (suc i) x y there same = ap (λ ws. f z ∷ ws) (map-set_same f xs i x y there same)

pub AllPairs-set : {X Y : Type 0} (R : Y → Y → Type 0) (f : X → Y) (xs : List X) (i : ℕ) (x y : X) → slice_get xs i ≡ Some x → f y ≡ f x
    → AllPairs (λ a b. R (f a) (f b)) xs → AllPairs (λ a b. R (f a) (f b)) (set xs i y)
AllPairs-set R f xs i x y there same all =
    AllPairs-of_map R f (set xs i y) (subst (AllPairs R) (sym (map-set_same f xs i x y there same)) (AllPairs-map R f xs all))

-- ---- lists that things tell

pub flat_map-set_same : {X A : Type 0} (f : X → List A) (xs : List X) (i : ℕ) (x y : X) → slice_get xs i ≡ Some x → f y ≡ f x
    → flat_map f (set xs i y) ≡ flat_map f xs
flat_map-set_same f [] i x y there same = refl
flat_map-set_same f (z ∷ xs) zero x y there same = ap (λ front. front ++ flat_map f xs) (same ∙ sym (ap f (same_Some z x there)))
flat_map-set_same f (z ∷ xs) (suc i) x y there same = ap (λ rest. f z ++ rest) (flat_map-set_same f xs i x y there same)

-- a thing that tells one more than the one in whose place it stands
pub flat_map-set_more : {X A : Type 0} (f : X → List A) (xs : List X) (i : ℕ) (x y : X) (a : A) → slice_get xs i ≡ Some x → f y ≡ f x ++ a ∷ []
    → IsPermutation (flat_map f (set xs i y)) (flat_map f xs ++ a ∷ [])
flat_map-set_more f [] i x y a there more = absurd (none-some x there)
flat_map-set_more f (z ∷ xs) zero x y a there more =
    let rest = flat_map f xs in
    let here : f y ++ rest ≡ f z ++ (a ∷ rest) =
    ap (λ front. front ++ rest) (more ∙ ap (λ w. f w ++ a ∷ []) (sym (same_Some z x there))) ∙ append_assoc (f z) (a ∷ []) rest
    in
    let moved = IsPermutation-append_right (f z) (a ∷ rest) (rest ++ a ∷ []) (IsPermutation-sym (rest ++ a ∷ []) (a ∷ rest) (IsPermutation-to_front rest a)) in
    subst₂ IsPermutation (sym here) (sym (append_assoc (f z) rest (a ∷ []))) moved
flat_map-set_more f (z ∷ xs) (suc i) x y a there more =
    let rest = flat_map f xs in
    subst (IsPermutation (f z ++ flat_map f (set xs i y))) (sym (append_assoc (f z) rest (a ∷ [])))
    (IsPermutation-append_right (f z) (flat_map f (set xs i y)) (rest ++ a ∷ []) (flat_map-set_more f xs i x y a there more))

-- a thing more that tells nothing
pub flat_map-push_none : {X A : Type 0} (f : X → List A) (xs : List X) (x : X) → f x ≡ [] → flat_map f (xs ++ x ∷ []) ≡ flat_map f xs
flat_map-push_none f [] x none = ap (λ front. front ++ []) none
flat_map-push_none f (z ∷ xs) x none = ap (λ rest. f z ++ rest) (flat_map-push_none f xs x none)

-- ---- answers

pub same_Ok : {A E : Type 0} (x y : A) → ◌≡◌ {A = Result A E} (Ok x) (Ok y) → x ≡ y
same_Ok x y same = cc

pub some_of-some : {A : Type 0} (found : Option (Option A)) (x : A) → some_of found ≡ Some x → found ≡ Some (Some x)
some_of-some None x is = absurd (none-some x is)
some_of-some (Some found) x is = ap Some is

-- ---- what a test keeps

pub keep_all : {A : Type 0} (p : A → Bool) (xs : List A) → All (λ x. p x ≡ true) xs → filter p xs ≡ xs
keep_all p [] all = refl
keep_all p (x ∷ xs) all =
    ap (λ b. cond b (x ∷ filter p xs) (filter p xs)) (All-head (λ x. p x ≡ true) x xs all)
    ∙ ap (λ ys. x ∷ ys) (keep_all p xs (All-tail (λ x. p x ≡ true) x xs all))

pub keep_none : {A : Type 0} (p : A → Bool) (xs : List A) → All (λ x. p x ≡ false) xs → filter p xs ≡ []
keep_none p [] none = refl
keep_none p (x ∷ xs) none =
    ap (λ b. cond b (x ∷ filter p xs) (filter p xs)) (All-head (λ x. p x ≡ false) x xs none)
    ∙ keep_none p xs (All-tail (λ x. p x ≡ false) x xs none)

pub keep_yes : {A : Type 0} (p : A → Bool) (x : A) (xs : List A) → p x ≡ true → filter p (x ∷ xs) ≡ x ∷ filter p xs
keep_yes p x xs passes = ap (λ b. cond b (x ∷ filter p xs) (filter p xs)) passes

pub keep_no : {A : Type 0} (p : A → Bool) (x : A) (xs : List A) → p x ≡ false → filter p (x ∷ xs) ≡ filter p xs
keep_no p x xs fails = ap (λ b. cond b (x ∷ filter p xs) (filter p xs)) fails

-- as many of the same elements
pub keep_moved : {A : Type 0} (p : A → Bool) (xs ys : List A) → IsPermutation xs ys → length (filter p ys) ≡ length (filter p xs)
keep_moved p xs ys moved =
    length-filter p ys ∙ sum_by-IsPermutation (λ x. cond (p x) 1 0) xs ys moved ∙ sym (length-filter p xs)

-- what a list keeps whose elements are mapped
pub keep_map : {A B : Type 0} (p : B → Bool) (f : A → B) (xs : List A) → filter p (map f xs) ≡ map f (filter (λ x. p (f x)) xs)
keep_map p f [] = refl
keep_map {A} {B} p f (x ∷ xs) = by_test (p (f x)) (keep_map p f xs)
  where
    by_test : (b : Bool) → filter p (map f xs) ≡ map f (filter (λ x. p (f x)) xs)
        → cond b (f x ∷ filter p (map f xs)) (filter p (map f xs)) ≡ map f (cond b (x ∷ filter (λ x. p (f x)) xs) (filter (λ x. p (f x)) xs))
    by_test true same = ap (λ ys. f x ∷ ys) same
    by_test false same = same

-- ---- elements at their places

pub at_seam : {A : Type 0} (xs : List A) (y : A) (ys : List A) → slice_get (xs ++ y ∷ ys) (length xs) ≡ Some y
at_seam [] y ys = refl
at_seam (x ∷ xs) y ys = at_seam xs y ys

-- the element that is mapped to the one at a seam
pub of_seam : {A B : Type 0} (f : A → B) (zs : List A) (xs : List B) (y : B) (ys : List B) → xs ++ y ∷ ys ≡ map f zs
    → (z : A) × (slice_get zs (length xs) ≡ Some z) × (f z ≡ y)
of_seam f [] [] y ys same = absurd cc
of_seam f [] (x ∷ xs) y ys same = absurd cc
of_seam f (z ∷ zs) [] y ys same = (z, refl, cc)
of_seam {A} {B} f (z ∷ zs) (x ∷ xs) y ys same = of_seam f zs xs y ys rest
  where
    rest : xs ++ y ∷ ys ≡ map f zs
    rest = cc

-- what holds of the one at each place holds of all
pub All-places : {A : Type 0} (P : A → Type 0) (xs : List A) → ((place : ℕ) (x : A) → slice_get xs place ≡ Some x → P x) → All P xs
All-places P xs each k d short = each k (get_or xs k d) (slice_get-get_or xs k d short)

-- two lists of the same length have elements at the same places
pub there_too : {A B : Type 0} (xs : List A) (ys : List B) (place : ℕ) (x : A) → length xs ≡ length ys → slice_get xs place ≡ Some x
    → (y : B) × (slice_get ys place ≡ Some y)
there_too [] ys place x long there = absurd (none-some x there)
there_too (z ∷ xs) [] place x long there = absurd (omega (arith, long))
there_too (z ∷ xs) (y ∷ ys) zero x long there = (y, refl)
there_too (z ∷ xs) (y ∷ ys) (suc place) x long there = there_too xs ys place x (omega (arith, long)) there

pub is_there : {A : Type 0} (xs : List A) (place : ℕ) → place < length xs → (x : A) × (slice_get xs place ≡ Some x)
is_there [] place short = absurd (omega (arith, short))
is_there (x ∷ xs) zero short = (x, refl)
is_there (x ∷ xs) (suc place) short = is_there xs place (omega (arith, short))

-- the last of a list with one more
pub last_pushed : {A : Type 0} (xs : List A) (x : A) → slice_get (xs ++ x ∷ []) (length (xs ++ x ∷ []) - 1) ≡ Some x
last_pushed xs x =
    let last : length (xs ++ x ∷ []) - 1 ≡ length xs = omega (arith, length-append xs (x ∷ [])) in
    ap (slice_get (xs ++ x ∷ [])) last ∙ at_seam xs x []

-- what is told of two elements at a place of lists that tell the same
pub told_same : {A B C : Type 0} (f : A → C) (g : B → C) (xs : List A) (ys : List B) (place : ℕ) (x : A) (y : B) → map f xs ≡ map g ys
    → slice_get xs place ≡ Some x → slice_get ys place ≡ Some y → f x ≡ g y
told_same f g [] ys place x y same there here = absurd (none-some x there)
told_same f g (z ∷ xs) [] place x y same there here = absurd (none-some y here)
told_same f g (z ∷ xs) (w ∷ ys) zero x y same there here = ap f (sym (same_Some z x there)) ∙ first ∙ ap g (same_Some w y here)
  where
    first : f z ≡ g w
    first = cc
told_same {A} {B} f g (z ∷ xs) (w ∷ ys) (suc place) x y same there here = told_same f g xs ys place x y rest there here
  where
    rest : map f xs ≡ map g ys
    rest = cc
