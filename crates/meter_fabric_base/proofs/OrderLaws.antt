-- A list in order is what its elements are in order, in whatever order they stood.
use Rattle.std.proofs.Common.{◌≡◌, zero, suc, ◌⊎◌, inl, inr, Bool, true, false, List, [], ◌∷◌, refl, sym, ap, ◌∙◌, arith, All}
use Rattle.std.specs.Prelude.{⊤, AllPairs, Contains, IsPermutation, if◌then◌else◌}
use Rattle.std.proofs.lemmas.Bool.{false≢true}
use Rattle.std.proofs.lemmas.List.Elements.{All-cons, All-contains, All-head, All-tail, All-weaker}
use Rattle.std.proofs.lemmas.List.Sorted.{All-permutation, Contains-permutation, IsPermutation-cons, IsPermutation-middle, IsPermutation-refl, IsPermutation-sym, IsPermutation-trans}
use Rattle.meter_fabric_base.specs.Orders.{in_order, placed}

-- a test that is an order: of two at most one stands before the other, and what stands before one stands before those behind it
pub record IsOrder {A : Type 0} (before : A → A → Bool) : Type 0 where
  pub one_way : (x y : A) → before x y ≡ true → before y x ≡ false
  pub through : (x y z : A) → before x y ≡ true → before y z ≡ true → before x z ≡ true

-- one of the two stands before the other
abbrev pub AreApart : {A : Type 0} → (A → A → Bool) → A → A → Type 0
AreApart before x y = (before x y ≡ true) ⊎ (before y x ≡ true)

-- each stands before all behind it
unfoldable pub Ascends : {A : Type 0} → (A → A → Bool) → List A → Type 0
Ascends before [] = ⊤
Ascends before (x ∷ xs) = All (λ y. before x y ≡ true) xs × Ascends before xs

placed_permutes : {A : Type 0} (before : A → A → Bool) (x : A) (ys : List A) → IsPermutation (x ∷ ys) (placed before x ys)
unfolding placed
placed_permutes before x [] = IsPermutation-refl (x ∷ [])
placed_permutes before x (y ∷ ys) = by_test (before y x) (placed_permutes before x ys)
  where
    by_test : (b : Bool) → IsPermutation (x ∷ ys) (placed before x ys) → IsPermutation (x ∷ y ∷ ys) (if b then y ∷ placed before x ys else x ∷ y ∷ ys)
    by_test true further =
        IsPermutation-trans (x ∷ y ∷ ys) (y ∷ x ∷ ys) (y ∷ placed before x ys)
        (IsPermutation-middle (x ∷ []) y ys)
        (IsPermutation-cons y (x ∷ ys) (placed before x ys) further)
    by_test false further = IsPermutation-refl (x ∷ y ∷ ys)

pub in_order-permutes : {A : Type 0} (before : A → A → Bool) (xs : List A) → IsPermutation xs (in_order before xs)
unfolding in_order
in_order-permutes before [] = IsPermutation-refl []
in_order-permutes before (x ∷ xs) =
    IsPermutation-trans (x ∷ xs) (x ∷ in_order before xs) (placed before x (in_order before xs))
    (IsPermutation-cons x xs (in_order before xs) (in_order-permutes before xs))
    (placed_permutes before x (in_order before xs))

-- ---- a list in order ascends, where of each two one stands before the other

placed-ascends : {A : Type 0} (before : A → A → Bool) → IsOrder before → (x : A) (ys : List A)
    → All (λ y. AreApart before x y) ys → Ascends before ys → Ascends before (placed before x ys)
unfolding placed Ascends
placed-ascends {A} before order x [] apart rises = ((λ k d short. absurd (omega (arith, short))), tt)
placed-ascends {A} before order x (y ∷ ys) apart rises = by_test (before y x) refl (All-head (λ y. AreApart before x y) y ys apart)
    (placed-ascends before order x ys (All-tail (λ y. AreApart before x y) y ys apart) rises.1)
  where
    by_test : (b : Bool) → before y x ≡ b → AreApart before x y → Ascends before (placed before x ys) → Ascends before (if b then y ∷ placed before x ys else x ∷ y ∷ ys)
    by_test true behind either further = (
      All-permutation (λ z. before y z ≡ true) (x ∷ ys) (placed before x ys) (placed_permutes before x ys) (All-cons (λ z. before y z ≡ true) x ys behind rises.0),
      further,
    )
    by_test false ahead (inl first) further = (
      All-cons (λ z. before x z ≡ true) y ys first (All-weaker (λ z. before y z ≡ true) (λ z. before x z ≡ true) (λ z next. order.through x y z first next) ys rises.0),
      rises,
    )
    by_test false ahead (inr behind) further = absurd (false≢true (sym ahead ∙ behind))

pub in_order-ascends : {A : Type 0} (before : A → A → Bool) → IsOrder before → (xs : List A) → AllPairs (AreApart before) xs → Ascends before (in_order before xs)
unfolding in_order Ascends
in_order-ascends before order [] apart = tt
in_order-ascends before order (x ∷ xs) apart =
    placed-ascends before order x (in_order before xs)
    (All-permutation (AreApart before x) xs (in_order before xs) (in_order-permutes before xs) (λ k d short. apart 0 (suc k) d (omega arith) (omega (arith, short))))
    (in_order-ascends before order xs (λ i j d below short. apart (suc i) (suc j) d (omega (arith, below)) (omega (arith, short))))

-- ---- only one list of the same elements ascends

has : {A : Type 0} (x : A) (xs : List A) (z : A) → Contains (x ∷ xs) z → (x ≡ z) ⊎ Contains xs z
has x xs z (zero, short, at) = inl at
has x xs z (suc k, short, at) = inr (k, omega (arith, short), at)

here : {A : Type 0} (x : A) (xs : List A) → Contains (x ∷ xs) x
here x xs = (0, omega arith, refl)

there : {A : Type 0} (x : A) (xs : List A) (z : A) → Contains xs z → Contains (x ∷ xs) z
there x xs z (k, short, at) = (suc k, omega (arith, short), at)

-- the same elements stand in both lists
abbrev pub HasAllOf : {A : Type 0} → List A → List A → Type 0
HasAllOf {A} xs ys = (z : A) → Contains ys z → Contains xs z

same_first : {A : Type 0} (before : A → A → Bool) → IsOrder before → (x y : A) (xs ys : List A)
    → All (λ z. before x z ≡ true) xs → All (λ z. before y z ≡ true) ys → (x ≡ y) ⊎ Contains ys x → (y ≡ x) ⊎ Contains xs y → x ≡ y
same_first before order x y xs ys first least (inl same) back = same
same_first before order x y xs ys first least (inr in_ys) (inl same) = sym same
same_first before order x y xs ys first least (inr in_ys) (inr in_xs) =
    absurd (false≢true (sym (order.one_way x y (All-contains (λ z. before x z ≡ true) xs y first in_xs)) ∙ All-contains (λ z. before y z ≡ true) ys x least in_ys))

not_itself : {A : Type 0} (before : A → A → Bool) → IsOrder before → (x : A) → before x x ≡ true → ⊥
not_itself before order x itself = false≢true (sym (order.one_way x x itself) ∙ itself)

rest_of : {A : Type 0} (before : A → A → Bool) → IsOrder before → (x y : A) (xs ys : List A)
    → x ≡ y → All (λ z. before x z ≡ true) xs → HasAllOf (y ∷ ys) (x ∷ xs) → HasAllOf ys xs
rest_of {A} before order x y xs ys same first all z in_xs = behind (has y ys z (all z (there x xs z in_xs)))
  where
    behind : (y ≡ z) ⊎ Contains ys z → Contains ys z
    behind (inl y_is) = absurd (not_itself before order x (ap (before x) (same ∙ y_is) ∙ All-contains (λ z. before x z ≡ true) xs z first in_xs))
    behind (inr found) = found

pub ascends-once : {A : Type 0} (before : A → A → Bool) → IsOrder before → (xs ys : List A)
    → Ascends before xs → Ascends before ys → HasAllOf ys xs → HasAllOf xs ys → xs ≡ ys
unfolding Ascends
ascends-once before order [] [] rises climbs all back = refl
ascends-once before order [] (y ∷ ys) rises climbs all back = nothing (back y (here y ys))
  where
    nothing : Contains [] y → [] ≡ y ∷ ys
    nothing (k, short, at) = absurd (omega (arith, short))
ascends-once before order (x ∷ xs) [] rises climbs all back = nothing (all x (here x xs))
  where
    nothing : Contains [] x → x ∷ xs ≡ []
    nothing (k, short, at) = absurd (omega (arith, short))
ascends-once before order (x ∷ xs) (y ∷ ys) rises climbs all back =
    let same = same_first before order x y xs ys rises.0 climbs.0 (back_flip (has y ys x (all x (here x xs)))) (back_flip (has x xs y (back y (here y ys)))) in
    ap (λ z. z ∷ xs) same
    ∙ ap (λ zs. y ∷ zs) (ascends-once before order xs ys rises.1 climbs.1 (rest_of before order x y xs ys same rises.0 all) (rest_of before order y x ys xs (sym same) climbs.0 back))
  where
    back_flip : {B : Type 0} {u v : B} {P : Type 0} → (u ≡ v) ⊎ P → (v ≡ u) ⊎ P
    back_flip (inl e) = inl (sym e)
    back_flip (inr p) = inr p

-- a list that ascends is any list of the same elements in order
pub in_order-is : {A : Type 0} (before : A → A → Bool) → IsOrder before → (xs ys : List A)
    → AllPairs (AreApart before) xs → Ascends before ys → HasAllOf ys xs → HasAllOf xs ys → ys ≡ in_order before xs
in_order-is before order xs ys apart climbs all back =
    let moved = in_order-permutes before xs in
    ascends-once before order ys (in_order before xs) climbs (in_order-ascends before order xs apart)
    (λ z in_ys. Contains-permutation xs (in_order before xs) z moved (back z in_ys))
    (λ z placed_there. all z (Contains-permutation (in_order before xs) xs z (IsPermutation-sym xs (in_order before xs) moved) placed_there))

-- a list whose elements stand before all behind them by their places ascends
pub ascends-from_pairs : {A : Type 0} (before : A → A → Bool) (xs : List A) → AllPairs (λ x y. before x y ≡ true) xs → Ascends before xs
unfolding Ascends
ascends-from_pairs before [] pairs = tt
ascends-from_pairs before (x ∷ xs) pairs = (
  (λ k d short. pairs 0 (suc k) d (omega arith) (omega (arith, short))),
  ascends-from_pairs before xs (λ i j d below short. pairs (suc i) (suc j) d (omega (arith, below)) (omega (arith, short))),
)
