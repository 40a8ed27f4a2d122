-- Lists in order, where of each two elements that differ one stands before the other.
use Rattle.std.proofs.Common.{◌≡◌, Bool, true, false, List, [], ◌∷◌, ◌++◌, get_or, sym, AllPairs, IsPermutation, cond}
use Rattle.std.specs.List.{All, IsDistinct, filter}
use Rattle.std.proofs.lemmas.List.Elements.{All-append, All-filter, All-head, All-tail}
use Rattle.std.proofs.lemmas.List.Sorted.{All-permutation, Contains-permutation, IsPermutation-append, IsPermutation-sym, IsPermutation-trans}
use Rattle.std.proofs.lemmas.Map.Keys.{IsDistinct-IsPermutation, apart_from_distinct}
use Rattle.meter_fabric_base.specs.Orders.{in_order}
use Rattle.meter_fabric_base.proofs.OrderLaws.{AreApart, Ascends, IsOrder, in_order-ascends, in_order-is, in_order-permutes}

-- ---- lists that ascend

pub ascends-both : {A : Type 0} (before : A → A → Bool) (xs ys : List A) → Ascends before xs → Ascends before ys
    → All (λ x. All (λ y. before x y ≡ true) ys) xs → Ascends before (xs ++ ys)
unfolding Ascends
ascends-both before [] ys rises climbs across = climbs
ascends-both {A} before (x ∷ xs) ys rises climbs across = (
  All-append (λ y. before x y ≡ true) xs ys rises.0 (All-head (λ z. All (λ y. before z y ≡ true) ys) x xs across),
  ascends-both before xs ys rises.1 climbs (All-tail (λ z. All (λ y. before z y ≡ true) ys) x xs across),
)

pub ascends-filter : {A : Type 0} (before : A → A → Bool) (p : A → Bool) (xs : List A) → Ascends before xs → Ascends before (filter p xs)
unfolding Ascends
ascends-filter before p [] rises = tt
ascends-filter {A} before p (x ∷ xs) rises = by_test (p x) (ascends-filter before p xs rises.1)
  where
    by_test : (b : Bool) → Ascends before (filter p xs) → Ascends before (cond b (x ∷ filter p xs) (filter p xs))
    by_test true further = (All-filter p (λ y. before x y ≡ true) xs rises.0, further)
    by_test false further = further

-- an order, and a test that tells which elements are the same: of two others one stands before the other
pub record IsOrderOf {A : Type 0} (before same : A → A → Bool) : Type 0 where
  pub order : IsOrder before
  pub either : (x y : A) → same x y ≡ false → AreApart before x y
  pub flips : (x y : A) → same x y ≡ same y x

module _ {A : Type 0} (before same : A → A → Bool) (is : IsOrderOf before same) where
  apart_pairs : (xs : List A) → IsDistinct same xs → AllPairs (AreApart before) xs
  apart_pairs xs apart i j d below short = is.either (get_or xs i d) (get_or xs j d) (apart_from_distinct same xs i j d apart below short)

  pub in_order-rises : (xs : List A) → IsDistinct same xs → Ascends before (in_order before xs)
  in_order-rises xs apart = in_order-ascends before is.order xs (apart_pairs xs apart)

  -- a list of the same elements that ascends
  pub in_order-told : (xs ys : List A) → IsDistinct same xs → IsPermutation xs ys → Ascends before ys → in_order before xs ≡ ys
  in_order-told xs ys apart moved climbs =
      sym (in_order-is before is.order xs ys (apart_pairs xs apart) climbs (λ z. Contains-permutation xs ys z moved) (λ z. Contains-permutation ys xs z (IsPermutation-sym xs ys moved)))

  -- the same elements stand in one order
  pub in_order-same : (xs ys : List A) → IsDistinct same xs → IsPermutation xs ys → in_order before xs ≡ in_order before ys
  in_order-same xs ys apart moved =
      in_order-told xs (in_order before ys) apart (IsPermutation-trans xs ys (in_order before ys) moved (in_order-permutes before ys))
      (in_order-rises ys (IsDistinct-IsPermutation same is.flips xs ys moved apart))

  -- elements, and others behind each of them
  pub in_order-both : (xs ys us : List A) → IsDistinct same us → IsPermutation us (xs ++ ys) → IsDistinct same xs → IsDistinct same ys
      → All (λ x. All (λ y. before x y ≡ true) ys) xs → in_order before us ≡ in_order before xs ++ in_order before ys
  in_order-both xs ys us apart moved first next across =
      in_order-told us (in_order before xs ++ in_order before ys) apart
      (IsPermutation-trans us (xs ++ ys) (in_order before xs ++ in_order before ys) moved
      (IsPermutation-append xs (in_order before xs) ys (in_order before ys) (in_order-permutes before xs) (in_order-permutes before ys)))
      (ascends-both before (in_order before xs) (in_order before ys) (in_order-rises xs first) (in_order-rises ys next)
      (All-permutation (λ x. All (λ y. before x y ≡ true) (in_order before ys)) xs (in_order before xs) (in_order-permutes before xs)
      (λ k d short. All-permutation (λ y. before (get_or xs k d) y ≡ true) ys (in_order before ys) (in_order-permutes before ys) (across k d short))))
