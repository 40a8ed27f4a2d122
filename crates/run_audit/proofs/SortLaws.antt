-- Trails and journals that are sorted are in order.
use Rattle.std.proofs.Common.{◌≡◌, ℕ, suc, ◌+◌, ◌<◌, ◌⊎◌, inl, inr, Bool, true, false, eqb, List, [], ◌∷◌, map, length, get_or, refl, ap, ◌∙◌, arith, ◌||◌, ◌&&◌, nat_eq, nat_lt, AllPairs, IsPermutation}
use Rattle.std.specs.List.{All, AllByRecursion, IsDistinct}
use Rattle.std.specs.Ordering.{is_lt, nat_cmp, ordering_then}
use Rattle.std.proofs.lemmas.Bool.Decides.{nat_tests}
use Rattle.std.proofs.lemmas.List.Elements.{All-cons, All-weaker}
use Rattle.std.proofs.lemmas.List.Sorted.{Contains-permutation, IsPermutation-map, IsPermutation-sym}
use Rattle.std.proofs.lemmas.Map.Keys.{IsDistinct-IsPermutation}
use Rattle.run_audit.specs.Runs.{Passage}
use Rattle.run_audit.specs.Standings.{by_contract, stands_before}
use Rattle.meter_fabric_base.proofs.OrderLaws.{AreApart, Ascends, IsOrder, in_order-is}

-- ---- elements with keys that differ

abbrev pub Differ : {A : Type 0} → (A → ℕ) → List A → Type 0
Differ key xs = AllPairs (λ x y. ¬ (key x ≡ key y)) xs

eqb-apart : (m n : ℕ) → ¬ (m ≡ n) → eqb m n ≡ false
eqb-apart m n apart = by_test (eqb m n) refl
  where
    by_test : (b : Bool) → eqb m n ≡ b → b ≡ false
    by_test true same = absurd (apart (grind (arith, nat_tests)))
    by_test false other = refl

apart_keys : {A : Type 0} (key : A → ℕ) (n : ℕ) (xs : List A) → All (λ x. ¬ (n ≡ key x)) xs → AllByRecursion (λ m. eqb n m ≡ false) (map key xs)
apart_keys key n [] apart = tt
apart_keys key n (x ∷ xs) apart = (eqb-apart n (key x) (apart 0 x (omega arith)), apart_keys key n xs (λ k d short. apart (suc k) d (omega (arith, short))))

distinct_keys : {A : Type 0} (key : A → ℕ) (xs : List A) → Differ key xs → IsDistinct eqb (map key xs)
unfolding IsDistinct
distinct_keys key [] apart = tt
distinct_keys key (x ∷ xs) apart = (
  apart_keys key (key x) xs (λ k d short. apart 0 (suc k) d (omega arith) (omega (arith, short))),
  distinct_keys key xs (λ i j d below short. apart (suc i) (suc j) d (omega (arith, below)) (omega (arith, short))),
)

-- ---- the order of keys

pub key_order : {A : Type 0} (key : A → ℕ) → IsOrder (λ x y. nat_lt (key x) (key y))
key_order key = record {
  one_way = λ x y first. one_way (key x) (key y) first;
  through = λ x y z first next. through (key x) (key y) (key z) first next;
}
  where
    one_way : (m n : ℕ) → nat_lt m n ≡ true → nat_lt n m ≡ false
    one_way m n first = grind (arith, nat_tests)

    through : (m n o : ℕ) → nat_lt m n ≡ true → nat_lt n o ≡ true → nat_lt m o ≡ true
    through m n o first next = grind (arith, nat_tests)

pub either_way : (m n : ℕ) → ¬ (m ≡ n) → (nat_lt m n ≡ true) ⊎ (nat_lt n m ≡ true)
either_way m n apart = by_test (nat_lt m n) refl
  where
    by_test : (b : Bool) → nat_lt m n ≡ b → (nat_lt m n ≡ true) ⊎ (nat_lt n m ≡ true)
    by_test true first = inl first
    by_test false last = inr (behind (λ same. apart same) last)
      where
        behind : ¬ (m ≡ n) → nat_lt m n ≡ false → nat_lt n m ≡ true
        behind apart last = grind (arith, nat_tests)

-- what is shown of what references tell
pub shown_told : {A B C : Type 0} (tell : A → B) (show : B → C) (xs : List A) (ys : List B) (zs : List C) → map tell xs ≡ ys → map show ys ≡ zs → map (λ x. show (tell x)) xs ≡ zs
shown_told tell show xs ys zs told shown = twice tell show xs ∙ ap (map show) told ∙ shown
  where
    twice : {A B C : Type 0} (tell : A → B) (show : B → C) (xs : List A) → map (λ x. show (tell x)) xs ≡ map show (map tell xs)
    twice tell show [] = refl
    twice tell show (x ∷ xs) = ap (λ ys. show (tell x) ∷ ys) (twice tell show xs)

-- ---- contract by contract

-- first by one number, then by a second, then by a third
abbrev is_less : ℕ → ℕ → ℕ → ℕ → ℕ → ℕ → Bool
is_less f b n f' b' n' = nat_lt f f' || nat_eq f f' && (nat_lt b b' || nat_eq b b' && nat_lt n n')

is_less-one_way : (f b n f' b' n' : ℕ) → is_less f b n f' b' n' ≡ true → is_less f' b' n' f b n ≡ false
is_less-one_way f b n f' b' n' less = grind (arith, nat_tests)

is_less-through : (f b n f' b' n' g c m : ℕ) → is_less f b n f' b' n' ≡ true → is_less f' b' n' g c m ≡ true → is_less f b n g c m ≡ true
is_less-through f b n f' b' n' g c m less next = grind (arith, nat_tests)

is_less-either : (f b n f' b' n' : ℕ) → ¬ (n ≡ n') → is_less f b n f' b' n' ≡ false → is_less f' b' n' f b n ≡ true
is_less-either f b n f' b' n' apart last = grind (arith, nat_tests)

pub standing_order : IsOrder stands_before
standing_order = record {
  one_way = λ p q less. is_less-one_way p.packet.flow p.packet.begun p.packet.number q.packet.flow q.packet.begun q.packet.number less;
  through = λ p q r less next.
      is_less-through p.packet.flow p.packet.begun p.packet.number q.packet.flow q.packet.begun q.packet.number r.packet.flow r.packet.begun r.packet.number less next;
}

-- of two packets of other numbers one stands before the other
pub either_stands : (p q : Passage) → ¬ (p.packet.number ≡ q.packet.number) → AreApart stands_before p q
either_stands p q apart = by_test (stands_before p q) refl
  where
    by_test : (b : Bool) → stands_before p q ≡ b → AreApart stands_before p q
    by_test true first = inl first
    by_test false last = inr (is_less-either p.packet.flow p.packet.begun p.packet.number q.packet.flow q.packet.begun q.packet.number apart last)

-- what does not compare as less than another of another last number is behind it
compared : (f b n f' b' n' : ℕ) → eqb n n' ≡ false → is_lt (ordering_then (ordering_then (nat_cmp f' f) (nat_cmp b' b)) (nat_cmp n' n)) ≡ false → is_less f b n f' b' n' ≡ true
compared f b n f' b' n' apart last = grind (arith, nat_tests)

abbrev IsNotBehind : Passage → Passage → Type 0
IsNotBehind p q =
    is_lt (ordering_then (ordering_then (nat_cmp q.packet.flow p.packet.flow) (nat_cmp q.packet.begun p.packet.begun)) (nat_cmp q.packet.number p.packet.number)) ≡ false

abbrev number_of : Passage → ℕ
number_of p = p.packet.number

stands-ascends : {X : Type 0} (show : X → Passage) (xs : List X) → IsDistinct eqb (map (λ x. number_of (show x)) xs)
    → ((k j : ℕ) (d : X) → j ≡ k + 1 → j < length xs → IsNotBehind (show (get_or xs k d)) (show (get_or xs j d))) → Ascends stands_before (map show xs)
unfolding IsDistinct Ascends
stands-ascends show [] apart rises = tt
stands-ascends show (x ∷ []) apart rises = ((λ k d short. absurd (omega (arith, short))), tt)
stands-ascends show (x ∷ y ∷ xs) apart rises =
    let p = show x in
    let q = show y in
    let next = compared p.packet.flow p.packet.begun p.packet.number q.packet.flow q.packet.begun q.packet.number apart.0.0 (rises 0 1 x (omega arith) (omega arith)) in
    let further = stands-ascends show (y ∷ xs) apart.1 (λ k j d next short. rises (suc k) (suc j) d (omega (arith, next)) (omega (arith, short))) in (
      All-cons (λ z. stands_before p z ≡ true) q (map show xs) next
          (All-weaker (λ z. stands_before q z ≡ true) (λ z. stands_before p z ≡ true) (λ z behind. standing_order.through p q z next behind) (map show xs) further.0),
      further,
    )

pub stood : {X : Type 0} (show : X → Passage) (ps : List Passage) (xs ys : List X) → map show xs ≡ ps → IsPermutation xs ys → Differ number_of ps
    → ((k j : ℕ) (d : X) → j ≡ k + 1 → j < length ys → IsNotBehind (show (get_or ys k d)) (show (get_or ys j d))) → map show ys ≡ by_contract ps
stood show ps xs ys same moved apart rises =
    let shown : IsPermutation ps (map show ys) = rw (← same) (IsPermutation-map show xs ys moved) in
    in_order-is stands_before standing_order ps (map show ys)
    (λ i j d below short. either_stands (get_or ps i d) (get_or ps j d) (apart i j d below short))
    (stands-ascends show ys
    (IsDistinct-IsPermutation eqb eqb_flips (map (λ x. number_of (show x)) xs) (map (λ x. number_of (show x)) ys) (IsPermutation-map (λ x. number_of (show x)) xs ys moved)
    (rw (shown_told show number_of xs ps (map number_of ps) same refl) (distinct_keys number_of ps apart)))
    rises)
    (λ z. Contains-permutation ps (map show ys) z shown)
    (λ z. Contains-permutation (map show ys) ps z (IsPermutation-sym ps (map show ys) shown))
  where
    eqb_flips : (m n : ℕ) → eqb m n ≡ eqb n m
    eqb_flips m n = grind (arith, nat_tests)
