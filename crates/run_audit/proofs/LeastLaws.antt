-- What is found at the one of the least number, in whatever order those of a list stand.
use Rattle.std.proofs.Common.{◌≡◌, ℕ, zero, suc, ◌+◌, ◌<◌, ◌≤◌, Bool, true, false, List, [], ◌∷◌, ◌++◌, map, length, get_or, take, Option, None, Some, refl, sym, ap, ◌∙◌, subst, arith, nat_le, nat_lt, Contains, if◌then◌else◌, All}
use Rattle.std.proofs.lemmas.Bool.Decides.{nat_tests}
use Rattle.std.proofs.lemmas.List.{map_more, take_all}
use Rattle.std.proofs.lemmas.List.Elements.{All-contains, All-push, All-tail, All-weaker}
use Rattle.std.proofs.lemmas.List.Sorted.{All-permutation, Contains-permutation}
use Rattle.run_audit.specs.Leasts.{lesser, told}
use Rattle.meter_fabric_base.specs.Orders.{in_order}
use Rattle.run_audit.specs.Verdicts.{first_found, first_of}
use Rattle.meter_fabric_base.proofs.OrderLaws.{Ascends, in_order-ascends, in_order-permutes}
use Rattle.run_audit.proofs.PremiseFoundLaws.{first_found-none}
use Rattle.run_audit.proofs.SortLaws.{Differ, either_way, key_order}

-- found at one of a list, and nothing at those of lesser numbers
pub record IsFoundAt {A B : Type 0} (key : A → ℕ) (find : A → Option B) (xs : List A) (number : ℕ) (found : B) : Type 0 where
  pub at : A
  pub there : Contains xs at
  pub named : key at ≡ number
  pub is : find at ≡ Some found
  pub least : All (λ x. key x < number → find x ≡ None) xs

-- what was found so far along a list
abbrev pub IsLeast : {A B : Type 0} → (A → ℕ) → (A → Option B) → List A → Option (ℕ × B) → Type 0
IsLeast key find xs None = All (λ x. find x ≡ None) xs
IsLeast key find xs (Some entry) = IsFoundAt key find xs entry.0 entry.1

-- ---- one more

in_front : {A : Type 0} (xs : List A) (x z : A) → Contains xs z → Contains (xs ++ x ∷ []) z
in_front (y ∷ xs) x z (zero, short, at) = (0, omega arith, at)
in_front (y ∷ xs) x z (suc k, short, at) = let (j, within, is) = in_front xs x z (k, omega (arith, short), at) in (suc j, omega (arith, within), is)
in_front [] x z (k, short, at) = absurd (omega (arith, short))

at_end : {A : Type 0} (xs : List A) (x : A) → Contains (xs ++ x ∷ []) x
at_end [] x = (0, omega arith, refl)
at_end (y ∷ xs) x = let (j, within, is) = at_end xs x in (suc j, omega (arith, within), is)

no_less : (m n : ℕ) → m < n → nat_le n m ≡ true → ⊥
no_less m n below up = grind (arith, nat_tests)

least_push : {A B : Type 0} (key : A → ℕ) (find : A → Option B) (xs : List A) (x : A) (least : Option (ℕ × B)) (here : Option B) → find x ≡ here
    → IsLeast key find xs least → IsLeast key find (xs ++ x ∷ []) (lesser least (key x) here)
least_push key find xs x None None is all = All-push (λ y. find y ≡ None) xs x all is
least_push key find xs x (Some entry) None is found = record {
  at = found.at;
  there = in_front xs x found.at found.there;
  named = found.named;
  is = found.is;
  least = All-push (λ y. key y < entry.0 → find y ≡ None) xs x found.least (λ below. is);
}
least_push key find xs x None (Some v) is all = record {
  at = x;
  there = at_end xs x;
  named = refl;
  is = is;
  least = All-push (λ y. key y < key x → find y ≡ None) xs x (All-weaker (λ y. find y ≡ None) (λ y. key y < key x → find y ≡ None) (λ y none below. none) xs all)
      (λ below. absurd (omega (arith, below)));
}
least_push {A} {B} key find xs x (Some entry) (Some v) is found = by_test (nat_le entry.0 (key x)) refl
  where
    by_test : (b : Bool) → nat_le entry.0 (key x) ≡ b → IsLeast key find (xs ++ x ∷ []) (if b then Some entry else Some (key x, v))
    by_test true up = record {
      at = found.at;
      there = in_front xs x found.at found.there;
      named = found.named;
      is = found.is;
      least = All-push (λ y. key y < entry.0 → find y ≡ None) xs x found.least (λ below. absurd (no_less (key x) entry.0 below up));
    }
    by_test false down = record {
      at = x;
      there = at_end xs x;
      named = refl;
      is = is;
      least = All-push (λ y. key y < key x → find y ≡ None) xs x
          (All-weaker (λ y. key y < entry.0 → find y ≡ None) (λ y. key y < key x → find y ≡ None) (λ y none below. none (further (key y) (key x) entry.0 below down)) xs found.least)
          (λ below. absurd (omega (arith, below)));
    }
      where
        further : (k n m : ℕ) → k < n → nat_le m n ≡ false → k < m
        further k n m below down = grind (arith, nat_tests)

-- ---- the whole

along : {A B : Type 0} (key : A → ℕ) (find : A → Option B) (ys : List A) (number : ℕ) (found : B) → Ascends (λ x y. nat_lt (key x) (key y)) ys
    → IsFoundAt key find ys number found → first_found find ys ≡ Some found
unfolding first_found Ascends
along key find [] number found rises known = let (k, short, at) = known.there in absurd (omega (arith, short))
along {A} {B} key find (y ∷ ys) number found rises known = by_place known.there (along key find ys number found rises.1)
  where
    by_place : Contains (y ∷ ys) known.at → (IsFoundAt key find ys number found → first_found find ys ≡ Some found) → first_of (find y) (first_found find ys) ≡ Some found
    by_place (zero, short, at) further = ap (λ here. first_of here (first_found find ys)) (ap find at ∙ known.is)
    by_place (suc k, short, at) further =
        let in_ys : Contains ys known.at = (k, omega (arith, short), at) in
        let below : key y < number = tells (key y) (key known.at) number (All-contains (λ z. nat_lt (key y) (key z) ≡ true) ys known.at rises.0 in_ys) known.named in
        ap (λ here. first_of here (first_found find ys)) (known.least 0 y (omega arith) below)
        ∙ further (record { at = known.at; there = in_ys; named = known.named; is = known.is; least = All-tail (λ x. key x < number → find x ≡ None) y ys known.least })
      where
        tells : (m n o : ℕ) → nat_lt m n ≡ true → n ≡ o → m < o
        tells m n o less same = grind (arith, nat_tests)

-- what was found along a whole list is what is found first once it is in order
pub least_is : {A B : Type 0} (key : A → ℕ) (find : A → Option B) (xs : List A) (least : Option (ℕ × B)) → Differ key xs → IsLeast key find xs least
    → told least ≡ first_found find (in_order (λ x y. nat_lt (key x) (key y)) xs)
least_is {A} key find xs None apart all =
    let before : A → A → Bool = λ x y. nat_lt (key x) (key y) in
    sym ((first_found-none find (in_order before xs)).1 (All-permutation (λ x. find x ≡ None) xs (in_order before xs) (in_order-permutes before xs) all))
least_is {A} key find xs (Some entry) apart found =
    let before : A → A → Bool = λ x y. nat_lt (key x) (key y) in
    let moved = in_order-permutes before xs in
    sym (along key find (in_order before xs) entry.0 entry.1
    (in_order-ascends before (key_order key) xs (λ i j d below short. either_way (key (get_or xs i d)) (key (get_or xs j d)) (apart i j d below short)))
    (record {
      at = found.at;
      there = Contains-permutation xs (in_order before xs) found.at moved found.there;
      named = found.named;
      is = found.is;
      least = All-permutation (λ x. key x < entry.0 → find x ≡ None) xs (in_order before xs) moved found.least;
    }))

-- ---- along what a list shows

pub least_start : {A B X : Type 0} (key : A → ℕ) (find : A → Option B) (show : X → A) (xs : List X) → IsLeast key find (map show (take 0 xs)) None
least_start key find show xs k d short = absurd (omega (arith, short))

pub least_more : {A B X : Type 0} (key : A → ℕ) (find : A → Option B) (show : X → A) (xs : List X) (i : ℕ) (x : X) (least next : Option (ℕ × B)) (number : ℕ) (here : Option B)
    → i < length xs → x ≡ get_or xs i x → number ≡ key (show x) → here ≡ find (show x) → next ≡ lesser least number here
    → IsLeast key find (map show (take i xs)) least → IsLeast key find (map show (take (i + 1) xs)) next
least_more key find show xs i x least next number here short at named is is_next known =
    rw is_next (rw named (rw (map_more show xs i x short) (subst (λ y. IsLeast key find (map show (take i xs) ++ show y ∷ []) (lesser least (key (show x)) here)) at
    (least_push key find (map show (take i xs)) (show x) least here (sym is) known))))

pub least_ended : {A B X : Type 0} (key : A → ℕ) (find : A → Option B) (show : X → A) (xs : List X) (i : ℕ) (least : Option (ℕ × B)) → length xs ≤ i
    → Differ key (map show xs) → IsLeast key find (map show (take i xs)) least → told least ≡ first_found find (in_order (λ x y. nat_lt (key x) (key y)) (map show xs))
least_ended key find show xs i least long apart known =
    least_is key find (map show xs) least apart (subst (λ ys. IsLeast key find (map show ys) least) (take_all i xs long) known)
