-- Where nothing is found along a list, nothing is found at any of its elements, in whatever order they stand.
use Rattle.std.proofs.Common.{arith, ◌≡◌, ℕ, ◌<◌, ◌≤◌, ◌↔◌, Bool, true, false, List, [], ◌∷◌, Option, None, Some, refl, sym, ap, subst, ◌∙◌, ◌&&◌, nat_le, nat_lt, option_map, option_and_then, unwrap_or, if◌then◌else◌, All, le-leb, leb-true, lt-ltb, ltb-true}
use Rattle.std.specs.Option.{ForSome, option_map_or}
use Rattle.std.proofs.lemmas.List.Elements.{All-cons, All-head, All-tail, All-weaker}
use Rattle.std.proofs.lemmas.List.Sorted.{All-permutation, IsPermutation-sym}
use Rattle.std.proofs.lemmas.Option.{same_Some}
use Rattle.meter_fabric_base.specs.Orders.{in_order}
use Rattle.run_audit.specs.Verdicts.{first_found, first_of}
use Rattle.run_audit.specs.declared.verdict.Verdict.{Verdict}
use Rattle.run_audit.specs.declared.verdict.Verdict.TheVariants.{DelayOver, Kept, Late, OutsideContract, SourceOver}
use Rattle.meter_fabric_base.proofs.OrderLaws.{in_order-permutes}

-- ---- what tests tell

pub iff_trans : {P Q R : Type 0} → (P ↔ Q) → (Q ↔ R) → P ↔ R
iff_trans f g = (λ p. g.0 (f.0 p), λ r. f.1 (g.1 r))

pub le_tells : (m n : ℕ) → (nat_le m n ≡ true) ↔ (m ≤ n)
le_tells m n = (leb-true m n, le-leb m n)

pub lt_tells : (m n : ℕ) → (nat_lt m n ≡ true) ↔ (m < n)
lt_tells m n = (ltb-true m n, lt-ltb m n)

pub and_tells : {P Q : Type 0} (a b : Bool) → ((a ≡ true) ↔ P) → ((b ≡ true) ↔ Q) → ((a && b) ≡ true) ↔ (P × Q)
and_tells true b p q = (λ e. (p.0 refl, q.0 e), λ both. q.1 both.1)
and_tells false b p q = (λ e. absurd cc, λ both. p.1 both.0)

-- a test of what an option holds, if it holds anything
pub some_tells : {A : Type 0} (test : A → Bool) (P : A → Type 0) (o : Option A) → ((x : A) → (test x ≡ true) ↔ P x) → (option_map_or test o true ≡ true) ↔ ForSome o P
some_tells test P None each = (λ e x same. absurd cc, λ all. refl)
some_tells test P (Some y) each = (λ e x same. rw (← same_Some y x same) ((each y).0 e), λ all. (each y).1 (all y refl))

-- nothing is found where a test passes, and nothing behind it
pub if_tells : {B P Q : Type 0} (b : Bool) (rest : Option B) (found : B) → ((b ≡ true) ↔ P) → ((rest ≡ None) ↔ Q) → ((if b then rest else Some found) ≡ None) ↔ (P × Q)
if_tells true rest found p q = (λ e. (p.0 refl, q.0 e), λ both. q.1 both.1)
if_tells false rest found p q = (λ e. absurd cc, λ both. absurd (no_test (p.1 both.0)))
  where
    no_test : false ≡ true → ⊥
    no_test e = absurd cc

pub unless_tells : {B P : Type 0} (b : Bool) (found : B) → ((b ≡ true) ↔ P) → ((if b then None else Some found) ≡ None) ↔ P
unless_tells true found p = (λ e. p.0 refl, λ holds. refl)
unless_tells false found p = (λ e. absurd cc, λ holds. absurd (no_test (p.1 holds)))
  where
    no_test : false ≡ true → ⊥
    no_test e = absurd cc

-- ---- where nothing is found

pub first_of-none : {B : Type 0} (a b : Option B) → (first_of a b ≡ None) ↔ ((a ≡ None) × (b ≡ None))
first_of-none None b = (λ e. (refl, e), λ both. both.1)
first_of-none (Some x) b = (λ e. absurd cc, λ both. both.0)

pub map-none : {A B : Type 0} (f : A → B) (o : Option A) → (option_map f o ≡ None) ↔ (o ≡ None)
map-none f None = (λ e. refl, λ e. refl)
map-none f (Some x) = (λ e. absurd cc, λ e. absurd cc)

pub and_then-none : {A B : Type 0} (f : A → Option B) (P : A → Type 0) (o : Option A) → ((x : A) → (f x ≡ None) ↔ P x) → (option_and_then f o ≡ None) ↔ ForSome o P
and_then-none f P None each = (λ e x same. absurd cc, λ all. refl)
and_then-none f P (Some y) each = (λ e x same. rw (← same_Some y x same) ((each y).0 e), λ all. (each y).1 (all y refl))

pub first_found-none : {A B : Type 0} (find : A → Option B) (xs : List A) → (first_found find xs ≡ None) ↔ All (λ x. find x ≡ None) xs
unfolding first_found
first_found-none find [] = (λ e k d short. absurd (omega (arith, short)), λ all. refl)
first_found-none find (x ∷ xs) =
    let here = first_of-none (find x) (first_found find xs) in
    let behind = first_found-none find xs in (
      λ e. let both = here.0 e in All-cons (λ y. find y ≡ None) x xs both.0 (behind.0 both.1),
      λ all. here.1 (All-head (λ y. find y ≡ None) x xs all, behind.1 (All-tail (λ y. find y ≡ None) x xs all)),
    )

-- nothing is found along a list where each of its elements is as it should be
pub none_along : {A B : Type 0} (find : A → Option B) (P : A → Type 0) (xs : List A) → ((x : A) → (find x ≡ None) ↔ P x) → (first_found find xs ≡ None) ↔ All P xs
none_along find P xs each =
    let none = first_found-none find xs in (
      λ e. All-weaker (λ x. find x ≡ None) P (λ x h. (each x).0 h) xs (none.0 e),
      λ all. none.1 (All-weaker P (λ x. find x ≡ None) (λ x h. (each x).1 h) xs all),
    )

-- and so in any order
pub none_in_order : {A B : Type 0} (before : A → A → Bool) (find : A → Option B) (P : A → Type 0) (xs : List A)
    → ((x : A) → (find x ≡ None) ↔ P x) → (first_found find (in_order before xs) ≡ None) ↔ All P xs
none_in_order before find P xs each =
    let none = none_along find P (in_order before xs) each in
    let moved = in_order-permutes before xs in (
      λ e. All-permutation P (in_order before xs) xs (IsPermutation-sym xs (in_order before xs) moved) (none.0 e),
      λ all. none.1 (All-permutation P xs (in_order before xs) moved all),
    )

-- ---- what is found is of its premise

-- the premise that a verdict is of, in their order
abbrev pub premise_of : Verdict → ℕ
premise_of Kept = 0
premise_of (OutsideContract packet) = 1
premise_of (SourceOver flow column packet) = 2
premise_of (DelayOver packet hop) = 3
premise_of (Late site place late) = 4

-- what holds of a verdict, if there is one
abbrev pub Gives : (Verdict → Type 0) → Option Verdict → Type 0
Gives P o = (v : Verdict) → o ≡ Some v → P v

abbrev pub IsOf : ℕ → Option Verdict → Type 0
IsOf premise = Gives (λ v. premise_of v ≡ premise)

pub first_of-gives : (P : Verdict → Type 0) (a b : Option Verdict) → Gives P a → Gives P b → Gives P (first_of a b)
first_of-gives P None b here behind = behind
first_of-gives P (Some x) b here behind = here

pub first_found-gives : {A : Type 0} (P : Verdict → Type 0) (find : A → Option Verdict) (xs : List A) → ((x : A) → Gives P (find x)) → Gives P (first_found find xs)
unfolding first_found
first_found-gives P find [] each v e = absurd cc
first_found-gives P find (x ∷ xs) each v e = first_of-gives P (find x) (first_found find xs) (each x) (first_found-gives P find xs each) v e

pub and_then-gives : {A : Type 0} (P : Verdict → Type 0) (f : A → Option Verdict) (o : Option A) → ((x : A) → Gives P (f x)) → Gives P (option_and_then f o)
and_then-gives P f None each v e = absurd cc
and_then-gives P f (Some x) each v e = each x v e

pub map-gives : {A : Type 0} (P : Verdict → Type 0) (f : A → Verdict) (o : Option A) → ((x : A) → P (f x)) → Gives P (option_map f o)
map-gives P f None each v e = absurd cc
map-gives P f (Some x) each v e = subst P (same_Some (f x) v e) (each x)

pub unless-gives : (P : Verdict → Type 0) (b : Bool) (w : Verdict) → P w → Gives P (if b then None else Some w)
unless-gives P true w holds v e = absurd cc
unless-gives P false w holds v e = subst P (same_Some w v e) holds

-- of two parts one gives a verdict of a premise, where the other gives none
pub first_gave : (premise : ℕ) (a b : Option Verdict) (v : Verdict) → Gives (λ w. ¬ (premise_of w ≡ premise)) b → premise_of v ≡ premise → first_of a b ≡ Some v → a ≡ Some v
first_gave premise None b v other own e = absurd (other v e own)
first_gave premise (Some x) b v other own e = e

pub rest_gave : (premise : ℕ) (a b : Option Verdict) (v : Verdict) → Gives (λ w. ¬ (premise_of w ≡ premise)) a → premise_of v ≡ premise → first_of a b ≡ Some v → b ≡ Some v
rest_gave premise None b v other own e = e
rest_gave premise (Some x) b v other own e = absurd (other v e own)

pub of_another : (premise other : ℕ) (o : Option Verdict) → ¬ (other ≡ premise) → IsOf other o → Gives (λ w. ¬ (premise_of w ≡ premise)) o
of_another premise other o apart is_of v e same = apart (sym (is_of v e) ∙ same)

-- the verdict is that a run is kept where nothing is found, and else what is found
pub kept_is_none : (o : Option Verdict) → Gives (λ w. ¬ (premise_of w ≡ 0)) o → (unwrap_or o Kept ≡ Kept) ↔ (o ≡ None)
kept_is_none None other = (λ e. refl, λ e. refl)
kept_is_none (Some v) other = (λ e. absurd (other v refl (ap premise_of e)), λ e. absurd cc)

pub verdict_found : (o : Option Verdict) (v : Verdict) → ¬ (premise_of v ≡ 0) → unwrap_or o Kept ≡ v → o ≡ Some v
verdict_found None v other e = absurd (other (ap premise_of (sym e)))
verdict_found (Some w) v other e = ap Some e
