-- The greatest hold.
use Rattle.std.proofs.Common.{arith, ◌≡◌, ℕ, ◌+◌, ◌≤◌, true, false, nat_eq, ◌⊎◌, inl, inr, List, [], ◌∷◌, ◌++◌, length, max, refl, sym, ap, ◌∙◌}
use Rattle.std.specs.List.{AllByRecursion, list_any}
use Rattle.std.proofs.Math.Nat.{max-zero, le-max_left, le-max_right}
use Rattle.ds_domain_base.specs.Domains.{Domain, meter_of}
use Rattle.ds_domain_base.specs.declared.contract.Contract.{Contract}
use Rattle.ds_certificate.specs.Columns.{Bound}
use Rattle.ds_certificate.specs.Sources.{source_of}
use Rattle.ds_certificate.specs.declared.source.Source.{Source}
use Rattle.ds_domain_base.specs.Routes.{meter_skew}
use Rattle.ds_checker.specs.Holds.{greatest, hold_of, holds_along, holds_at_hop, link_delay}
use Rattle.std.proofs.lemmas.Bool.{eq-eqb, or_left, or_right}

pub greatest-three : (a b c x y z inner outer : ℕ) → x ≡ a → y ≡ b → z ≡ c → inner ≡ max y z → outer ≡ max x inner → outer ≡ greatest (a ∷ b ∷ c ∷ [])
unfolding greatest
greatest-three a b c x y z inner outer is_x is_y is_z is_inner is_outer =
    is_outer ∙ ap (max x) (is_inner ∙ ap (max y) (sym (max-zero z))) ∙ ap (λ n. max n (max y (max z 0))) is_x ∙ ap (λ n. max a (max n (max z 0))) is_y ∙ ap (λ n. max a (max b (max n 0))) is_z

max-assoc : (a b c : ℕ) → max (max a b) c ≡ max a (max b c)
max-assoc a b c = grind arith

pub greatest-append : (a b : List ℕ) → greatest (a ++ b) ≡ max (greatest a) (greatest b)
unfolding greatest
greatest-append [] b = grind arith
greatest-append (n ∷ a) b = ap (max n) (greatest-append a b) ∙ sym (max-assoc n (greatest a) (greatest b))

pub along-next : (d : Domain) (s : Source) (way : ℕ) (from to : List ℕ) (path : List (List ℕ)) (b : Bound) (bounds : List Bound)
    → greatest (holds_along d s way from (to ∷ path) (b ∷ bounds))
    ≡ max (greatest (holds_at_hop s (way + link_delay d from to) (meter_skew (meter_of d to)) b)) (greatest (holds_along d s (way + link_delay d from to) to path bounds))
unfolding holds_along
along-next d s way from to path b bounds =
    greatest-append (holds_at_hop s (way + link_delay d from to) (meter_skew (meter_of d to)) b) (holds_along d s (way + link_delay d from to) to path bounds)

pub swap_max : (a b c : ℕ) → max (max a b) c ≡ max b (max a c)
swap_max a b c = grind arith

along-none : (d : Domain) (s : Source) (way : ℕ) (from : List ℕ) (path : List (List ℕ)) → 0 ≡ greatest (holds_along d s way from path [])
unfolding holds_along greatest
along-none d s way from [] = refl
along-none d s way from (to ∷ path) = refl

pub hold_none : (d : Domain) (c : Contract) (bounds : List Bound) → length bounds ≡ 0 → 0 ≡ hold_of d c bounds
hold_none d c [] none = along-none d (source_of d c) 0 c.port c.path
hold_none d c (b ∷ bounds) none = absurd (omega (arith, none))

-- the greatest of some numbers is no less than each of them, and one of them
below_all : (most : ℕ) (numbers : List ℕ) → greatest numbers ≤ most → AllByRecursion (λ n. n ≤ most) numbers
unfolding greatest
below_all most [] below = tt
below_all most (n ∷ numbers) below =
    (omega (arith, below, le-max_left n (greatest numbers)), below_all most numbers (omega (arith, below, le-max_right n (greatest numbers))))

pub no_less : (numbers : List ℕ) → AllByRecursion (λ n. n ≤ greatest numbers) numbers
no_less numbers = below_all (greatest numbers) numbers (omega arith)

is_either : (a b : ℕ) → (max a b ≡ a) ⊎ (max a b ≡ b)
is_either a b = grind arith

pub one_of : (n : ℕ) (numbers : List ℕ) → list_any (nat_eq (greatest (n ∷ numbers))) (n ∷ numbers) ≡ true
unfolding greatest
one_of n [] = or_left (nat_eq (max n 0) n) false (eq-eqb (max n 0) n (max-zero n))
one_of n (m ∷ numbers) = elim (is_either n (greatest (m ∷ numbers))) [
  | inl first ↦ or_left (nat_eq (max n (greatest (m ∷ numbers))) n) (list_any (nat_eq (max n (greatest (m ∷ numbers)))) (m ∷ numbers))
      (eq-eqb (max n (greatest (m ∷ numbers))) n first)
  | inr later ↦ or_right (nat_eq (max n (greatest (m ∷ numbers))) n) (list_any (nat_eq (max n (greatest (m ∷ numbers)))) (m ∷ numbers))
      (ap (λ g. list_any (nat_eq g) (m ∷ numbers)) later ∙ one_of m numbers)
]

pub none_or_one : (numbers : List ℕ) → (numbers ≡ []) ⊎ (list_any (nat_eq (greatest numbers)) numbers ≡ true)
none_or_one [] = inl refl
none_or_one (n ∷ numbers) = inr (one_of n numbers)
