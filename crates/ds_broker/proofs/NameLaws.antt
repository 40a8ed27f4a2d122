-- The names of what is held: which they are with a contract more or fewer, and that they differ.
use Rattle.std.proofs.Common.{arith, ◌≡◌, ℕ, zero, suc, Bool, true, false, length, nat_lt, None, List, [], ◌∷◌, ◌++◌, Some, refl, sym, ap, ◌∙◌, inl, inr, ◌||◌, cond, nat_eq, slice_get, bytes_eq}
use Rattle.std.specs.List.{AllByRecursion, IsDistinct, list_any, position, position_or_len}
use Rattle.std.proofs.lemmas.Bool.Decides.{nat_tests}
use Rattle.std.proofs.Math.Bool.{or-false, or-true}
use Rattle.std.proofs.lemmas.Bool.{cases_Bool, or_parts}
use Rattle.std.proofs.lemmas.List.Folds.{list_any-append}
use Rattle.std.proofs.lemmas.Slice.Eq.{bytes_eq-Decides}
use Rattle.ds_checker.proofs.LoadLaws.{bytes_eq-flip}
use Rattle.ds_broker.specs.Books.{contracts_in, is_held}
use Rattle.ds_broker.specs.Found.{IsFirst}
use Rattle.ds_broker.specs.Histories.{Holding, with_released, with_retired}
use Rattle.ds_broker.specs.Kept.{names_in}
use Rattle.ds_broker.proofs.HoldingLaws.{map-released}

-- a name among names is held
pub any-names : (name : List ℕ) (held : List Holding) → list_any (bytes_eq name) (names_in held) ≡ is_held name held
any-names name [] = refl
any-names name (h ∷ held) = rw (any-names name held) refl

bytes_eq-same : (a b : List ℕ) → bytes_eq a b ≡ true → a ≡ b
bytes_eq-same a b is = (bytes_eq-Decides a b).0 is

pub held-push : (name : List ℕ) (held : List Holding) (h : Holding) → is_held name (held ++ h ∷ []) ≡ cond (bytes_eq h.contract.name name) true (is_held name held)
held-push name held h = elim (cases_Bool (bytes_eq h.contract.name name)) [
  | inl same ↦ rw (list_any-append (λ g. bytes_eq name g.contract.name) held (h ∷ []), bytes_eq-flip name h.contract.name, same) (or-true (is_held name held))
  | inr other ↦ rw (list_any-append (λ g. bytes_eq name g.contract.name) held (h ∷ []), bytes_eq-flip name h.contract.name, other) (or-false (is_held name held))
]

apart-unheld : (name : List ℕ) (held : List Holding) → AllByRecursion (λ other. bytes_eq name other ≡ false) (names_in held) → is_held name held ≡ false
apart-unheld name [] all = refl
apart-unheld name (h ∷ held) all = rw all.0 (apart-unheld name held all.1)

pub held-retired : (name : List ℕ) (id : ℕ) (held : List Holding) (place : ℕ) (h : Holding) → IsDistinct bytes_eq (names_in held) → IsFirst id held place
    → slice_get held place ≡ Some h → is_held name (with_retired id held) ≡ cond (bytes_eq h.contract.name name) false (is_held name held)
unfolding IsFirst with_retired IsDistinct
held-retired name id [] place h apart first at = absurd first
held-retired name id (g ∷ held) zero h apart first at =
    let same : g ≡ h = cc in
    rw first (rw (← same) (elim (cases_Bool (bytes_eq g.contract.name name)) [
      | inl own ↦ rw own (ap (λ n. is_held n held) (sym (bytes_eq-same g.contract.name name own)) ∙ apart-unheld g.contract.name held apart.0)
      | inr other ↦ rw (other, bytes_eq-flip name g.contract.name, other) refl
    ]))
held-retired name id (g ∷ held) (suc place) h apart first at =
    rw (first.0, held-retired name id held place h apart.1 first.1 at) (elim (cases_Bool (bytes_eq h.contract.name name)) [
      | inl own ↦ rw own (later g held place h name apart.0 at own)
      | inr other ↦ rw other refl
    ])
  where
    later : (g : Holding) (held : List Holding) (place : ℕ) (h : Holding) (name : List ℕ) → AllByRecursion (λ other. bytes_eq g.contract.name other ≡ false) (names_in held)
        → slice_get held place ≡ Some h → bytes_eq h.contract.name name ≡ true → (bytes_eq name g.contract.name || false) ≡ false
    later g [] place h name all at own = cc
    later g (x ∷ held) zero h name all at own =
        let same : x ≡ h = cc in
        let is : bytes_eq g.contract.name name ≡ false = ap (bytes_eq g.contract.name) (sym (bytes_eq-same h.contract.name name own)) ∙ ap (λ y. bytes_eq g.contract.name y.contract.name) (sym same) ∙ all.0 in
        rw (bytes_eq-flip name g.contract.name, is) refl
    later g (x ∷ held) (suc place) h name all at own = later g held place h name all.1 at own

pub apart-retired : (id : ℕ) (held : List Holding) → IsDistinct bytes_eq (names_in held) → IsDistinct bytes_eq (names_in (with_retired id held))
unfolding with_retired IsDistinct
apart-retired id [] apart = tt
apart-retired id (h ∷ held) apart = elim (cases_Bool (nat_eq id h.id)) [
  | inl same ↦ rw same apart.1
  | inr other ↦ rw other (still h.contract.name held apart.0, apart-retired id held apart.1)
]
  where
    still : (name : List ℕ) (held : List Holding) → AllByRecursion (λ other. bytes_eq name other ≡ false) (names_in held)
        → AllByRecursion (λ other. bytes_eq name other ≡ false) (names_in (with_retired id held))
    still name [] all = tt
    still name (g ∷ held) all = elim (cases_Bool (nat_eq id g.id)) [
      | inl same ↦ rw same all.1
      | inr other ↦ rw other (all.0, still name held all.1)
    ]

pub held-released : (name : List ℕ) (id moment : ℕ) (held : List Holding) → is_held name (with_released id moment held) ≡ is_held name held
held-released name id moment held =
    sym (any-names name (with_released id moment held)) ∙ ap (list_any (bytes_eq name)) (map-released (λ h. h.contract.name) id moment held (λ h. refl)) ∙ any-names name held

-- a name that is not held is that of no contract
none_first : (name : List ℕ) (held : List Holding) → is_held name held ≡ false → position_or_len (λ c. bytes_eq name c.name) (contracts_in held) ≡ length (contracts_in held)
none_first name [] none = refl
none_first name (h ∷ held) none =
    let parts = or_parts (bytes_eq name h.contract.name) (is_held name held) none in
    let behind = none_first name held parts.1 in
    rw parts.0 (omega (arith, behind))

past_all : (n : ℕ) (x : Bool) → nat_lt n n ≡ x → cond x (Some n) None ≡ None
past_all n true is = absurd (grind (arith, is, nat_tests))
past_all n false is = refl

pub unheld-nowhere : (name : List ℕ) (held : List Holding) → is_held name held ≡ false → position (λ c. bytes_eq name c.name) (contracts_in held) ≡ None
unheld-nowhere name held none =
    rw (none_first name held none) (past_all (length (contracts_in held)) (nat_lt (length (contracts_in held)) (length (contracts_in held))) refl)
