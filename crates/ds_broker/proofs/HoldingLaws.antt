-- What is held, as lists of ids and contracts: where the contract of an id stands in them, and what becomes of them.
use Rattle.std.proofs.Common.{◌≡◌, ◌⊎◌, ◌≤◌, ◌<◌, ℕ, zero, suc, true, List, [], ◌∷◌, Option, None, Some, refl, ap, arith, inl, inr, ◌++◌, sym, ◌∙◌, length, map, nat_eq, slice_get, slice_index_or, set}
use Rattle.std.specs.List.{AllByRecursion, remove}
use Rattle.std.proofs.lemmas.Bool.{cases_Bool}
use Rattle.ds_domain_base.specs.Domains.{Domain}
use Rattle.ds_domain_base.specs.Lifetimes.{IsInOrder}
use Rattle.ds_domain_base.specs.declared.contract.Contract.{Contract}
use Rattle.ds_certificate.specs.Bounds.{least, least_of}
use Rattle.ds_certificate.specs.Sources.{source_of}
use Rattle.ds_checker.specs.Changes.{lasting_at}
use Rattle.ds_broker.specs.Books.{contracts_in, holding_of}
use Rattle.ds_broker.specs.Entries.{entry_of, told_of}
use Rattle.ds_broker.specs.Found.{IsFirst}
use Rattle.ds_broker.specs.Histories.{Holding, end_by, ended, with_released, with_retired}
use Rattle.ds_broker.specs.Kept.{ids_in, released_in}
use Rattle.std.proofs.lemmas.List.{length-map}
use Rattle.ds_checker.proofs.LoadLaws.{neither}

-- what holds of a list, and of one more
pub AllByRecursion-push : {A : Type 0} (P : A → Type 0) (xs : List A) (x : A) → AllByRecursion P xs → P x → AllByRecursion P (xs ++ x ∷ [])
AllByRecursion-push P [] x all one = (one, tt)
AllByRecursion-push P (y ∷ xs) x all one = (all.0, AllByRecursion-push P xs x all.1 one)

pub first-below : (id : ℕ) (held : List Holding) (place : ℕ) → IsFirst id held place → place < length held
unfolding IsFirst
first-below id [] place first = absurd first
first-below id (h ∷ held) zero first = omega arith
first-below id (h ∷ held) (suc place) first = omega (arith, first-below id held place first.1)

-- what stands there is what is held under the id
pub first-holding : (id : ℕ) (held : List Holding) (place : ℕ) → IsFirst id held place
    → (h : Holding) × (slice_get held place ≡ Some h) × (holding_of id held ≡ Some h) × (h.id ≡ id)
unfolding IsFirst
first-holding id [] place first = absurd first
first-holding id (h ∷ held) zero first = (h, refl, rw first refl, grind (arith, first))
first-holding id (h ∷ held) (suc place) first =
    let rest = first-holding id held place first.1 in
    (rest.0, rest.1, rw first.0 rest.2, rest.3)

-- Released: the contract ends, and it is marked.
pub contracts-released : (id moment : ℕ) (held : List Holding) (place : ℕ) (h : Holding) → IsFirst id held place → slice_get held place ≡ Some h
    → contracts_in (with_released id moment held) ≡ lasting_at place (ended moment h.contract).lifetime (contracts_in held)
unfolding IsFirst with_released lasting_at
contracts-released id moment [] place h first at = absurd first
contracts-released id moment (g ∷ held) zero h first at = let same : g ≡ h = cc in rw (first, same) refl
contracts-released id moment (g ∷ held) (suc place) h first at = rw first.0 (ap (λ rest. g.contract ∷ rest) (contracts-released id moment held place h first.1 at))

least_of-ended : (d : Domain) (moment : ℕ) (c : Contract) → least_of d (ended moment c) ≡ least_of d c
unfolding source_of
least_of-ended d moment c = refl

pub least-released : (d : Domain) (id moment : ℕ) (held : List Holding) → least d (contracts_in (with_released id moment held)) ≡ least d (contracts_in held)
unfolding with_released
least-released d id moment [] = refl
least-released d id moment (h ∷ held) = elim (cases_Bool (nat_eq id h.id)) [
  | inl same ↦ rw same (ap (λ bounds. bounds ∷ least d (contracts_in held)) (least_of-ended d moment h.contract))
  | inr other ↦ rw other (ap (λ rest. least_of d h.contract ∷ rest) (least-released d id moment held))
]

pub released-set : (id moment : ℕ) (held : List Holding) (place : ℕ) → IsFirst id held place
    → released_in (with_released id moment held) ≡ set (released_in held) place true
unfolding IsFirst with_released
released-set id moment [] place first = absurd first
released-set id moment (h ∷ held) zero first = rw first refl
released-set id moment (h ∷ held) (suc place) first = rw first.0 (ap (λ rest. h.released ∷ rest) (released-set id moment held place first.1))

pub map-released : {A : Type 0} (f : Holding → A) (id moment : ℕ) (held : List Holding) → ((h : Holding) → f (record { id = h.id; contract = ended moment h.contract; released = true }) ≡ f h)
    → map f (with_released id moment held) ≡ map f held
unfolding with_released
map-released f id moment [] same = refl
map-released f id moment (h ∷ held) same = elim (cases_Bool (nat_eq id h.id)) [
  | inl is ↦ rw is (ap (λ x. x ∷ map f held) (same h))
  | inr other ↦ rw other (ap (λ rest. f h ∷ rest) (map-released f id moment held same))
]

pub all-released : (P : Holding → Type 0) (id moment : ℕ) (held : List Holding) → ((h : Holding) → P h → P (record { id = h.id; contract = ended moment h.contract; released = true }))
    → AllByRecursion P held → AllByRecursion P (with_released id moment held)
unfolding with_released
all-released P id moment [] still all = tt
all-released P id moment (h ∷ held) still all = elim (cases_Bool (nat_eq id h.id)) [
  | inl same ↦ rw same (still h all.0, all.1)
  | inr other ↦ rw other (all.0, all-released P id moment held still all.1)
]

pub length-released : (id moment : ℕ) (held : List Holding) → length (with_released id moment held) ≡ length held
length-released id moment held =
    sym (length-map (with_released id moment held) (λ h. h.id)) ∙ ap length (map-released (λ h. h.id) id moment held (λ h. refl)) ∙ length-map held (λ h. h.id)

-- Retired: it is taken out, whatever is looked at.
pub map-retired : {A : Type 0} (f : Holding → A) (id : ℕ) (held : List Holding) (place : ℕ) → IsFirst id held place
    → map f (with_retired id held) ≡ remove (map f held) place
unfolding IsFirst with_retired
map-retired f id [] place first = absurd first
map-retired f id (h ∷ held) zero first = rw first refl
map-retired f id (h ∷ held) (suc place) first = rw first.0 (ap (λ rest. f h ∷ rest) (map-retired f id held place first.1))

pub all-retired : (P : Holding → Type 0) (id : ℕ) (held : List Holding) → AllByRecursion P held → AllByRecursion P (with_retired id held)
unfolding with_retired
all-retired P id [] all = tt
all-retired P id (h ∷ held) all = elim (cases_Bool (nat_eq id h.id)) [
  | inl same ↦ rw same all.1
  | inr other ↦ rw other (all.0, all-retired P id held all.1)
]

pub length-retired : (id : ℕ) (held : List Holding) → length (with_retired id held) ≤ length held
unfolding with_retired
length-retired id [] = omega arith
length-retired id (h ∷ held) = elim (cases_Bool (nat_eq id h.id)) [
  | inl same ↦ rw same (omega arith)
  | inr other ↦ rw other (omega (arith, length-retired id held))
]

-- what is held at a place
pub holding-at : (held : List Holding) (place : ℕ) → place < length held → (h : Holding) × (slice_get held place ≡ Some h)
holding-at [] place within = let none : ⊥ = omega arith in absurd none
holding-at (h ∷ held) zero within = (h, refl)
holding-at (h ∷ held) (suc place) within = holding-at held place (omega arith)

-- and what of it is looked at
pub looked-at : {A : Type 0} (f : Holding → A) (held : List Holding) (place : ℕ) (h : Holding) (other : A) → slice_get held place ≡ Some h
    → slice_index_or (map f held) place other ≡ f h
looked-at f [] place h other at = cc
looked-at f (g ∷ held) zero h other at = let same : g ≡ h = cc in ap f same
looked-at f (g ∷ held) (suc place) h other at = looked-at f held place h other at

pub in_order-ended : (since moment : ℕ) (until : Option ℕ) → IsInOrder since until → since ≤ moment → since ≤ end_by moment until
in_order-ended since moment None order early = early
in_order-ended since moment (Some end) order early = omega (arith, order end refl, early)

pub in_order-some : (since end : ℕ) → since ≤ end → IsInOrder since (Some end)
in_order-some since end early last is = let same : end ≡ last = cc in omega (arith, same, early)

-- what is told of the ids and the contracts that are held is what is told of each
pub told-held : (held : List Holding) → told_of (ids_in held) (contracts_in held) ≡ map entry_of held
unfolding told_of
told-held [] = refl
told-held (h ∷ held) = ap (λ rest. entry_of h ∷ rest) (told-held held)

pub told-next : (ids more : List ℕ) (id : ℕ) (contracts others : List Contract) (c : Contract)
    → ids ≡ id ∷ more → contracts ≡ c ∷ others
    → told_of ids contracts ≡ record { id = id; name = c.name; since = c.lifetime.since; until = c.lifetime.until } ∷ told_of more others
unfolding told_of
told-next ids more id contracts others c is_ids is_contracts = rw is_ids (rw is_contracts refl)

pub told-ended : (ids : List ℕ) (contracts : List Contract) → (ids ≡ []) ⊎ (contracts ≡ []) → told_of ids contracts ≡ []
unfolding told_of
told-ended [] contracts ended = refl
told-ended (id ∷ ids) [] ended = refl
told-ended (id ∷ ids) (c ∷ contracts) ended = neither ended
