-- What the fields of a book keep, and what a command makes of them.
use Rattle.std.proofs.Common.{◌≡◌, ◌≤◌, ◌<◌, ℕ, Bool, List, None, Some, Result, Ok, Err, refl, sym, ap, subst, ◌∙◌, arith, inl, inr, length, map, nat_lt, slice_get, slice_index_or, MatchResult, get_or, nat_cmp, bytes_eq}
use Rattle.std.specs.List.{list_any}
use Rattle.std.specs.List.Sorted.{IsBinarySearchResult}
use Rattle.std.specs.Result.{result_ok}
use Rattle.std.proofs.lemmas.Bool.{cases_Bool}
use Rattle.std.proofs.lemmas.List.Sorted.{searched}
use Rattle.ds_domain_base.specs.declared.contract.Contract.{Contract}
use Rattle.std.proofs.lemmas.List.{length-map}
use Rattle.std.proofs.lemmas.Option.{slice_get-map}
use Rattle.ds_certificate.specs.Bounds.{least_of}
use Rattle.ds_checker.specs.Holds.{hold_at, hold_of}
use Rattle.ds_broker.specs.Books.{Book, contracts_in, held_of, holding_of, is_held, table_of}
use Rattle.ds_broker.specs.Entries.{entries_of, told_of}
use Rattle.ds_broker.specs.Found.{IsFound}
use Rattle.ds_broker.specs.Histories.{Holding}
use Rattle.ds_broker.specs.Kept.{IsBook, book_of, held_in, ids_in}
use Rattle.ds_broker.specs.declared.book.Book.TheInside as book
use Rattle.ds_broker.proofs.HoldingLaws.{first-holding, looked-at, told-held}
use Rattle.ds_broker.proofs.IdLaws.{first-rising, missing-apart, rising-sorted, standing-rising}

-- whether a name is held is whether it stands among the names
pub names-held : (i : book.Inside) (b : Book) → book_of i ≡ b → IsBook i → (name : List ℕ) → list_any (bytes_eq name) i.names.keys ≡ is_held name (held_of b)
names-held i b view kept name = kept.names name ∙ ap (λ x. is_held name (held_of x)) view

-- a search among its ids: the place of one, or where it would stand
abbrev HasSought : ℕ → List ℕ → Result ℕ ℕ → Type 0
HasSought id ids r =
    MatchResult r (λ place. (place < length ids) × (get_or ids place 0 ≡ id))
    (λ place. (place ≤ length ids) × ((k : ℕ) → k < place → get_or ids k 0 < id) × ((k : ℕ) → place ≤ k → k < length ids → id < get_or ids k 0))

searched-ids : (i : book.Inside) → IsBook i → (id : ℕ) (r : Result ℕ ℕ) → IsBinarySearchResult (λ y. nat_cmp y id) i.ids.items r → HasSought id (ids_in (held_in i)) r
searched-ids i kept id r is =
    searched (ids_in (held_in i)) id r (subst (λ ids. IsBinarySearchResult (λ y. nat_cmp y id) ids r) kept.ids is) (rising-sorted (held_in i) (standing-rising i.history.items))

sought-some : (id : ℕ) (ids : List ℕ) (r : Result ℕ ℕ) (place : ℕ) → HasSought id ids r → result_ok r ≡ Some place → (place < length ids) × (get_or ids place 0 ≡ id)
sought-some id ids (Ok p) place has ok = let same : p ≡ place = cc in subst (λ q. (q < length ids) × (get_or ids q 0 ≡ id)) same has
sought-some id ids (Err p) place has ok = cc

sought-none : (id : ℕ) (ids : List ℕ) (r : Result ℕ ℕ) → HasSought id ids r → result_ok r ≡ None → (k : ℕ) → k < length ids → get_or ids k 0 ≡ id → ⊥
sought-none id ids (Ok p) has none k within here = cc
sought-none id ids (Err p) has none k within here = elim (cases_Bool (nat_lt k p)) [
  | inl lower ↦ let below = has.1 k (grind (arith, lower)) in omega (arith, below, here)
  | inr above ↦ let over = has.2 k (grind (arith, above)) within in omega (arith, over, here)
]

-- what is held under an id
pub found-at : (i : book.Inside) (b : Book) → book_of i ≡ b → IsBook i → (id : ℕ) (r : Result ℕ ℕ) → IsBinarySearchResult (λ y. nat_cmp y id) i.ids.items r
    → (place : ℕ) (released : Bool) → result_ok r ≡ Some place → released ≡ slice_index_or i.released.items place released → IsFound id (held_of b) place released
found-at i b view kept id r answer place released ok flag =
    let held = held_in i in
    let here = sought-some id (ids_in held) r place (searched-ids i kept id r answer) ok in
    let first = first-rising id held place (standing-rising i.history.items) here.0 here.1 in
    let there = first-holding id held place first in
    let found : IsFound id held place released = record {
      holding = there.0;
      first = first;
      at = there.1;
      found = there.2;
      named = there.3;
      is_released = sym (looked-at (λ h. h.released) held place there.0 released there.1) ∙ ap (λ bs. slice_index_or bs place released) (sym kept.released) ∙ sym flag;
    } in
    subst (λ x. IsFound id (held_of x) place released) view found

pub missing-at : (i : book.Inside) (b : Book) → book_of i ≡ b → IsBook i → (id : ℕ) (r : Result ℕ ℕ) → IsBinarySearchResult (λ y. nat_cmp y id) i.ids.items r
    → result_ok r ≡ None → holding_of id (held_of b) ≡ None
missing-at i b view kept id r answer none =
    subst (λ x. holding_of id (held_of x) ≡ None) view
    (missing-apart id (held_in i) (sought-none id (ids_in (held_in i)) r (searched-ids i kept id r answer) none))

-- the contract at a place of the table is the one that is held there
pub contract-placed : (b : Book) (contracts : List Contract) → contracts ≡ (table_of b).contracts
    → (place : ℕ) (h : Holding) (other : Contract) → slice_get (held_of b) place ≡ Some h → slice_index_or contracts place other ≡ h.contract
contract-placed b contracts is place h other at = ap (λ cs. slice_index_or cs place other) is ∙ looked-at (λ g. g.contract) (held_of b) place h other at

-- and its hold is that of its least bounds
pub hold-placed : (b : Book) (place : ℕ) (h : Holding) → slice_get (held_of b) place ≡ Some h
    → hold_at (table_of b) place ≡ Some (hold_of b.domain h.contract (least_of b.domain h.contract))
hold-placed b place h at =
    rw (slice_get-map (least_of b.domain) (map (λ g. g.contract) (held_of b)) place, slice_get-map (λ g. g.contract) (held_of b) place, at) refl

-- what is told of its ids and of its contracts is what is told of it
pub told-listed : (i : book.Inside) (b : Book) → book_of i ≡ b → IsBook i → (contracts : List Contract) → contracts ≡ (table_of b).contracts
    → told_of i.ids.items contracts ≡ entries_of b
told-listed i b view kept contracts is =
    ap (λ cs. told_of i.ids.items cs) is ∙ ap (λ ids. told_of ids (contracts_in (held_of b))) (kept.ids ∙ ap (λ x. ids_in (held_of x)) view)
    ∙ told-held (held_of b)

pub ids-length : (i : book.Inside) (b : Book) → book_of i ≡ b → IsBook i → length i.ids.items ≡ length (held_of b)
ids-length i b view kept = ap length kept.ids ∙ length-map (held_in i) (λ h. h.id) ∙ ap (λ x. length (held_of x)) view

pub released-length : (i : book.Inside) (b : Book) → book_of i ≡ b → IsBook i → length i.released.items ≡ length (held_of b)
released-length i b view kept = ap length kept.released ∙ length-map (held_in i) (λ h. h.released) ∙ ap (λ x. length (held_of x)) view
