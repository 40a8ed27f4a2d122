-- The contract of a flow of a table whose contracts have flows of their own.
use Rattle.std.proofs.Common.{◌≡◌, ◌<◌, ◌≤◌, ℕ, zero, suc, Bool, true, false, List, [], ◌∷◌, length, get_or, Option, None, Some, Result, Ok, Err, refl, sym, ap, ◌∙◌, arith, nat_eq, nat_lt, option_map, slice_get, if◌then◌else◌, IfNone, IfSome, filter, find, zip, nat_cmp}
use Rattle.std.specs.List.Sorted.{IsBinarySearchResult, IsStrictlyIncreasing}
use Rattle.std.specs.Result.{result_ok}
use Rattle.std.proofs.lemmas.Bool.Decides.{nat_tests}
use Rattle.std.proofs.lemmas.List.Kept.{AllPairs-from_increasing}
use Rattle.std.proofs.lemmas.List.Sorted.{searched}
use Rattle.ds_domain_base.specs.declared.contract.Contract.{Contract}
use Rattle.ds_checker.specs.Acceptance.{Table}
use Rattle.meter_fabric_base.specs.Grounds.{contract_of, most_flows}
use Rattle.meter_fabric_base.specs.Numbered.{IsPlaceOf, numbered_ground}

-- no contract of a flow that packets can be of is left out
find_kept : (pairs : List (ℕ × Contract)) (flow : ℕ)
    → find (λ entry. nat_eq entry.0 flow) (filter (λ entry. nat_lt entry.0 most_flows) pairs)
    ≡ (if nat_lt flow most_flows then find (λ entry. nat_eq entry.0 flow) pairs else None)
find_kept [] flow = by_test (nat_lt flow most_flows)
  where
    by_test : (b : Bool) → None ≡ (if b then find {X = ℕ × Contract} (λ entry. nat_eq entry.0 flow) [] else None)
    by_test true = refl
    by_test false = refl
find_kept (entry ∷ pairs) flow = by_tests (nat_eq entry.0 flow) refl (nat_lt entry.0 most_flows) refl (find_kept pairs flow)
  where
    by_tests : (same : Bool) → nat_eq entry.0 flow ≡ same → (low : Bool) → nat_lt entry.0 most_flows ≡ low
        → find (λ e. nat_eq e.0 flow) (filter (λ e. nat_lt e.0 most_flows) pairs)
        ≡ (if nat_lt flow most_flows then find (λ e. nat_eq e.0 flow) pairs else None)
        → find (λ e. nat_eq e.0 flow) (filter (λ e. nat_lt e.0 most_flows) (entry ∷ pairs))
        ≡ (if nat_lt flow most_flows then find (λ e. nat_eq e.0 flow) (entry ∷ pairs) else None)
    by_tests false other true low rest = rw low (rw other rest)
    by_tests false other false high rest = rw high (rw other rest)
    by_tests true same true low rest =
        let also : nat_lt flow most_flows ≡ true = grind (arith, nat_tests, same, low) in
        rw low (rw same (rw also refl))
    by_tests true same false high rest =
        let also : nat_lt flow most_flows ≡ false = grind (arith, nat_tests, same, high) in
        rw high (rw also (rw also at rest))

found_numbered : (t : Table) (flows : List ℕ) (flow : ℕ) (low : Bool) → nat_lt flow most_flows ≡ low
    → contract_of (numbered_ground t flows) flow
    ≡ option_map (λ entry. entry.1) (if low then find (λ entry. nat_eq entry.0 flow) (zip flows t.contracts) else None)
found_numbered t flows flow low is =
    let kept = find_kept (zip flows t.contracts) flow in
    ap (λ (found : Option (ℕ × Contract)). option_map (λ entry. entry.1) found) (rw is at kept)

-- the contract of a flow of a table that has flows of its own: the first behind that flow, and none past those that
-- packets can be of
pub numbered_low : (t : Table) (flows : List ℕ) (flow : ℕ) → flow < most_flows → contract_of (numbered_ground t flows) flow
    ≡ option_map (λ entry. entry.1) (find (λ entry. nat_eq entry.0 flow) (zip flows t.contracts))
numbered_low t flows flow low = found_numbered t flows flow true (grind (arith, nat_tests, low))

pub numbered_past : (t : Table) (flows : List ℕ) (flow : ℕ) → most_flows ≤ flow → None ≡ contract_of (numbered_ground t flows) flow
numbered_past t flows flow past = sym (found_numbered t flows flow false (grind (arith, nat_tests, past)))

-- ---- flows that rise

-- flows that rise do so from any place to any behind it
apart : (flows : List ℕ) → IsStrictlyIncreasing flows → (i j : ℕ) → i < j → j < length flows → get_or flows i 0 < get_or flows j 0
apart flows rising i j = AllPairs-from_increasing flows rising i j 0

sorted : (flows : List ℕ) → IsStrictlyIncreasing flows → (i j : ℕ) → i ≤ j → j < length flows → get_or flows i 0 ≤ get_or flows j 0
sorted flows rising i j lower within = by_test (nat_lt i j) refl
  where
    by_test : (b : Bool) → nat_lt i j ≡ b → get_or flows i 0 ≤ get_or flows j 0
    by_test true before =
        let below : i < j = grind (arith, nat_tests, before) in
        omega (arith, apart flows rising i j below within)
    by_test false at =
        let same : i ≡ j = grind (arith, nat_tests, at, lower) in
        omega (arith, ap (λ k. get_or flows k 0) same)

-- the first of a flow is the one at a place, where those before it have lower flows
found_beside : (flows : List ℕ) (contracts : List Contract) (flow place : ℕ) (c : Contract) → ((k : ℕ) → k < place → get_or flows k 0 < flow)
    → place < length flows → get_or flows place 0 ≡ flow → slice_get contracts place ≡ Some c
    → option_map (λ entry. entry.1) (find (λ entry. nat_eq entry.0 flow) (zip flows contracts)) ≡ Some c
found_beside [] contracts flow place c before within here is = absurd (omega (arith, within))
found_beside (own ∷ flows) [] flow place c before within here is = cc
found_beside (own ∷ flows) (x ∷ contracts) flow zero c before within here is =
    let same : nat_eq own flow ≡ true = grind (arith, nat_tests, here) in
    rw same is
found_beside (own ∷ flows) (x ∷ contracts) flow (suc place) c before within here is =
    let lower : own < flow = before 0 (omega arith) in
    let other : nat_eq own flow ≡ false = grind (arith, nat_tests, lower) in
    rw other (found_beside flows contracts flow place c (λ k early. before (suc k) (omega (arith, early))) (omega (arith, within)) here is)

-- where a flow stands nowhere, there is no contract of it
missing_beside : (flows : List ℕ) (contracts : List Contract) (flow : ℕ) → ((k : ℕ) → k < length flows → get_or flows k 0 ≡ flow → ⊥)
    → option_map (λ entry. entry.1) (find (λ entry. nat_eq entry.0 flow) (zip flows contracts)) ≡ None
missing_beside [] contracts flow none = refl
missing_beside (own ∷ flows) [] flow none = refl
missing_beside (own ∷ flows) (x ∷ contracts) flow none =
    by_test (nat_eq own flow) refl (missing_beside flows contracts flow (λ k within here. none (suc k) (omega (arith, within)) here))
  where
    by_test : (same : Bool) → nat_eq own flow ≡ same → option_map (λ entry. entry.1) (find (λ entry. nat_eq entry.0 flow) (zip flows contracts)) ≡ None
        → option_map (λ entry. entry.1) (find (λ entry. nat_eq entry.0 flow) (zip (own ∷ flows) (x ∷ contracts))) ≡ None
    by_test true same behind = absurd (none 0 (omega arith) (grind (arith, nat_tests, same)))
    by_test false other behind = rw other behind

-- the contract of a flow is the one at its place
pub contract_placed : (t : Table) (flows : List ℕ) (flow place : ℕ) (c : Contract) → IsStrictlyIncreasing flows → IsPlaceOf flow flows place
    → slice_get t.contracts place ≡ Some c → contract_of (numbered_ground t flows) flow ≡ Some c
contract_placed t flows flow place c rising at is =
    let before : (k : ℕ) → k < place → get_or flows k 0 < flow = λ k early. omega (arith, apart flows rising k place early at.within, at.here) in
    numbered_low t flows flow at.low ∙ found_beside flows t.contracts flow place c before at.within at.here is

-- what a search by halves finds is the place of a flow
pub sought_found : (flows : List ℕ) (flow : ℕ) (r : Result ℕ ℕ) (found : Option ℕ) → IsStrictlyIncreasing flows → flow < most_flows
    → IsBinarySearchResult (λ y. nat_cmp y flow) flows r → found ≡ result_ok r → IfSome found (IsPlaceOf flow flows)
sought_found flows flow (Ok place) found rising low is ok =
    let at = searched flows flow (Ok place) is (sorted flows rising) in
    let there : IsPlaceOf flow flows place = record { low = low; within = at.0; here = at.1 } in
    rw ok there
sought_found flows flow (Err place) found rising low is ok = rw ok tt

-- and where it finds none, there is no contract of the flow
pub sought_missing : (t : Table) (flows : List ℕ) (flow : ℕ) (r : Result ℕ ℕ) (found : Option ℕ) → IsStrictlyIncreasing flows → flow < most_flows
    → IsBinarySearchResult (λ y. nat_cmp y flow) flows r → found ≡ result_ok r → IfNone found (contract_of (numbered_ground t flows) flow ≡ None)
sought_missing t flows flow (Ok place) found rising low is ok = rw ok tt
sought_missing t flows flow (Err place) found rising low is ok =
    let at = searched flows flow (Err place) is (sorted flows rising) in
    let nowhere : (k : ℕ) → k < length flows → get_or flows k 0 ≡ flow → ⊥ = λ k within here. beside k (nat_lt k place) refl at.1 at.2 within here in
    rw ok (numbered_low t flows flow low ∙ missing_beside flows t.contracts flow nowhere)
  where
    beside : (k : ℕ) (b : Bool) → nat_lt k place ≡ b → ((k : ℕ) → k < place → get_or flows k 0 < flow)
        → ((k : ℕ) → place ≤ k → k < length flows → flow < get_or flows k 0) → k < length flows → get_or flows k 0 ≡ flow → ⊥
    beside k true lower below above within here =
        let early : k < place = grind (arith, nat_tests, lower) in
        omega (arith, below k early, here)
    beside k false higher below above within here =
        let late : place ≤ k = grind (arith, nat_tests, higher) in
        omega (arith, above k late within, here)
