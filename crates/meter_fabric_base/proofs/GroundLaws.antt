-- The contract of a flow of a table is the one at its place.
use Rattle.std.proofs.Common.{◌≡◌, ◌+◌, ◌-◌, ◌<◌, ◌≤◌, ℕ, zero, suc, Bool, true, false, List, [], ◌∷◌, length, min, take, Option, None, Some, refl, sym, ap, ◌∙◌, arith, nat_eq, nat_lt, ◌↔◌, is_some, IsSome, option_and_then, option_map, slice_get, if◌then◌else◌, length-take, take_all}
use Rattle.std.specs.List.{enumerate_from, find}
use Rattle.std.proofs.lemmas.Bool.{false≢true}
use Rattle.std.proofs.lemmas.Bool.Decides.{nat_tests}
use Rattle.std.proofs.lemmas.Option.{slice_get_past}
use Rattle.ds_domain_base.specs.declared.contract.Contract.{Contract}
use Rattle.ds_checker.specs.Acceptance.{Table}
use Rattle.meter_fabric_base.specs.Grounds.{Ground, contract_of, flow_count, ground_of, most_flows}
use Rattle.meter_fabric_base.specs.Openings.{edge_opening, opening_at}

abbrev pub found_from : ℕ → List Contract → ℕ → Option Contract
found_from n cs flow = option_map (λ entry. entry.1) (find (λ entry. nat_eq entry.0 flow) (enumerate_from n cs))

pub found_from-at : (n : ℕ) (cs : List Contract) (place : ℕ) → found_from n cs (n + place) ≡ slice_get cs place
found_from-at n [] place = refl
found_from-at n (c ∷ cs) zero =
    let same : nat_eq n (n + 0) ≡ true = grind (arith, nat_tests) in
    rw same refl
found_from-at n (c ∷ cs) (suc place) =
    let other : nat_eq n (n + suc place) ≡ false = grind (arith, nat_tests) in
    let onward : n + suc place ≡ n + 1 + place = omega arith in
    rw other (ap (found_from (n + 1) cs) onward ∙ found_from-at (n + 1) cs place)

slice_get-take : (most : ℕ) (cs : List Contract) (place : ℕ) → slice_get (take most cs) place ≡ (if nat_lt place most then slice_get cs place else None)
slice_get-take zero cs place =
    let none : nat_lt place 0 ≡ false = grind (arith, nat_tests) in
    rw none refl
slice_get-take (suc most) [] place = by_test (nat_lt place (suc most))
  where
    by_test : (b : Bool) → None ≡ (if b then slice_get {X = Contract} [] place else None)
    by_test true = refl
    by_test false = refl
slice_get-take (suc most) (c ∷ cs) zero =
    let low : nat_lt 0 (suc most) ≡ true = grind (arith, nat_tests) in
    rw low refl
slice_get-take (suc most) (c ∷ cs) (suc place) = by_test (nat_lt place most) refl (slice_get-take most cs place)
  where
    by_test : (b : Bool) → nat_lt place most ≡ b
        → slice_get (take most cs) place ≡ (if nat_lt place most then slice_get cs place else None)
        → slice_get (take most cs) place ≡ (if nat_lt (suc place) (suc most) then slice_get cs place else None)
    by_test true low same =
        let up : nat_lt (suc place) (suc most) ≡ true = grind (arith, nat_tests) in
        rw up (rw low at same)
    by_test false high same =
        let up : nat_lt (suc place) (suc most) ≡ false = grind (arith, nat_tests) in
        rw up (rw high at same)

pub found_at : (t : Table) (flow : ℕ) → contract_of (ground_of t) flow ≡ slice_get (take most_flows t.contracts) flow
found_at t flow =
    let place : 0 + flow ≡ flow = omega arith in
    ap (found_from 0 (take most_flows t.contracts)) (sym place) ∙ found_from-at 0 (take most_flows t.contracts) flow

pub contract_at : (t : Table) (flow : ℕ) → contract_of (ground_of t) flow ≡ (if nat_lt flow most_flows then slice_get t.contracts flow else None)
contract_at t flow = found_at t flow ∙ slice_get-take most_flows t.contracts flow

-- the contract of a flow stands at its place
pub place_of : (t : Table) (flow : ℕ) (c : Contract) → contract_of (ground_of t) flow ≡ Some c
    → (nat_lt flow most_flows ≡ true) × (slice_get t.contracts flow ≡ Some c)
place_of t flow c is = numbered (nat_lt flow most_flows) (slice_get t.contracts flow) (sym (contract_at t flow) ∙ is)
  where
    numbered : (low : Bool) (found : Option Contract) → (if low then found else None) ≡ Some c → (low ≡ true) × (found ≡ Some c)
    numbered true found some = (refl, some)
    numbered false found some = absurd cc

-- there is no contract of a flow past them
pub contract_past : (t : Table) (flow : ℕ) → flow_count t ≤ flow → contract_of (ground_of t) flow ≡ None
contract_past t flow past =
    found_at t flow
    ∙ slice_get_past (take most_flows t.contracts) flow (omega (arith, past, length-take most_flows t.contracts))

-- behind the meters stand the edges
pub opening_behind : (g : Ground) (site : ℕ) → length g.domain.meters ≤ site
    → opening_at g site ≡ option_and_then (edge_opening g.domain) (contract_of g (site - length g.domain.meters))
opening_behind g site behind =
    let past : nat_lt site (length g.domain.meters) ≡ false = grind (arith, nat_tests) in
    rw past refl

-- what is not found stands past the end
pub none_past : {A : Type 0} (found : Option A) (place long : ℕ) → IsSome found ↔ (place < long) → found ≡ None → long ≤ place
none_past found place long inside none = by_test (nat_lt place long) refl
  where
    by_test : (b : Bool) → nat_lt place long ≡ b → long ≤ place
    by_test true low =
        let below : place < long = grind (arith, nat_tests) in
        absurd (false≢true (sym (ap is_some none) ∙ inside.1 below))
    by_test false high = grind (arith, nat_tests)

-- no more than there are
pub take_least : {A : Type 0} (most : ℕ) (xs : List A) → take (min (length xs) most) xs ≡ take most xs
take_least most xs = by_test (nat_lt most (length xs)) refl
  where
    by_test : (b : Bool) → nat_lt most (length xs) ≡ b → take (min (length xs) most) xs ≡ take most xs
    by_test true more =
        let below : most < length xs = grind (arith, nat_tests) in
        let least : min (length xs) most ≡ most = omega (arith, below) in
        ap (λ n. take n xs) least
    by_test false few =
        let all : length xs ≤ most = grind (arith, nat_tests) in
        take_all (min (length xs) most) xs (omega (arith, all)) ∙ sym (take_all most xs all)
