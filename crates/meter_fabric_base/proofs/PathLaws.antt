-- What is known of a contract of a table's flow.
use Rattle.std.proofs.Common.{◌≡◌, ◌<◌, ℕ, true, List, length, take, get_or, Some, refl, sym, ap, ◌∙◌, arith, nat_lt, slice_get}
use Rattle.std.proofs.lemmas.Bool.Decides.{nat_tests}
use Rattle.std.proofs.lemmas.Option.{slice_get_read, slice_get_within}
use Rattle.ds_domain_base.specs.declared.contract.Contract.{Contract}
use Rattle.ds_checker.specs.Acceptance.{Table}
use Rattle.meter_fabric_base.specs.Grounds.{contract_of, ground_of, most_flows}
use Rattle.meter_fabric_base.proofs.GroundLaws.{found_at, place_of}

low_test : (flow : ℕ) → nat_lt flow most_flows ≡ true → flow < most_flows
low_test flow low = grind (arith, nat_tests)

-- its flow is low, and its place in the table
pub known_contract : (t : Table) (flow : ℕ) (c : Contract) → contract_of (ground_of t) flow ≡ Some c
    → (flow < most_flows) × (flow < length t.contracts) × (slice_get t.contracts flow ≡ Some c)
known_contract t flow c is =
    let both = place_of t flow c is in
    (low_test flow both.0, slice_get_within t.contracts flow c both.1, both.1)

-- the same of one that is read at a place of those that packets can be of
pub read_contract : (t : Table) (contracts : List Contract) (place : ℕ) (c : Contract) → contracts ≡ take most_flows t.contracts → place < length contracts
    → c ≡ get_or contracts place c → (place < length t.contracts) × (slice_get t.contracts place ≡ Some c)
read_contract t contracts place c taken inside is =
    let known = known_contract t place c (found_at t place ∙ ap (λ cs. slice_get cs place) (sym taken) ∙ slice_get_read contracts (length contracts) place c refl inside is) in
    (known.1, known.2)
