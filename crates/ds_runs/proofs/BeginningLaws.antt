-- What a packet that begins makes of the packets on their way.
use Rattle.std.proofs.Common.{◌≡◌, ◌<◌, ℕ, Bool, true, false, List, [], ◌∷◌, ◌++◌, length, map, nat_eq, get_or, Option, None, Some, refl, sym, ◌∙◌, ap, subst, arith, option_map, IsPermutation, Result, Ok, Err, if◌then◌else◌}
use Rattle.std.specs.List.{list_any}
use Rattle.std.proofs.lemmas.Bool.{false≢true}
use Rattle.std.proofs.lemmas.Bool.Decides.{nat_tests}
use Rattle.std.proofs.lemmas.List.{get_or-map, length-map, map_push}
use Rattle.std.proofs.lemmas.List.Elements.{All-push}
use Rattle.std.proofs.lemmas.List.Folds.{list_any_at}
use Rattle.std.proofs.lemmas.List.Quantifiers.{all_pairs_push}
use Rattle.meter_book.specs.Replay.{rows_of}
use Rattle.ds_domain_base.specs.Sent.{came}
use Rattle.ds_domain_base.specs.declared.contract.Contract.{Contract}
use Rattle.ds_checker.specs.Acceptance.{Table}
use Rattle.meter_fabric_base.specs.Grounds.{contract_of, ground_of}
use Rattle.meter_fabric_base.specs.Sites.{hops_of}
use Rattle.meter_fabric_base.specs.Trails.{Packet}
use Rattle.meter_fabric_base.specs.Travels.{Traveller}
use Rattle.meter_fabric_base.proofs.TrailLaws.{IsTrail-none}
use Rattle.run_audit.specs.Runs.{told, told_by}
use Rattle.ds_runs.specs.Conducting.{passage_of}
use Rattle.ds_runs.specs.Steps.{Stage, numbers_of, sent}
use Rattle.ds_runs.specs.OnTheWay.{IsOnItsWay, IsUnderWay}
use Rattle.ds_runs.specs.declared.fault.StepFault.{StepFault}
use Rattle.ds_runs.specs.declared.fault.StepFault.TheVariants.{BadStep}
use Rattle.ds_runs.proofs.ListLaws.{flat_map-push_none, same_Ok}

-- a packet of a contract as it begins
abbrev pub beginning : Table → Packet → Contract → Traveller
beginning t p c = record { packet = p; came = came c p.dscp; hops = hops_of t.domain p.flow c; receipts = [] }

on_its_way : (t : Table) (p : Packet) (c : Contract) → contract_of (ground_of t) p.flow ≡ Some c → IsOnItsWay t (beginning t p c)
on_its_way t p c is = (c, is, refl, refl, IsTrail-none p p.begun (came c p.dscp) (hops_of t.domain p.flow c))

-- where none has a number, each has another
another : (number : ℕ) (ts : List Traveller) → list_any (nat_eq number) (numbers_of ts) ≡ false
    → (k : ℕ) (d : Traveller) → k < length ts → ¬ ((get_or ts k d).packet.number ≡ number)
another number ts none k d below same =
    let own = get_or-map (λ (t : Traveller). t.packet.number) ts k d number below in
    let test : nat_eq number (get_or (numbers_of ts) k number) ≡ true = grind (arith, nat_tests, own, same) in
    let within : k < length (numbers_of ts) = omega (arith, below, length-map ts (λ (t : Traveller). t.packet.number)) in
    false≢true (sym none ∙ list_any_at (nat_eq number) (numbers_of ts) k number within test)

-- what has no receipts tells nothing
told-push : (site : ℕ) (ts : List Traveller) (p : Traveller) → p.receipts ≡ [] → told site (map passage_of (ts ++ p ∷ [])) ≡ told site (map passage_of ts)
told-push site ts p none =
    let nothing : told_by site (passage_of p) ≡ [] = rw none refl in
    ap (told site) (map_push passage_of ts p) ∙ flat_map-push_none (told_by site) (map passage_of ts) (passage_of p) nothing

begun_under_way : (t : Table) (g : Stage) (p : Packet) (c : Contract) → IsUnderWay t g → list_any (nat_eq p.number) (numbers_of g.travellers) ≡ false
    → contract_of (ground_of t) p.flow ≡ Some c → IsUnderWay t (record g { travellers = g.travellers ++ beginning t p c ∷ [] })
begun_under_way t g p c way none is = record {
  count = way.count;
  openings = way.openings;
  travellers = All-push (IsOnItsWay t) g.travellers (beginning t p c) way.travellers (on_its_way t p c is);
  numbers = all_pairs_push (λ q r. ¬ (q.packet.number ≡ r.packet.number)) g.travellers (beginning t p c) way.numbers (another p.number g.travellers none);
  rows = λ site b there.
      subst (λ rows. IsPermutation rows (rows_of b)) (sym (told-push site g.travellers (beginning t p c) refl)) (way.rows site b there);
}

sent_by_contract : (t : Table) (g h : Stage) (p : Packet) (found : Option Contract) → IsUnderWay t g → list_any (nat_eq p.number) (numbers_of g.travellers) ≡ false
    → contract_of (ground_of t) p.flow ≡ found → sent g (option_map (beginning t p) found) ≡ Ok h → IsUnderWay t h
sent_by_contract t g h p None way none is done = absurd cc
sent_by_contract t g h p (Some c) way none is done =
    subst (IsUnderWay t) (same_Ok (record g { travellers = g.travellers ++ beginning t p c ∷ [] }) h done) (begun_under_way t g p c way none is)

-- a packet that begins, if none was sent with its number
pub sent_under_way : (t : Table) (g h : Stage) (p : Packet) (taken : Bool) → IsUnderWay t g → list_any (nat_eq p.number) (numbers_of g.travellers) ≡ taken
    → ◌≡◌ {A = Result Stage StepFault} (if taken then Err BadStep else sent g (option_map (beginning t p) (contract_of (ground_of t) p.flow))) (Ok h) → IsUnderWay t h
sent_under_way t g h p true way test done = absurd cc
sent_under_way t g h p false way test done = sent_by_contract t g h p (contract_of (ground_of t) p.flow) way test refl done
