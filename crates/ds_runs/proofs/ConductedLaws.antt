-- What a list of steps makes is a run.
use Rattle.std.proofs.Common.{◌≡◌, ℕ, suc, nat_eq, Bool, true, false, List, [], ◌∷◌, ◌++◌, map, Option, None, Some, refl, sym, ap, subst, ◌∙◌, append-nil, append_assoc, Result, Ok, Err, option_map, position, if◌then◌else◌}
use Rattle.std.specs.List.{flat_map, list_any}
use Rattle.std.proofs.lemmas.List.{map_push}
use Rattle.std.proofs.lemmas.Option.{same_Some}
use Rattle.std.proofs.lemmas.Simd.{map-map}
use Rattle.ds_domain_base.specs.declared.contract.Contract.{Contract}
use Rattle.meter_fabric_base.specs.Trails.{Packet}
use Rattle.meter_fabric_base.specs.Travels.{Traveller, begun_of}
use Rattle.ds_checker.specs.Acceptance.{Table}
use Rattle.meter_fabric_base.specs.Grounds.{contract_of, ground_of}
use Rattle.run_audit.specs.Runs.{IsRun, Passage, Run}
use Rattle.ds_runs.specs.Conducting.{as_run, conducted_from, conducted_with, going_on, passage_of, run_so_far}
use Rattle.ds_runs.specs.Steps.{Stage, numbers_of, opened_with, sent, stepped, visited_from}
use Rattle.ds_runs.specs.ConductingLaws.{sent_by}
use Rattle.ds_runs.specs.OnTheWay.{IsUnderWay}
use Rattle.ds_runs.specs.declared.fault.ConductFault.{ConductFault}
use Rattle.ds_runs.specs.declared.fault.StepFault.{StepFault}
use Rattle.ds_runs.specs.declared.fault.StepFault.TheVariants.{BadStep}
use Rattle.ds_runs.specs.declared.step.Step.{Step}
use Rattle.ds_runs.specs.declared.step.Step.TheVariants.{Send, Visit}
use Rattle.ds_runs.proofs.BeginningLaws.{beginning}
use Rattle.ds_runs.proofs.ListLaws.{same_Ok}
use Rattle.ds_runs.proofs.OnTheWayLaws.{opened_under_way, run_under_way, stepped_under_way}
use Rattle.ds_runs.proofs.VisitingLaws.{packets_in, packets_visited}

-- what a step has made, if those behind it keep it under way
step_by_step : (t : Table) (g h : Stage) (s : Step) (index : ℕ) (rest : Stage → Result Stage ConductFault) (made : Result Stage StepFault) → IsUnderWay t g
    → ((k : Stage) → IsUnderWay t k → rest k ≡ Ok h → IsUnderWay t h)
    → stepped t g s ≡ made → going_on index rest made ≡ Ok h → IsUnderWay t h
step_by_step t g h s index rest (Ok k) way onward step done = onward k (stepped_under_way t g k s way step) done
step_by_step t g h s index rest (Err fault) way onward step done = absurd cc

pub conducted_under_way : (t : Table) (g h : Stage) (index : ℕ) (all : List Step) → IsUnderWay t g → conducted_from t g index all ≡ Ok h → IsUnderWay t h
unfolding conducted_from
conducted_under_way t g h index [] way done = subst (IsUnderWay t) (same_Ok g h done) way
conducted_under_way t g h index (s ∷ rest) way done =
    step_by_step t g h s index (λ k. conducted_from t k (suc index) rest) (stepped t g s) way (λ k. conducted_under_way t k h (suc index) rest) refl done

run_of_stage : (t : Table) (made : Result Stage ConductFault) (run : Run) → ((g : Stage) → made ≡ Ok g → IsUnderWay t g) → as_run made ≡ Ok run → IsRun (ground_of t) run
run_of_stage t (Ok g) run way done = subst (IsRun (ground_of t)) (same_Ok (run_so_far g) run done) (run_under_way t g (way g refl))
run_of_stage t (Err fault) run way done = absurd cc

pub conducted_is_run : (capacity : ℕ) (t : Table) (all : List Step) (run : Run) → conducted_with capacity t all ≡ Ok run → IsRun (ground_of t) run
conducted_is_run capacity t all run done =
    run_of_stage t (conducted_from t (opened_with capacity t) 0 all) run (λ g. conducted_under_way t (opened_with capacity t) g 0 all (opened_under_way capacity t)) done

-- ---- the packets that were sent

sent-packets : (g h : Stage) (p : Packet) (found : Option Traveller) → ((t : Traveller) → found ≡ Some t → t.packet ≡ p) → sent g found ≡ Ok h
    → packets_in h.travellers ≡ packets_in g.travellers ++ p ∷ []
sent-packets g h p None own done = absurd cc
sent-packets g h p (Some t) own done =
    let same : h.travellers ≡ g.travellers ++ t ∷ [] = cc in
    ap packets_in same ∙ map_push (λ (u : Traveller). u.packet) g.travellers t ∙ ap (λ q. packets_in g.travellers ++ q ∷ []) (own t refl)

send-packets : (g h : Stage) (p : Packet) (taken : Bool) (found : Option Traveller) → ((t : Traveller) → found ≡ Some t → t.packet ≡ p)
    → ◌≡◌ {A = Result Stage StepFault} (if taken then Err BadStep else sent g found) (Ok h)
    → packets_in h.travellers ≡ packets_in g.travellers ++ p ∷ []
send-packets g h p true found own done = absurd cc
send-packets g h p false found own done = sent-packets g h p found own done

begun-packet : (t : Table) (p : Packet) (found : Option Contract) (u : Traveller) → option_map (beginning t p) found ≡ Some u → u.packet ≡ p
begun-packet t p None u is = absurd cc
begun-packet t p (Some c) u is = ap (λ (v : Traveller). v.packet) (sym (same_Some (beginning t p c) u is))

visited-packets : (g h : Stage) (moment : ℕ) (place : Option ℕ) → visited_from g moment place ≡ Ok h → packets_in h.travellers ≡ packets_in g.travellers
visited-packets g h moment None done = absurd cc
visited-packets g h moment (Some place) done = packets_visited g h place moment done

stepped-packets : (t : Table) (g h : Stage) (s : Step) → stepped t g s ≡ Ok h → packets_in h.travellers ≡ packets_in g.travellers ++ sent_by s
unfolding stepped
stepped-packets t g h (Send flow packet size dscp moment) done =
    let p : Packet = record { flow = flow; number = packet; size = size; dscp = dscp; begun = moment } in
    send-packets g h p (list_any (nat_eq packet) (numbers_of g.travellers)) (begun_of (ground_of t) p) (begun-packet t p (contract_of (ground_of t) flow)) done
stepped-packets t g h (Visit packet moment) done =
    visited-packets g h moment (position (nat_eq packet) (numbers_of g.travellers)) done ∙ sym (append-nil (packets_in g.travellers))

going-packets : (t : Table) (g h : Stage) (s : Step) (index : ℕ) (rest : Stage → Result Stage ConductFault) (made : Result Stage StepFault) (more : List Packet)
    → ((k : Stage) → rest k ≡ Ok h → packets_in h.travellers ≡ packets_in k.travellers ++ more)
    → stepped t g s ≡ made → going_on index rest made ≡ Ok h → packets_in h.travellers ≡ packets_in g.travellers ++ (sent_by s ++ more)
going-packets t g h s index rest (Ok k) more onward step done =
    onward k done ∙ ap (λ ps. ps ++ more) (stepped-packets t g k s step) ∙ append_assoc (packets_in g.travellers) (sent_by s) more
going-packets t g h s index rest (Err fault) more onward step done = absurd cc

conducted-packets : (t : Table) (g h : Stage) (index : ℕ) (all : List Step) → conducted_from t g index all ≡ Ok h
    → packets_in h.travellers ≡ packets_in g.travellers ++ flat_map sent_by all
unfolding conducted_from
conducted-packets t g h index [] done = ap (λ (k : Stage). packets_in k.travellers) (sym (same_Ok g h done)) ∙ sym (append-nil (packets_in g.travellers))
conducted-packets t g h index (s ∷ rest) done =
    going-packets t g h s index (λ k. conducted_from t k (suc index) rest) (stepped t g s) (flat_map sent_by rest)
    (λ k. conducted-packets t k h (suc index) rest) refl done

run-packets : (capacity : ℕ) (t : Table) (all : List Step) (made : Result Stage ConductFault) (run : Run) → conducted_from t (opened_with capacity t) 0 all ≡ made → as_run made ≡ Ok run
    → map (λ p. p.packet) run.passages ≡ flat_map sent_by all
run-packets capacity t all (Ok g) run is done =
    ap (λ (r : Run). map (λ p. p.packet) r.passages) (sym (same_Ok (run_so_far g) run done))
    ∙ map-map (λ (p : Passage). p.packet) passage_of g.travellers ∙ conducted-packets t (opened_with capacity t) g 0 all is
run-packets capacity t all (Err fault) run is done = absurd cc

pub packets_are_sent : (capacity : ℕ) (t : Table) (all : List Step) (run : Run) → conducted_with capacity t all ≡ Ok run → map (λ p. p.packet) run.passages ≡ flat_map sent_by all
packets_are_sent capacity t all run done = run-packets capacity t all (conducted_from t (opened_with capacity t) 0 all) run refl done
