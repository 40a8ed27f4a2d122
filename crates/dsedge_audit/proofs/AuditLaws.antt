-- The answer of `audit`, a line at a time.
use Rattle.std.proofs.Common.{◌≡◌, ℕ, Bool, ◌+◌, List, ◌∷◌, [], Option, None, Some, Ok, Err, Result, ap, refl, sym, option_map, append-nil}
use Rattle.ds_domain_base.specs.declared.contract.Contract.{Contract}
use Rattle.ds_checker.specs.Acceptance.{Table}
use Rattle.meter_fabric_base.specs.Grounds.{contract_of, ground_of}
use Rattle.meter_fabric_base.specs.Trails.{Packet}
use Rattle.ds_runs.specs.Conducting.{run_so_far}
use Rattle.ds_runs.specs.Steps.{Stage, opened, refusal_of, sent, stepped}
use Rattle.ds_runs.specs.declared.step.Step.{Step}
use Rattle.ds_runs.specs.declared.step.Step.TheVariants.{Send, Visit}
use Rattle.ds_runs.specs.declared.fault.StepFault.{StepFault}
use Rattle.ds_runs.specs.declared.fault.StepFault.TheVariants.{BadStep, JournalFull, NoMemory}
use Rattle.ds_runs.proofs.BeginningLaws.{beginning}
use Rattle.dsedge_lines.specs.Answers.{Answer, behind}
use Rattle.dsedge_lines.specs.declared.command.Ending.{Ending}
use Rattle.dsedge_lines.specs.declared.command.Ending.TheVariants.{BadLine, Full}
use Rattle.dsedge_audit.specs.Audited.{audit_from, audit_of, stopped}
use Rattle.dsedge_audit.specs.StepLines.{step_in}

behind_stopped : (out : List ℕ) (ending : Ending) → ◌≡◌ {A = Answer} (record { text = out; ending = ending }) (behind out (stopped ending))
behind_stopped out ending = rw (append-nil out) refl

-- a line that says no step
pub bad_line : (in_json : Bool) (t : Table) (g : Stage) (number : ℕ) (line : List ℕ) (later : List (List ℕ)) (out : List ℕ)
    → step_in t.contracts line ≡ None
    → ◌≡◌ {A = Answer} (record { text = out; ending = BadLine number }) (behind out (audit_from in_json t g number (line ∷ later)))
unfolding audit_from
bad_line in_json t g number line later out e = rw e (behind_stopped out (BadLine number))

-- a line of a step that is made
pub made_line : (in_json : Bool) (t : Table) (g h : Stage) (number : ℕ) (line : List ℕ) (later : List (List ℕ)) (s : Step)
    → step_in t.contracts line ≡ Some s → stepped t g s ≡ Ok h
    → audit_from in_json t h (number + 1) later ≡ audit_from in_json t g number (line ∷ later)
unfolding audit_from
made_line in_json t g h number line later s e f = rw (e, f) refl

-- a refusal other than want of memory is what stands against the step
told_bad : (r : Result Stage StepFault) → BadStep ≡ refusal_of r → r ≡ Err BadStep
told_bad (Ok h) told = absurd cc
told_bad (Err own) told = ap (λ (f : StepFault). Err f) (sym told)

told_full : (r : Result Stage StepFault) → JournalFull ≡ refusal_of r → r ≡ Err JournalFull
told_full (Ok h) told = absurd cc
told_full (Err own) told = ap (λ (f : StepFault). Err f) (sym told)

-- a line of a step that cannot be made
pub bad_step : (in_json : Bool) (t : Table) (g : Stage) (number : ℕ) (line : List ℕ) (later : List (List ℕ)) (out : List ℕ) (s : Step)
    → step_in t.contracts line ≡ Some s → BadStep ≡ refusal_of (stepped t g s)
    → ◌≡◌ {A = Answer} (record { text = out; ending = BadLine number }) (behind out (audit_from in_json t g number (line ∷ later)))
unfolding audit_from
bad_step in_json t g number line later out s e told = rw (e, told_bad (stepped t g s) told) (behind_stopped out (BadLine number))

-- a line of a step that finds a journal full
pub full_line : (in_json : Bool) (t : Table) (g : Stage) (number : ℕ) (line : List ℕ) (later : List (List ℕ)) (out : List ℕ) (s : Step)
    → step_in t.contracts line ≡ Some s → JournalFull ≡ refusal_of (stepped t g s)
    → ◌≡◌ {A = Answer} (record { text = out; ending = Full }) (behind out (audit_from in_json t g number (line ∷ later)))
unfolding audit_from
full_line in_json t g number line later out s e told = rw (e, told_full (stepped t g s) told) (behind_stopped out Full)

-- what stands against the first step: nothing, where it sends a packet of a contract that is there
pub known_first : (t : Table) (flow packet size dscp moment : ℕ) (c : Contract) → Some c ≡ contract_of (ground_of t) flow
    → NoMemory ≡ refusal_of (stepped t (opened t) (Send flow packet size dscp moment))
unfolding stepped
known_first t flow packet size dscp moment c known =
    let p : Packet = record { flow = flow; number = packet; size = size; dscp = dscp; begun = moment } in
    ap (λ (o : Option Contract). refusal_of {A = Stage} (sent (opened t) (option_map (beginning t p) o))) known

pub unknown_first : (t : Table) (flow packet size dscp moment : ℕ) → None ≡ contract_of (ground_of t) flow
    → BadStep ≡ refusal_of (stepped t (opened t) (Send flow packet size dscp moment))
unfolding stepped
unknown_first t flow packet size dscp moment unknown =
    let p : Packet = record { flow = flow; number = packet; size = size; dscp = dscp; begun = moment } in
    ap (λ (o : Option Contract). refusal_of {A = Stage} (sent (opened t) (option_map (beginning t p) o))) unknown

pub visit_first : (t : Table) (packet moment : ℕ) → BadStep ≡ refusal_of (stepped t (opened t) (Visit packet moment))
unfolding stepped
visit_first t packet moment = refl

-- the end of the lines
pub last_line : (in_json : Bool) (t : Table) (g : Stage) (number : ℕ) → audit_from in_json t g number [] ≡ audit_of in_json t (run_so_far g)
unfolding audit_from
last_line in_json t g number = refl
