-- What `audit` answers to lines of steps.
use Rattle.std.specs.Prelude.{ℕ, ◌+◌, Bool, true, false, List, [], ◌∷◌, ◌++◌, codes, flat_map, option_map, slice_index, unwrap_or, Result, Ok, Err}
use Rattle.json_lines.specs.JsonLines.{line_of as object_line}
use Rattle.meter_book.specs.Replay.{Journal, accounts_of, journal_rows}
use Rattle.meter_book.specs.declared.accounts.Accounts.{Accounts}
use Rattle.ds_checker.specs.Acceptance.{Table}
use Rattle.meter_fabric_base.specs.Grounds.{ground_of}
use Rattle.dsedge_lines.specs.Answers.{Answer}
use Rattle.dsedge_lines.specs.declared.command.Ending.{Ending}
use Rattle.dsedge_lines.specs.declared.command.Ending.TheVariants.{Whole, Refused, BadLine, Full}
use Rattle.dsedge_texts.specs.Wording.{column_text, figure, name_of}
use Rattle.run_audit.specs.Runs.{Run}
use Rattle.run_audit.specs.Verdicts.{verdict_of}
use Rattle.run_audit.specs.declared.verdict.Verdict.{Verdict}
use Rattle.run_audit.specs.declared.verdict.Verdict.TheVariants.{Kept, OutsideContract, SourceOver, DelayOver, Late}
use Rattle.ds_runs.specs.Conducting.{run_so_far}
use Rattle.ds_runs.specs.Steps.{Stage, stepped}
use Rattle.ds_runs.specs.declared.fault.StepFault.{StepFault}
use Rattle.ds_runs.specs.declared.fault.StepFault.TheVariants.{BadStep, JournalFull, NoMemory}
use Rattle.dsedge_audit.specs.AuditObjects.{audit_data}
use Rattle.dsedge_audit.specs.SiteNames.{site_name}
use Rattle.dsedge_audit.specs.StepLines.{step_in}

-- the line of a verdict
abbrev pub verdict_line : Table → Verdict → List ℕ
verdict_line t Kept = codes "kept\n"
verdict_line t (OutsideContract packet) = codes "outside" ++ figure packet ++ codes "\n"
verdict_line t (SourceOver flow column packet) =
    codes "source-over " ++ name_of t.contracts flow ++ codes " " ++ column_text column ++ figure packet ++ codes "\n"
verdict_line t (DelayOver packet hop) = codes "delay-over" ++ figure packet ++ figure hop ++ codes "\n"
verdict_line t (Late site place late) = codes "late " ++ site_name t site ++ figure place ++ figure late ++ codes "\n"

-- a colour's name, its packets and its bytes, behind a space
abbrev pub share_text : List ℕ → ℕ → ℕ → List ℕ
share_text name packets bytes = codes " " ++ name ++ figure packets ++ figure bytes

-- the accounts on the line of a site
abbrev pub accounts_line_of : List ℕ → Accounts → List ℕ
accounts_line_of name a =
    name
    ++ share_text (codes "green") (slice_index a.packets 0) (slice_index a.bytes 0)
    ++ share_text (codes "yellow") (slice_index a.packets 1) (slice_index a.bytes 1)
    ++ share_text (codes "red") (slice_index a.packets 2) (slice_index a.bytes 2)
    ++ codes "\n"

abbrev pub accounts_line : Table → Journal → List ℕ
accounts_line t j = accounts_line_of (site_name t j.site) (accounts_of (journal_rows j))

-- a verdict, then the accounts of each site
abbrev pub audit_text : Table → Verdict → List Journal → List ℕ
audit_text t verdict journals = verdict_line t verdict ++ flat_map (accounts_line t) journals

-- as lines, or as an object of JSON
abbrev pub audit_said : Bool → Table → Verdict → List Journal → List ℕ
audit_said false t verdict journals = audit_text t verdict journals
audit_said true t verdict journals = object_line (audit_data t verdict journals)

-- a run that broke a premise is answered with no
abbrev pub ending_by : Verdict → Ending
ending_by Kept = Whole
ending_by (OutsideContract packet) = Refused
ending_by (SourceOver flow column packet) = Refused
ending_by (DelayOver packet hop) = Refused
ending_by (Late site place late) = Refused

abbrev pub audit_of : Bool → Table → Run → Answer
audit_of in_json t run =
    record {
      text = audit_said in_json t (verdict_of (ground_of t) run) run.journals;
      ending = ending_by (verdict_of (ground_of t) run);
    }

-- nothing is answered, since a line stopped the steps
abbrev pub stopped : Ending → Answer
stopped ending = record { text = []; ending = ending }

-- what comes of the step that a line of this number says, and of the lines behind it
abbrev pub going_on : ℕ → (Stage → Answer) → Result Stage StepFault → Answer
going_on number later (Ok g) = later g
going_on number later (Err BadStep) = stopped (BadLine number)
going_on number later (Err JournalFull) = stopped Full
going_on number later (Err NoMemory) = stopped (BadLine number)

-- The answer to lines from a number on, behind the steps so far: each line says a step that can be made, and at the end
-- the run is judged.
unfoldable pub audit_from : Bool → Table → Stage → ℕ → List (List ℕ) → Answer
audit_from in_json t g number [] = audit_of in_json t (run_so_far g)
audit_from in_json t g number (line ∷ lines) =
    unwrap_or
    (option_map (λ s. going_on number (λ h. audit_from in_json t h (number + 1) lines) (stepped t g s))
    (step_in t.contracts line))
    (stopped (BadLine number))

-- what the command stands at: its table, how far its run is, and whether it answers with an object
pub record Auditing : Type 0 where
  pub table : Table
  pub stage : Stage
  pub in_json : Bool
