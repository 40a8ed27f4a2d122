-- The run that a list of steps makes.
use Rattle.std.specs.Prelude.{◌≡◌, ℕ, ◌^◌, suc, List, [], ◌∷◌, map, All, IfSome, Option, None, Some, Result, Ok, Err}
use Rattle.meter_book.specs.Replay.{Book, Journal}
use Rattle.ds_checker.specs.Acceptance.{Table}
use Rattle.meter_fabric_base.specs.Travels.{Traveller}
use Rattle.run_audit.specs.Runs.{Passage, Run}
use Rattle.ds_runs.specs.Steps.{Stage, opened_with, stepped}
use Rattle.ds_runs.specs.declared.fault.ConductFault.{ConductFault}
use Rattle.ds_runs.specs.declared.fault.ConductFault.TheVariants as conducts
use Rattle.ds_runs.specs.declared.fault.StepFault.{StepFault}
use Rattle.ds_runs.specs.declared.fault.StepFault.TheVariants as steps
use Rattle.ds_runs.specs.declared.step.Step.{Step}

-- a packet, with the receipts that it has so far
abbrev pub passage_of : Traveller → Passage
passage_of t = record { packet = t.packet; receipts = t.receipts }

-- what a book hands over for its site
abbrev pub journal_of : ℕ → Book → Journal
journal_of site b =
    record { site = site; opening = b.opening.meter; skew = b.opening.skew; arrivals = b.arrivals }

-- nothing was cut off from a book, if there is one
abbrev pub IsWhole : Option Book → Type 0
IsWhole found = IfSome found (λ b. b.opening.place ≡ 0)

abbrev pub AreWhole : List (Option Book) → Type 0
AreWhole books = All IsWhole books

-- the journals of books, of which the first is that of the site of this number
unfoldable pub journals_from : ℕ → List (Option Book) → List Journal
journals_from site [] = []
journals_from site (None ∷ books) = journals_from (suc site) books
journals_from site (Some b ∷ books) = journal_of site b ∷ journals_from (suc site) books

-- the run as it is: the journals of all sites in order, and all packets in the order in which they were sent
abbrev pub run_so_far : Stage → Run
run_so_far g = record { journals = journals_from 0 g.books; passages = map passage_of g.travellers }

-- what stands against the step of an index
abbrev pub fault_at : ℕ → StepFault → ConductFault
fault_at index steps.BadStep = conducts.BadStep index
fault_at index steps.JournalFull = conducts.JournalFull index
fault_at index steps.NoMemory = conducts.NoMemory

-- what comes of a step of an index, and of those behind it
abbrev pub going_on : ℕ → (Stage → Result Stage ConductFault) → Result Stage StepFault → Result Stage ConductFault
going_on index rest (Ok g) = rest g
going_on index rest (Err fault) = Err (fault_at index fault)

-- all steps one after the other, of which the first has this index, or what stands against the first that cannot be
-- made
unfoldable pub conducted_from : Table → Stage → ℕ → List Step → Result Stage ConductFault
conducted_from t g index [] = Ok g
conducted_from t g index (s ∷ rest) = going_on index (λ h. conducted_from t h (suc index) rest) (stepped t g s)

abbrev pub as_run : Result Stage ConductFault → Result Run ConductFault
as_run (Ok g) = Ok (run_so_far g)
as_run (Err fault) = Err fault

-- the run of a list of steps, where each book takes so many rows
abbrev pub conducted_with : ℕ → Table → List Step → Result Run ConductFault
conducted_with capacity t all = as_run (conducted_from t (opened_with capacity t) 0 all)

-- where it takes 2^20
abbrev pub conducted : Table → List Step → Result Run ConductFault
conducted t all = conducted_with (2 ^ 20) t all
