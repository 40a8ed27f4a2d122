-- What steps keep, and what they make.
use Rattle.std.specs.Prelude.{◌≡◌, ℕ, nat_eq, List, [], ◌∷◌, ◌++◌, All, flat_map, map, position, slice_get, Option, None, Some, Result, Ok, Err, if◌then◌else◌}
use Rattle.meter_book.specs.declared.row.Arrival.{Arrival}
use Rattle.ds_checker.specs.Acceptance.{Table}
use Rattle.meter_fabric_base.specs.Grounds.{ground_of}
use Rattle.meter_fabric_base.specs.Trails.{Packet, arrival_at}
use Rattle.meter_fabric_base.specs.Travels.{Traveller, comes_as, next_hop}
use Rattle.meter_fabric_base.specs.declared.hop.Hop.{Hop}
use Rattle.run_audit.specs.Runs.{IsRun, Run}
use Rattle.ds_runs.specs.Conducting.{conducted_with, run_so_far}
use Rattle.ds_runs.specs.Steps.{Stage, numbers_of, opened_with, stepped}
use Rattle.ds_runs.specs.OnTheWay.{IsUnderWay}
use Rattle.ds_runs.specs.declared.fault.StepFault.{StepFault}
use Rattle.ds_runs.specs.declared.step.Step.{Step}
use Rattle.ds_runs.specs.declared.step.Step.TheVariants.{Send, Visit}

-- What opens is under way, however many rows books take, each step that is made keeps it so, and what is under way is a
-- run.
abbrev pub StepsKeepOnTheWay : Type 0
StepsKeepOnTheWay =
    ((capacity : ℕ) (t : Table) → IsUnderWay t (opened_with capacity t))
    × ((t : Table) (g h : Stage) (s : Step) → IsUnderWay t g → stepped t g s ≡ Ok h → IsUnderWay t h)
    × ((t : Table) (g : Stage) → IsUnderWay t g → IsRun (ground_of t) (run_so_far g))

-- What a list of steps makes is a run.
abbrev pub StepsMakeRuns : Type 0
StepsMakeRuns =
    (capacity : ℕ) (t : Table) (all : List Step) (run : Run) → conducted_with capacity t all ≡ Ok run
    → IsRun (ground_of t) run

-- what a step sends
abbrev pub sent_by : Step → List Packet
sent_by (Send flow packet size dscp moment) =
    record { flow = flow; number = packet; size = size; dscp = dscp; begun = moment } ∷ []
sent_by (Visit packet moment) = []

-- The packets of the run that a list of steps makes are those that it sends, in its order.
abbrev pub PacketsAreThoseSent : Type 0
PacketsAreThoseSent =
    (capacity : ℕ) (t : Table) (all : List Step) (run : Run) → conducted_with capacity t all ≡ Ok run
    → map (λ p. p.packet) run.passages ≡ flat_map sent_by all

-- a packet arrives at its next hop, if that is at the site, with the colour that it left its last hop with
abbrev pub arrival_there : ℕ → Traveller → ℕ → Option Hop → List Arrival
arrival_there site p moment None = []
arrival_there site p moment (Some hop) =
    if nat_eq hop.site site then arrival_at p.packet hop moment (comes_as p) ∷ [] else []

abbrev pub arrival_by : ℕ → ℕ → Option Traveller → List Arrival
arrival_by site moment None = []
arrival_by site moment (Some p) = arrival_there site p moment (next_hop p)

abbrev pub arrival_from : ℕ → Stage → ℕ → Option ℕ → List Arrival
arrival_from site g moment None = []
arrival_from site g moment (Some place) = arrival_by site moment (slice_get g.travellers place)

-- what a step brings to a site: a visit the packet of its number
abbrev pub brought_by : ℕ → Stage → Step → List Arrival
brought_by site g (Send flow packet size dscp moment) = []
brought_by site g (Visit packet moment) =
    arrival_from site g moment (position (nat_eq packet) (numbers_of g.travellers))

abbrev pub behind_step : (Stage → List Arrival) → Result Stage StepFault → List Arrival
behind_step rest (Ok g) = rest g
behind_step rest (Err fault) = []

-- what steps bring to a site, one after the other
unfoldable pub brought : Table → ℕ → Stage → List Step → List Arrival
brought t site g [] = []
brought t site g (s ∷ rest) = brought_by site g s ++ behind_step (λ h. brought t site h rest) (stepped t g s)

-- The journal of each site of the run that a list of steps makes is that of what the visits there bring, in the order
-- of the list.
abbrev pub JournalsAreTheVisits : Type 0
JournalsAreTheVisits =
    (capacity : ℕ) (t : Table) (all : List Step) (run : Run) → conducted_with capacity t all ≡ Ok run
    → All (λ j. j.arrivals ≡ brought t j.site (opened_with capacity t) all) run.journals
