-- What a step makes of packets on their way and of the books of the sites.
use Rattle.std.specs.Prelude.{ℕ, ◌^◌, nat_eq, if◌then◌else◌, List, [], ◌∷◌, ◌++◌, map, position, slice_get, slice_set, option_map, Option, None, Some, Result, Ok, Err}
use Rattle.std.specs.List.{list_any, range_with_len}
use Rattle.meter_book.specs.Replay.{Book}
use Rattle.ds_checker.specs.Acceptance.{Table}
use Rattle.meter_fabric_base.specs.Grounds.{ground_of}
use Rattle.meter_fabric_base.specs.Travels.{Traveller, begun_of, next_site, visit}
use Rattle.meter_fabric_base.specs.declared.fault.VisitFault.{VisitFault}
use Rattle.meter_fabric_base.specs.Openings.{book_with, opening_at, site_count}
use Rattle.ds_runs.specs.Faults.{visit_fault_of}
use Rattle.ds_runs.specs.declared.fault.StepFault.{StepFault}
use Rattle.ds_runs.specs.declared.fault.StepFault.TheVariants.{BadStep, NoMemory}
use Rattle.ds_runs.specs.declared.step.Step.{Step}
use Rattle.ds_runs.specs.declared.step.Step.TheVariants.{Send, Visit}

-- the packets on their way, in the order in which they were sent, and the books of the sites, each at its number; where
-- a site has no meter, as at a trusted contract's number, there is no book
pub record Stage : Type 0 where
  pub travellers : List Traveller
  pub books : List (Option Book)

-- an empty book of what stands at a site, which takes so many rows
abbrev pub opened_at : ℕ → Table → ℕ → Option Book
opened_at capacity t site = option_map (book_with capacity) (opening_at (ground_of t) site)

-- before the first step, where each book takes so many rows
abbrev pub opened_with : ℕ → Table → Stage
opened_with capacity t =
    record { travellers = []; books = map (opened_at capacity t) (range_with_len 0 (site_count t)) }

-- where it takes 2^20
abbrev pub opened : Table → Stage
opened t = opened_with (2 ^ 20) t

-- the book of a site, if there is one
abbrev pub some_of : {A : Type 0} → Option (Option A) → Option A
some_of (Some found) = found
some_of None = None

abbrev pub book_at : Stage → ℕ → Option Book
book_at g site = some_of (slice_get g.books site)

-- the numbers of packets
abbrev pub numbers_of : List Traveller → List ℕ
numbers_of ts = map (λ t. t.packet.number) ts

-- a packet that begins is the last of those on their way
abbrev pub sent : Stage → Option Traveller → Result Stage StepFault
sent g None = Err BadStep
sent g (Some t) = Ok (record g { travellers = g.travellers ++ t ∷ [] })

-- a packet and a book behind a visit, or what stands against it
abbrev pub as_step : Result (Traveller × Book) VisitFault → Result (Traveller × Option Book) StepFault
as_step (Ok done) = Ok (done.0, Some done.1)
as_step (Err fault) = Err (visit_fault_of fault)

-- a packet at the book of a site, where there may be none
abbrev pub visit_there : Traveller → Option Book → ℕ → Result (Traveller × Option Book) StepFault
visit_there t None moment = Err BadStep
visit_there t (Some b) moment = as_step (visit t b moment)

-- the packet, and all books
abbrev pub with_books : List (Option Book) → ℕ → Result (Traveller × Option Book) StepFault
    → Result (Traveller × List (Option Book)) StepFault
with_books books site (Ok done) = Ok (done.0, slice_set books site done.1)
with_books books site (Err fault) = Err fault

abbrev pub visited_at : Traveller → List (Option Book) → ℕ → Option ℕ
    → Result (Traveller × List (Option Book)) StepFault
visited_at t books moment None = Err BadStep
visited_at t books moment (Some site) =
    with_books books site (visit_there t (some_of (slice_get books site)) moment)

-- a packet comes to its next site, if there is one: the packet and the books behind it
abbrev pub visited_next : Traveller → List (Option Book) → ℕ → Result (Traveller × List (Option Book)) StepFault
visited_next t books moment = visited_at t books moment (next_site t)

abbrev pub put_back : Stage → ℕ → Result (Traveller × List (Option Book)) StepFault → Result Stage StepFault
put_back g place (Ok done) = Ok (record { travellers = slice_set g.travellers place done.0; books = done.1 })
put_back g place (Err fault) = Err fault

abbrev pub visited_by : Stage → ℕ → ℕ → Option Traveller → Result Stage StepFault
visited_by g moment place None = Err BadStep
visited_by g moment place (Some t) = put_back g place (visited_next t g.books moment)

-- the packet of a place comes to its next site, if there is such a packet
abbrev pub visited_from : Stage → ℕ → Option ℕ → Result Stage StepFault
visited_from g moment None = Err BadStep
visited_from g moment (Some place) = visited_by g moment place (slice_get g.travellers place)

-- A step: a packet begins, if none was sent with its number, or the packet of a number comes to its next site at a
-- moment.
unfoldable pub stepped : Table → Stage → Step → Result Stage StepFault
stepped t g (Send flow packet size dscp moment) =
    if list_any (nat_eq packet) (numbers_of g.travellers) then
    Err BadStep
    else
    sent g (begun_of (ground_of t) (record { flow = flow; number = packet; size = size; dscp = dscp; begun = moment }))
stepped t g (Visit packet moment) = visited_from g moment (position (nat_eq packet) (numbers_of g.travellers))

-- what is answered where no step was made: what stands against it, and where nothing does, that memory ran out
abbrev pub refusal_of : {A : Type 0} → Result A StepFault → StepFault
refusal_of (Ok done) = NoMemory
refusal_of (Err fault) = fault
