-- What steps bring to the books of the sites.
use Rattle.std.proofs.Common.{◌≡◌, ◌+◌, ℕ, suc, nat_eq, Bool, true, false, List, [], ◌∷◌, ◌++◌, Option, None, Some, refl, sym, ap, subst, subst₂, ◌∙◌, append-nil, append_assoc, arith, Result, Ok, Err, position, slice_get, if◌then◌else◌}
use Rattle.std.specs.List.{All, list_any}
use Rattle.std.proofs.lemmas.Option.{same_Some}
use Rattle.meter_book.specs.Replay.{Book, noted}
use Rattle.meter_book.specs.declared.row.Arrival.{Arrival}
use Rattle.ds_checker.specs.Acceptance.{Table}
use Rattle.meter_fabric_base.specs.Grounds.{ground_of}
use Rattle.meter_fabric_base.specs.Openings.{opening_at}
use Rattle.meter_fabric_base.specs.Travels.{Traveller, begun_of}
use Rattle.meter_fabric_base.specs.declared.hop.Hop.{Hop}
use Rattle.run_audit.specs.Runs.{Run}
use Rattle.ds_runs.specs.Conducting.{as_run, conducted_from, conducted_with, going_on, run_so_far}
use Rattle.ds_runs.specs.ConductingLaws.{arrival_by, arrival_from, arrival_there, behind_step, brought, brought_by}
use Rattle.ds_runs.specs.Steps.{Stage, book_at, numbers_of, opened_with, sent, some_of, stepped, visited_from}
use Rattle.ds_runs.specs.declared.fault.ConductFault.{ConductFault}
use Rattle.ds_runs.specs.declared.fault.StepFault.{StepFault}
use Rattle.ds_runs.specs.declared.fault.StepFault.TheVariants.{BadStep}
use Rattle.ds_runs.specs.declared.step.Step.{Step}
use Rattle.ds_runs.specs.declared.step.Step.TheVariants.{Send, Visit}
use Rattle.ds_runs.proofs.JournalLaws.{All-journals_from}
use Rattle.ds_runs.proofs.ListLaws.{same_Ok}
use Rattle.ds_runs.proofs.OpenedLaws.{no_arrivals, opened_book}
use Rattle.ds_runs.proofs.VisitingLaws.{Visits, book_elsewhere, book_here, coming, is_visited, same_site, stage_behind}

-- the book of a site, where there is one, was there, and has these arrivals more
abbrev Grows : ℕ → Stage → Stage → List Arrival → Type 0
Grows site g h more = (b : Book) → book_at h site ≡ Some b → (was : Book) × (book_at g site ≡ Some was) × (b.arrivals ≡ was.arrivals ++ more)

module _ (site : ℕ) where
  stays : (g h : Stage) → h.books ≡ g.books → Grows site g h []
  stays g h same b there = (b, ap (λ books. some_of (slice_get books site)) (sym same) ∙ there, sym (append-nil b.arrivals))

  grows_on : (g h k : Stage) (front back : List Arrival) → Grows site g h front → Grows site h k back → Grows site g k (front ++ back)
  grows_on g h k front back first second b there =
      let (mid, is, more) = second b there in
      let (was, at, fewer) = first mid is in
      (was, at, more ∙ ap (λ items. items ++ back) fewer ∙ append_assoc was.arrivals front back)

  -- ---- a step

  sent_books : (g h : Stage) (taken : Bool) (found : Option Traveller) → ◌≡◌ {A = Result Stage StepFault} (if taken then Err BadStep else sent g found) (Ok h) → h.books ≡ g.books
  sent_books g h true found done = absurd cc
  sent_books g h false None done = absurd cc
  sent_books g h false (Some t) done = cc

  visit_grows : (g : Stage) (place : ℕ) (p : Traveller) (hop : Hop) (b : Book) (moment : ℕ) (here : Bool) → Visits g place p hop b moment → nat_eq hop.site site ≡ here
      → Grows site g (stage_behind g place p hop b moment) (if here then coming p hop moment ∷ [] else [])
  visit_grows g place p hop b moment true visits test found there =
      let same = same_site hop.site site test in
      let is : noted b (coming p hop moment) ≡ found =
      same_Some (noted b (coming p hop moment)) found (sym (book_here g place p hop b moment visits) ∙ ap (book_at (stage_behind g place p hop b moment)) same ∙ there)
      in
      (b, ap (book_at g) (sym same) ∙ visits.book, ap (λ (book : Book). book.arrivals) (sym is))
  visit_grows g place p hop b moment false visits test found there =
      (found, sym (book_elsewhere g place p hop b moment site test) ∙ there, sym (append-nil found.arrivals))

  visited_grows : (g h : Stage) (moment : ℕ) (found : Option ℕ) → visited_from g moment found ≡ Ok h → Grows site g h (arrival_from site g moment found)
  visited_grows g h moment None done = absurd cc
  visited_grows g h moment (Some place) done =
      let v = is_visited g h place moment done in
      let comes = ap (arrival_by site moment) v.visits.packet ∙ ap (arrival_there site v.packet moment) v.visits.next in
      subst₂ (Grows site g) v.made (sym comes) (visit_grows g place v.packet v.hop v.book moment (nat_eq v.hop.site site) v.visits refl)

  step_grows : (t : Table) (g h : Stage) (s : Step) → stepped t g s ≡ Ok h → Grows site g h (brought_by site g s)
  unfolding stepped
  step_grows t g h (Send flow packet size dscp moment) done =
      stays g h (sent_books g h (list_any (nat_eq packet) (numbers_of g.travellers))
      (begun_of (ground_of t) (record { flow = flow; number = packet; size = size; dscp = dscp; begun = moment })) done)
  step_grows t g h (Visit packet moment) done = visited_grows g h moment (position (nat_eq packet) (numbers_of g.travellers)) done

  -- ---- all steps

  going_grows : (t : Table) (g h : Stage) (s : Step) (index : ℕ) (rest : Stage → Result Stage ConductFault) (later : Stage → List Arrival) (made : Result Stage StepFault)
      → ((k : Stage) → rest k ≡ Ok h → Grows site k h (later k)) → stepped t g s ≡ made → going_on index rest made ≡ Ok h
      → Grows site g h (brought_by site g s ++ behind_step later made)
  going_grows t g h s index rest later (Ok k) onward step done = grows_on g k h (brought_by site g s) (later k) (step_grows t g k s step) (onward k done)
  going_grows t g h s index rest later (Err fault) onward step done = absurd cc

  conducted_grows : (t : Table) (g h : Stage) (index : ℕ) (all : List Step) → conducted_from t g index all ≡ Ok h → Grows site g h (brought t site g all)
  unfolding conducted_from brought
  conducted_grows t g h index [] done = stays g h (ap (λ (k : Stage). k.books) (sym (same_Ok g h done)))
  conducted_grows t g h index (s ∷ rest) done =
      going_grows t g h s index (λ k. conducted_from t k (suc index) rest) (λ k. brought t site k rest) (stepped t g s)
      (λ k. conducted_grows t k h (suc index) rest) refl done

  -- from the first step on
  all_brought : (capacity : ℕ) (t : Table) (g : Stage) (all : List Step) (b : Book) → conducted_from t (opened_with capacity t) 0 all ≡ Ok g → book_at g site ≡ Some b
      → b.arrivals ≡ brought t site (opened_with capacity t) all
  all_brought capacity t g all b done there =
      let (was, at, more) = conducted_grows t (opened_with capacity t) g 0 all done b there in
      let none = no_arrivals capacity (opening_at (ground_of t) site) was (sym (opened_book capacity t site) ∙ at) in
      more ∙ ap (λ items. items ++ brought t site (opened_with capacity t) all) none

run_brought : (capacity : ℕ) (t : Table) (all : List Step) (made : Result Stage ConductFault) (run : Run) → conducted_from t (opened_with capacity t) 0 all ≡ made → as_run made ≡ Ok run
    → All (λ j. j.arrivals ≡ brought t j.site (opened_with capacity t) all) run.journals
run_brought capacity t all (Ok g) run is done =
    subst (λ (r : Run). All (λ j. j.arrivals ≡ brought t j.site (opened_with capacity t) all) r.journals) (same_Ok (run_so_far g) run done)
    (All-journals_from (λ j. j.arrivals ≡ brought t j.site (opened_with capacity t) all) 0 g.books
    (λ k b there.
    let place : k ≡ 0 + k = omega arith in
    subst (λ n. b.arrivals ≡ brought t n (opened_with capacity t) all) place (all_brought k capacity t g all b is (ap some_of there))))
run_brought capacity t all (Err fault) run is done = absurd cc

pub journals_are_visits : (capacity : ℕ) (t : Table) (all : List Step) (run : Run) → conducted_with capacity t all ≡ Ok run → All (λ j. j.arrivals ≡ brought t j.site (opened_with capacity t) all) run.journals
journals_are_visits capacity t all run done = run_brought capacity t all (conducted_from t (opened_with capacity t) 0 all) run refl done
