-- What holds of packets on their way and of the books of the sites: at first, after each step, and that it is a run.
use Rattle.std.proofs.Common.{◌≡◌, ◌+◌, ◌<◌, ℕ, zero, suc, nat_eq, List, [], ◌∷◌, length, map, Option, None, Some, refl, sym, ◌∙◌, ap, subst, subst₂, arith, get_or, option_map, position, slice_get, IfSome, IsPermutation, IsSome, Ok}
use Rattle.std.proofs.lemmas.Option.{none-some, same_Some}
use Rattle.std.specs.List.{Contains, list_any}
use Rattle.std.proofs.lemmas.Bool.{false≢true}
use Rattle.std.proofs.lemmas.List.Elements.{All-map, All-nil, All-weaker}
use Rattle.std.proofs.lemmas.List.FromFn.{length-map-range_with_len}
use Rattle.std.proofs.lemmas.List.Sorted.{IsPermutation-refl}
use Rattle.meter_book.specs.Replay.{Book, journal_rows, replay, rows_from, rows_of}
use Rattle.meter_book.specs.declared.standing.Standing.{Standing}
use Rattle.meter_fabric_base.specs.declared.site.Opening.{Opening}
use Rattle.ds_checker.specs.Acceptance.{Table}
use Rattle.meter_fabric_base.specs.Grounds.{ground_of}
use Rattle.meter_fabric_base.specs.Trails.{IsTrail}
use Rattle.meter_fabric_base.specs.Travels.{Traveller}
use Rattle.run_audit.specs.Runs.{AreJournals, IsPassage, IsRun, told}
use Rattle.meter_fabric_base.specs.Openings.{opening_at, site_count}
use Rattle.ds_runs.specs.Conducting.{AreWhole, passage_of, run_so_far}
use Rattle.ds_runs.specs.Steps.{Stage, book_at, numbers_of, opened_at, opened_with, some_of, stepped}
use Rattle.ds_runs.specs.OnTheWay.{IsOnItsWay, IsUnderWay, opened_by}
use Rattle.ds_runs.specs.declared.step.Step.{Step}
use Rattle.ds_runs.specs.declared.step.Step.TheVariants.{Send, Visit}
use Rattle.ds_runs.proofs.JournalLaws.{All-journals_from, AllPairs-journals_from, Contains-journals_from}
use Rattle.ds_runs.proofs.ListLaws.{AllPairs-map, some_of-some}
use Rattle.ds_runs.proofs.OpenedLaws.{no_rows, opened_book, opening_of-opened}
use Rattle.ds_runs.proofs.BeginningLaws.{sent_under_way}
use Rattle.ds_runs.proofs.VisitingLaws.{visited_under_way}

-- ---- at first

pub opened_under_way : (capacity : ℕ) (t : Table) → IsUnderWay t (opened_with capacity t)
opened_under_way capacity t = record {
  count = length-map-range_with_len (opened_at capacity t) 0 (site_count t);
  openings = λ site. ap (option_map (λ (b : Book). b.opening)) (opened_book capacity t site) ∙ opening_of-opened capacity (opening_at (ground_of t) site);
  travellers = All-nil (IsOnItsWay t);
  numbers = λ i j d first below. absurd (omega (arith, below));
  rows = λ site b there. rw (no_rows capacity (opening_at (ground_of t) site) b (sym (opened_book capacity t site) ∙ there)) (IsPermutation-refl []);
}

-- ---- after each step

pub stepped_under_way : (t : Table) (g h : Stage) (s : Step) → IsUnderWay t g → stepped t g s ≡ Ok h → IsUnderWay t h
unfolding stepped
stepped_under_way t g h (Send flow packet size dscp moment) way done =
    sent_under_way t g h (record { flow = flow; number = packet; size = size; dscp = dscp; begun = moment }) (list_any (nat_eq packet) (numbers_of g.travellers)) way refl done
stepped_under_way t g h (Visit packet moment) way done = visited_under_way t g h (position (nat_eq packet) (numbers_of g.travellers)) moment way done

-- ---- what is under way is a run

-- the meter and the skew with which a book was opened
abbrev opening_in : Book → Opening
opening_in b = record { meter = b.opening.meter; skew = b.opening.skew }

opens_by : (found : Option Opening) (s : Standing) → Some s ≡ option_map opened_by found
    → (found ≡ Some (record { meter = s.meter; skew = s.skew })) × (s.place ≡ 0)
opens_by None s is = absurd (none-some s (sym is))
opens_by (Some o) s is =
    let same = same_Some s (opened_by o) is in
    (ap (λ (r : Standing). Some (record { meter = r.meter; skew = r.skew })) (sym same), ap (λ (r : Standing). r.place) same)

module _ (t : Table) (g : Stage) (site : ℕ) (b : Book) (way : IsUnderWay t g) (there : book_at g site ≡ Some b) where
  opened_here : (opening_at (ground_of t) site ≡ Some (opening_in b)) × (b.opening.place ≡ 0)
  opened_here = opens_by (opening_at (ground_of t) site) b.opening (sym (ap (option_map (λ (c : Book). c.opening)) there) ∙ way.openings site)

  -- what opens a book opens its site
  opens : opening_at (ground_of t) site ≡ Some (opening_in b)
  opens = opened_here.0

  -- its rows are all rows that it gave
  rows_of-whole : rows_of b ≡ replay b.opening.meter b.arrivals
  rows_of-whole = ap (λ place. rows_from b.opening.meter place b.arrivals) opened_here.1

within : {X : Type 0} (xs : List X) (k : ℕ) (d : X) → k < length xs → slice_get xs k ≡ Some (get_or xs k d)
within [] k d below = absurd (omega (arith, below))
within (x ∷ xs) zero d below = refl
within (x ∷ xs) (suc k) d below = within xs k d (omega (arith, below))

-- nothing was cut off from any book
pub whole_under_way : (t : Table) (g : Stage) → IsUnderWay t g → AreWhole g.books
whole_under_way t g way k d below = by (get_or g.books k d) (ap some_of (within g.books k d below))
  where
    by : (found : Option Book) → book_at g k ≡ found → IfSome found (λ b. b.opening.place ≡ 0)
    by None there = tt
    by (Some b) there = (opened_here t g k b way there).1

-- a site where something stands has a book
pub book_there : (found : Option Book) (opening : Option Opening) → option_map (λ (b : Book). b.opening) found ≡ option_map opened_by opening → IsSome opening
    → (b : Book) × (found ≡ Some b)
book_there None None is there = absurd (false≢true there)
book_there None (Some o) is there = absurd (none-some (opened_by o) is)
book_there (Some b) opening is there = (b, refl)

journals_under_way : (t : Table) (g : Stage) → IsUnderWay t g → AreJournals (ground_of t) (run_so_far g).journals
journals_under_way t g way = record {
  own = All-journals_from (λ j. opening_at (ground_of t) j.site ≡ Some (record { meter = j.opening; skew = j.skew })) 0 g.books
      (λ k b there.
      let place : k ≡ 0 + k = omega arith in
      subst (λ n. opening_at (ground_of t) n ≡ Some (opening_in b)) place (opens t g k b way (ap some_of there)));
  once = AllPairs-journals_from 0 g.books;
  each = λ site there.
      let (b, found) = book_there (book_at g site) (opening_at (ground_of t) site) (way.openings site) there in
      let place : 0 + site ≡ site = omega arith in
      subst (Contains (map (λ j. j.site) (run_so_far g).journals)) place
      (Contains-journals_from 0 g.books site b (some_of-some (slice_get g.books site) b found));
}

passage_on_way : (t : Table) (p : Traveller) → IsOnItsWay t p → IsPassage (ground_of t) (passage_of p)
passage_on_way t p (c, is, came_is, hops_are, trail) =
    (c, is, subst₂ (λ colour hops. IsTrail p.packet p.packet.begun colour hops p.receipts) came_is hops_are trail)

pub run_under_way : (t : Table) (g : Stage) → IsUnderWay t g → IsRun (ground_of t) (run_so_far g)
run_under_way t g way = record {
  journals = journals_under_way t g way;
  passages = All-map (IsPassage (ground_of t)) passage_of g.travellers (All-weaker (IsOnItsWay t) (λ p. IsPassage (ground_of t) (passage_of p)) (passage_on_way t) g.travellers way.travellers);
  numbers = AllPairs-map (λ p q. ¬ (p.packet.number ≡ q.packet.number)) passage_of g.travellers way.numbers;
  rows = All-journals_from (λ j. IsPermutation (told j.site (map passage_of g.travellers)) (journal_rows j)) 0 g.books
      (λ k b there.
      let place : k ≡ 0 + k = omega arith in
      subst₂ (λ n rows. IsPermutation (told n (map passage_of g.travellers)) rows) place (rows_of-whole t g k b way (ap some_of there)) (way.rows k b (ap some_of there)));
}
