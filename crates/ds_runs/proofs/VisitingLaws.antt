-- What a visit makes of the packets on their way and of the books.
use Rattle.std.proofs.Common.{◌≡◌, ◌≤◌, ℕ, Bool, true, false, cond, List, [], ◌∷◌, ◌++◌, map, Option, None, Some, refl, sym, ◌∙◌, ap, subst, append-nil, length-set, arith, nat_eq, nat_lt, option_map, slice_get, slice_set, IsPermutation, Ok, Err, if◌then◌else◌, All, filter}
use Rattle.std.proofs.lemmas.Bool.Decides.{nat_tests}
use Rattle.std.proofs.lemmas.List.{map-append, map-set}
use Rattle.std.proofs.lemmas.List.Elements.{All-set, filter-append}
use Rattle.std.proofs.lemmas.List.Sorted.{IsPermutation-append_left, IsPermutation-trans}
use Rattle.std.proofs.lemmas.Option.{same_Some, slice_get-map, slice_get_within, get_or_from_slice_get}
use Rattle.std.proofs.lemmas.Simd.{map-map}
use Rattle.meter_book.specs.Replay.{Book, next_row, note_fault, noted, rows_of, unless}
use Rattle.meter_book.specs.declared.book.NoteFault.{NoteFault}
use Rattle.meter_book.specs.declared.row.Arrival.{Arrival}
use Rattle.meter_book.specs.declared.row.Row.{Row}
use Rattle.meter_book.specs.declared.standing.Standing.{Standing}
use Rattle.meter_book.proofs.ReplayLaws.{rows_from-push}
use Rattle.ds_checker.specs.Acceptance.{Table}
use Rattle.meter_fabric_base.specs.Grounds.{ground_of}
use Rattle.meter_fabric_base.specs.Trails.{Packet, arrival_at}
use Rattle.meter_fabric_base.specs.Travels.{Traveller, comes_as, last_moment, keeping, next_hop, received, visit_at}
use Rattle.meter_fabric_base.specs.declared.fault.VisitFault.TheVariants.{BeforeLast}
use Rattle.meter_fabric_base.specs.declared.hop.Hop.{Hop}
use Rattle.meter_fabric_base.specs.declared.trail.Receipt.{Receipt}
use Rattle.meter_fabric_base.proofs.TrailLaws.{trail_of-received}
use Rattle.run_audit.specs.Runs.{told, told_by}
use Rattle.meter_fabric_base.specs.Openings.{opening_at}
use Rattle.ds_runs.specs.Conducting.{passage_of}
use Rattle.ds_runs.specs.Steps.{Stage, as_step, book_at, numbers_of, put_back, some_of, visit_there, visited_at, visited_by, visited_from, with_books}
use Rattle.ds_runs.specs.OnTheWay.{IsOnItsWay, IsUnderWay, opened_by}
use Rattle.ds_runs.proofs.ListLaws.{AllPairs-set, flat_map-set_more, flat_map-set_same, map-set_same, same_Ok, set_here, set_there, some_of-some}

-- the packets of travellers
abbrev pub packets_in : List Traveller → List Packet
packets_in ts = map (λ t. t.packet) ts

-- ---- one receipt more, and one row

abbrev rows_at : ℕ → List Receipt → List Row
rows_at site receipts = map (λ r. r.row) (filter (λ r. nat_eq r.site site) receipts)

rows_at-push : (site : ℕ) (receipts : List Receipt) (r : Receipt)
    → rows_at site (receipts ++ r ∷ []) ≡ rows_at site receipts ++ map (λ (x : Receipt). x.row) (cond (nat_eq r.site site) (r ∷ []) [])
rows_at-push site receipts r =
    let test : Receipt → Bool = λ x. nat_eq x.site site in
    ap (map (λ (x : Receipt). x.row)) (filter-append test receipts (r ∷ [])) ∙ map-append (λ (x : Receipt). x.row) (filter test receipts) (filter test (r ∷ []))

rows_at-here : (site : ℕ) (receipts : List Receipt) (r : Receipt) → nat_eq r.site site ≡ true → rows_at site (receipts ++ r ∷ []) ≡ rows_at site receipts ++ r.row ∷ []
rows_at-here site receipts r here =
    rows_at-push site receipts r ∙ ap (λ b. rows_at site receipts ++ map (λ (x : Receipt). x.row) (cond b (r ∷ []) [])) here

rows_at-elsewhere : (site : ℕ) (receipts : List Receipt) (r : Receipt) → nat_eq r.site site ≡ false → rows_at site (receipts ++ r ∷ []) ≡ rows_at site receipts
rows_at-elsewhere site receipts r other =
    rows_at-push site receipts r ∙ ap (λ b. rows_at site receipts ++ map (λ (x : Receipt). x.row) (cond b (r ∷ []) [])) other ∙ append-nil (rows_at site receipts)

rows_of-noted : (b : Book) (a : Arrival) → rows_of (noted b a) ≡ rows_of b ++ next_row b a ∷ []
rows_of-noted b a = rows_from-push b.opening.meter b.opening.place b.arrivals a

-- ---- a visit

-- the packet of a place comes to its next hop, where there is a book, and not before its last moment
pub record Visits (g : Stage) (place : ℕ) (p : Traveller) (hop : Hop) (b : Book) (moment : ℕ) : Type 0 where
  pub packet : slice_get g.travellers place ≡ Some p
  pub next : next_hop p ≡ Some hop
  pub book : book_at g hop.site ≡ Some b
  pub in_time : last_moment p ≤ moment

-- its arrival there
abbrev pub coming : Traveller → Hop → ℕ → Arrival
coming p hop moment = arrival_at p.packet hop moment (comes_as p)

abbrev pub behind : Traveller → Hop → Book → ℕ → Traveller
behind p hop b moment = received p hop (next_row b (coming p hop moment))

abbrev pub stage_behind : Stage → ℕ → Traveller → Hop → Book → ℕ → Stage
stage_behind g place p hop b moment = record {
  travellers = slice_set g.travellers place (behind p hop b moment);
  books = slice_set g.books hop.site (Some (noted b (coming p hop moment)));
}

-- what holds of all holds of the one of a place
pub at_place : {X : Type 0} (P : X → Type 0) (xs : List X) (place : ℕ) (x : X) → All P xs → slice_get xs place ≡ Some x → P x
at_place P xs place x all there = subst P (get_or_from_slice_get xs place x x there) (all place x (slice_get_within xs place x there))

stays_on_its_way : (t : Table) (g : Stage) (place : ℕ) (p : Traveller) (hop : Hop) (b : Book) (moment : ℕ) → Visits g place p hop b moment
    → IsOnItsWay t p → IsOnItsWay t (behind p hop b moment)
stays_on_its_way t g place p hop b moment visits (c, is, came_is, hops_are, trail) =
    (c, is, came_is, hops_are, trail_of-received p hop (next_row b (coming p hop moment)) trail visits.next (record { site = refl; arrival = refl; in_time = visits.in_time }))

pub book_here : (g : Stage) (place : ℕ) (p : Traveller) (hop : Hop) (b : Book) (moment : ℕ) → Visits g place p hop b moment
    → book_at (stage_behind g place p hop b moment) hop.site ≡ Some (noted b (coming p hop moment))
book_here g place p hop b moment visits =
    ap some_of (set_here g.books hop.site (Some b) (Some (noted b (coming p hop moment))) (some_of-some (slice_get g.books hop.site) b visits.book))

pub same_site : (m n : ℕ) → nat_eq m n ≡ true → m ≡ n
same_site m n test = grind (arith, nat_tests)

pub book_elsewhere : (g : Stage) (place : ℕ) (p : Traveller) (hop : Hop) (b : Book) (moment site : ℕ) → nat_eq hop.site site ≡ false
    → book_at (stage_behind g place p hop b moment) site ≡ book_at g site
book_elsewhere g place p hop b moment site other =
    ap some_of (set_there g.books hop.site site (Some (noted b (coming p hop moment))) other)

abbrev opening_in : Book → Standing
opening_in b = b.opening

openings_by : (t : Table) (g : Stage) (place : ℕ) (p : Traveller) (hop : Hop) (b : Book) (moment site : ℕ) (here : Bool) → IsUnderWay t g → Visits g place p hop b moment
    → nat_eq hop.site site ≡ here → option_map opening_in (book_at (stage_behind g place p hop b moment) site) ≡ option_map opened_by (opening_at (ground_of t) site)
openings_by t g place p hop b moment site true way visits test =
    subst (λ n. option_map opening_in (book_at (stage_behind g place p hop b moment) n) ≡ option_map opened_by (opening_at (ground_of t) n)) (same_site hop.site site test)
    (ap (option_map opening_in) (book_here g place p hop b moment visits) ∙ sym (ap (option_map opening_in) visits.book) ∙ way.openings hop.site)
openings_by t g place p hop b moment site false way visits test =
    ap (option_map opening_in) (book_elsewhere g place p hop b moment site test) ∙ way.openings site

-- ---- what the packets tell behind it

passage_at : (g : Stage) (place : ℕ) (p : Traveller) → slice_get g.travellers place ≡ Some p → slice_get (map passage_of g.travellers) place ≡ Some (passage_of p)
passage_at g place p there = slice_get-map passage_of g.travellers place ∙ ap (option_map passage_of) there

told_here : (g : Stage) (place : ℕ) (p q : Traveller) (site : ℕ) (row : Row) → slice_get g.travellers place ≡ Some p
    → told_by site (passage_of q) ≡ told_by site (passage_of p) ++ row ∷ []
    → IsPermutation (told site (map passage_of (slice_set g.travellers place q))) (told site (map passage_of g.travellers) ++ row ∷ [])
told_here g place p q site row there more =
    subst (λ ps. IsPermutation (told site ps) (told site (map passage_of g.travellers) ++ row ∷ [])) (sym (map-set passage_of g.travellers place q))
    (flat_map-set_more (told_by site) (map passage_of g.travellers) place (passage_of p) (passage_of q) row (passage_at g place p there) more)

told_elsewhere : (g : Stage) (place : ℕ) (p q : Traveller) (site : ℕ) → slice_get g.travellers place ≡ Some p
    → told_by site (passage_of q) ≡ told_by site (passage_of p)
    → told site (map passage_of (slice_set g.travellers place q)) ≡ told site (map passage_of g.travellers)
told_elsewhere g place p q site there same =
    ap (told site) (map-set passage_of g.travellers place q)
    ∙ flat_map-set_same (told_by site) (map passage_of g.travellers) place (passage_of p) (passage_of q) (passage_at g place p there) same

rows_by : (t : Table) (g : Stage) (place : ℕ) (p : Traveller) (hop : Hop) (b : Book) (moment site : ℕ) (here : Bool) (found : Book) → IsUnderWay t g → Visits g place p hop b moment
    → nat_eq hop.site site ≡ here → book_at (stage_behind g place p hop b moment) site ≡ Some found
    → IsPermutation (told site (map passage_of (stage_behind g place p hop b moment).travellers)) (rows_of found)
rows_by t g place p hop b moment site true found way visits test there =
    let same = same_site hop.site site test in
    let row = next_row b (coming p hop moment) in
    let before = told site (map passage_of g.travellers) in
    let after = told site (map passage_of (stage_behind g place p hop b moment).travellers) in
    let is_found : noted b (coming p hop moment) ≡ found =
    same_Some (noted b (coming p hop moment)) found (sym (book_here g place p hop b moment visits) ∙ ap (book_at (stage_behind g place p hop b moment)) same ∙ there)
    in
    let was : IsPermutation before (rows_of b) = way.rows site b (ap (book_at g) (sym same) ∙ visits.book) in
    let more : IsPermutation after (before ++ row ∷ []) =
    told_here g place p (behind p hop b moment) site row visits.packet (rows_at-here site p.receipts (record { site = hop.site; row = row }) test)
    in
    let both : IsPermutation after (rows_of b ++ row ∷ []) =
    IsPermutation-trans after (before ++ row ∷ []) (rows_of b ++ row ∷ []) more (IsPermutation-append_left (row ∷ []) before (rows_of b) was)
    in
    subst (IsPermutation after) (sym (rows_of-noted b (coming p hop moment)) ∙ ap rows_of is_found) both
rows_by t g place p hop b moment site false found way visits test there =
    let row = next_row b (coming p hop moment) in
    subst (λ rows. IsPermutation rows (rows_of found))
    (sym (told_elsewhere g place p (behind p hop b moment) site visits.packet (rows_at-elsewhere site p.receipts (record { site = hop.site; row = row }) test)))
    (way.rows site found (sym (book_elsewhere g place p hop b moment site test) ∙ there))

visits_under_way : (t : Table) (g : Stage) (place : ℕ) (p : Traveller) (hop : Hop) (b : Book) (moment : ℕ) → IsUnderWay t g → Visits g place p hop b moment
    → IsUnderWay t (stage_behind g place p hop b moment)
visits_under_way t g place p hop b moment way visits = record {
  count = length-set g.books hop.site (Some (noted b (coming p hop moment))) ∙ way.count;
  openings = λ site. openings_by t g place p hop b moment site (nat_eq hop.site site) way visits refl;
  travellers = All-set (IsOnItsWay t) g.travellers place (behind p hop b moment)
      (stays_on_its_way t g place p hop b moment visits (at_place (IsOnItsWay t) g.travellers place p way.travellers visits.packet)) way.travellers;
  numbers = AllPairs-set (λ m n. ¬ (m ≡ n)) (λ q. q.packet.number) g.travellers place p (behind p hop b moment) visits.packet refl way.numbers;
  rows = λ site found. rows_by t g place p hop b moment site (nat_eq hop.site site) found way visits refl;
}

-- ---- a visit that is made

in_time : (moment last : ℕ) → nat_lt moment last ≡ false → last ≤ moment
in_time moment last test = grind (arith, nat_tests)

-- the packet of a place visited the book of its next site
pub record IsVisited (g h : Stage) (place moment : ℕ) : Type 0 where
  pub packet : Traveller
  pub hop : Hop
  pub book : Book
  pub visits : Visits g place packet hop book moment
  pub made : stage_behind g place packet hop book moment ≡ h

module _ (g h : Stage) (place moment : ℕ) where
  visited_test : (p : Traveller) (hop : Hop) (b : Book) (early : Bool) (against : Option NoteFault) → slice_get g.travellers place ≡ Some p → next_hop p ≡ Some hop → book_at g hop.site ≡ Some b
      → nat_lt moment (last_moment p) ≡ early
      → put_back g place (with_books g.books hop.site
      (as_step (if early then Err BeforeLast else keeping p hop (unless against (next_row b (coming p hop moment), noted b (coming p hop moment)))))) ≡ Ok h
      → IsVisited g h place moment
  visited_test p hop b true against packet next book test done = absurd cc
  visited_test p hop b false (Some fault) packet next book test done = absurd cc
  visited_test p hop b false None packet next book test done = record {
    packet = p;
    hop = hop;
    book = b;
    visits = record { packet = packet; next = next; book = book; in_time = in_time moment (last_moment p) test };
    made = same_Ok (stage_behind g place p hop b moment) h done;
  }

  visited_book : (p : Traveller) (hop : Hop) (found : Option Book) → slice_get g.travellers place ≡ Some p → next_hop p ≡ Some hop → book_at g hop.site ≡ found
      → put_back g place (with_books g.books hop.site (visit_there p found moment)) ≡ Ok h → IsVisited g h place moment
  visited_book p hop None packet next book done = absurd cc
  visited_book p hop (Some b) packet next book done =
      visited_test p hop b (nat_lt moment (last_moment p)) (note_fault b moment) packet next book refl
      (subst (λ n. put_back g place (with_books g.books hop.site (as_step (visit_at n p b moment))) ≡ Ok h) next done)

  visited_hop : (p : Traveller) (found : Option Hop) → slice_get g.travellers place ≡ Some p → next_hop p ≡ found
      → put_back g place (visited_at p g.books moment (option_map (λ hop. hop.site) found)) ≡ Ok h → IsVisited g h place moment
  visited_hop p None packet next done = absurd cc
  visited_hop p (Some hop) packet next done = visited_book p hop (book_at g hop.site) packet next refl done

  visited_packet : (found : Option Traveller) → slice_get g.travellers place ≡ found → visited_by g moment place found ≡ Ok h → IsVisited g h place moment
  visited_packet None packet done = absurd cc
  visited_packet (Some p) packet done = visited_hop p (next_hop p) packet refl done

  pub is_visited : visited_by g moment place (slice_get g.travellers place) ≡ Ok h → IsVisited g h place moment
  is_visited done = visited_packet (slice_get g.travellers place) refl done

  -- no packet changes by it
  pub packets_visited : visited_by g moment place (slice_get g.travellers place) ≡ Ok h → packets_in h.travellers ≡ packets_in g.travellers
  packets_visited done =
      let v = is_visited done in
      ap (λ (s : Stage). packets_in s.travellers) (sym v.made)
      ∙ map-set_same (λ (u : Traveller). u.packet) g.travellers place v.packet (behind v.packet v.hop v.book moment) v.visits.packet refl

  pub numbers_visited : visited_by g moment place (slice_get g.travellers place) ≡ Ok h → numbers_of h.travellers ≡ numbers_of g.travellers
  numbers_visited done =
      sym (map-map (λ (p : Packet). p.number) (λ (t : Traveller). t.packet) h.travellers)
      ∙ ap (map (λ p. p.number)) (packets_visited done)
      ∙ map-map (λ (p : Packet). p.number) (λ (t : Traveller). t.packet) g.travellers

-- the packet of a place comes to its next site
pub visited_under_way : (t : Table) (g h : Stage) (found : Option ℕ) (moment : ℕ) → IsUnderWay t g → visited_from g moment found ≡ Ok h → IsUnderWay t h
visited_under_way t g h None moment way done = absurd cc
visited_under_way t g h (Some place) moment way done =
    let v = is_visited g h place moment done in
    subst (IsUnderWay t) v.made (visits_under_way t g place v.packet v.hop v.book moment way v.visits)
