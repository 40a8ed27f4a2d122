-- Where packets are sound, their receipts are rows of the journals, none twice. So all rows are told exactly where there are as
-- many receipts as rows.
use Rattle.std.proofs.Common.{◌≡◌, ⊎_elim, ℕ, ◌+◌, ◌≤◌, suc, true, List, [], ◌∷◌, ◌++◌, map, length, get_or, refl, sym, ◌∙◌, ap, subst, arith, Some, nat_eq, slice_get, Contains, IsPermutation, AllPairs, filter, flat_map, sum_by}
use Rattle.std.proofs.lemmas.Bool.Decides.{nat_tests}
use Rattle.std.proofs.lemmas.List.{length-map, map-append}
use Rattle.std.proofs.lemmas.List.Concat.{length-flat_map}
use Rattle.std.proofs.lemmas.List.Elements.{All-contains, Contains-get_or, filter-append}
use Rattle.std.proofs.lemmas.List.Sorted.{Contains-permutation, IsPermutation-sym}
use Rattle.std.proofs.lemmas.List.Sums.{sum_by-cons}
use Rattle.std.proofs.lemmas.Option.{get_or_from_slice_get, slice_get_within}
use Rattle.moment_core.specs.declared.colour.Colour.{Colour}
use Rattle.meter_book.proofs.ReplayLaws.{length-rows_from}
use Rattle.meter_book_base.specs.AnyMeter.{after_any}
use Rattle.meter_book.specs.Replay.{Journal, journal_rows, offer_of, rows_from}
use Rattle.meter_book_base.specs.declared.any_meter.AnyMeter.{AnyMeter}
use Rattle.meter_book.specs.declared.row.Arrival.{Arrival}
use Rattle.meter_book.specs.declared.row.Row.{Row}
use Rattle.ds_domain_base.specs.Domains.{Domain}
use Rattle.ds_domain_base.specs.declared.terms.Terms.{Terms}
use Rattle.ds_domain_base.specs.declared.terms.Terms.TheVariants.{Trusted, Policed}
use Rattle.meter_fabric_base.specs.Grounds.{Ground}
use Rattle.meter_fabric_base.specs.Sites.{edge_hops, hops_along}
use Rattle.meter_fabric_base.specs.Trails.{IsTrail, Packet}
use Rattle.meter_fabric_base.specs.declared.hop.Hop.{Hop}
use Rattle.meter_fabric_base.specs.declared.trail.Receipt.{Receipt}
use Rattle.meter_fabric_base.specs.declared.trail.Trail.{Trail}
use Rattle.envelope_core.proofs.Windows.{sum_by-map}
use Rattle.run_audit.specs.Runs.{AreJournals, IsRun, Passage, Run, told}
use Rattle.run_audit.specs.Assembled.{passage_of, run_of}
use Rattle.run_audit.specs.Assembling.{AreSound, AreTold, IsNoted, IsSound}
use Rattle.run_audit.proofs.JournalLaws.{same_journal}
use Rattle.run_audit.proofs.MemberLaws.{AreAmong, AreApart, AreApart-filter, AreApart-flat, AreApart-map, front_or_rest, in_filter, in_flat, in_map, in_none, no_longer, of_filter, of_flat, of_map, shuffled}

-- ---- the receipts of a packet

abbrev own_row : Receipt → Row
own_row r = r.row

carried_by : (p : Packet) (since : ℕ) (came : Colour) (hops : List Hop) (rs : List Receipt) → IsTrail p since came hops rs → (r : Receipt) → Contains rs r → r.row.packet ≡ p.number
unfolding IsTrail
carried_by p since came hops [] trail r has = absurd (in_none r has)
carried_by p since came [] (x ∷ rs) trail r has = absurd trail
carried_by p since came (hop ∷ hops) (x ∷ rs) trail r has =
    ⊎_elim
    (λ same. ap (λ y. y.row.packet) (sym same) ∙ ap (λ a. a.packet) trail.0.arrival)
    (λ rest. carried_by p x.row.arrival x.row.left hops rs trail.1 r rest)
    (front_or_rest x r rs has)

hop_above : (p : Packet) (since : ℕ) (came : Colour) (d : Domain) (number : ℕ) (path : List (List ℕ)) (rs : List Receipt)
    → IsTrail p since came (hops_along d number path) rs → (r : Receipt) → Contains rs r → number ≤ r.row.hop
unfolding IsTrail hops_along
hop_above p since came d number path [] trail r has = absurd (in_none r has)
hop_above p since came d number [] (x ∷ rs) trail r has = absurd trail
hop_above p since came d number (name ∷ path) (x ∷ rs) trail r has =
    ⊎_elim
    (λ same. omega (arith, ap (λ y. y.row.hop) same, ap (λ a. a.hop) trail.0.arrival))
    (λ rest. omega (arith, hop_above p x.row.arrival x.row.left d (suc number) path rs trail.1 r rest))
    (front_or_rest x r rs has)

along_apart : (p : Packet) (since : ℕ) (came : Colour) (d : Domain) (number : ℕ) (path : List (List ℕ)) (rs : List Receipt)
    → IsTrail p since came (hops_along d number path) rs → AreApart own_row rs
unfolding IsTrail hops_along AreApart
along_apart p since came d number path [] trail = tt
along_apart p since came d number [] (x ∷ rs) trail = absurd trail
along_apart p since came d number (name ∷ path) (x ∷ rs) trail = (
  λ r has same. absurd (omega (arith, hop_above p x.row.arrival x.row.left d (suc number) path rs trail.1 r has, ap (λ y. y.hop) same, ap (λ a. a.hop) trail.0.arrival)),
  along_apart p x.row.arrival x.row.left d (suc number) path rs trail.1,
)

way_apart : (p : Packet) (since : ℕ) (came : Colour) (d : Domain) (flow : ℕ) (terms : Terms) (path : List (List ℕ)) (rs : List Receipt)
    → IsTrail p since came (edge_hops d flow terms ++ hops_along d 1 path) rs → AreApart own_row rs
unfolding IsTrail AreApart
way_apart p since came d flow (Trusted committed peak) path rs trail = along_apart p since came d 1 path rs trail
way_apart p since came d flow (Policed parameters mode) path [] trail = tt
way_apart p since came d flow (Policed parameters mode) path (x ∷ rs) trail = (
  λ r has same. absurd (omega (arith, hop_above p x.row.arrival x.row.left d 1 path rs trail.1 r has, ap (λ y. y.hop) same, ap (λ a. a.hop) trail.0.arrival)),
  along_apart p x.row.arrival x.row.left d 1 path rs trail.1,
)

-- ---- all receipts

abbrev pub receipts_in : List Passage → List Receipt
receipts_in passages = flat_map (λ p. p.receipts) passages

receipts_apart : (g : Ground) (journals : List Journal) (passages : List Passage) → AreSound g journals passages → AreApart own_row (receipts_in passages)
receipts_apart g journals passages sound =
    AreApart-flat own_row (λ (p : Passage). p.receipts) passages
    (λ p has.
    let (c, is, trail) = (All-contains (IsSound g journals) passages p sound.0 has).0 in
    way_apart p.packet p.packet.begun _ g.domain p.packet.flow c.terms c.path p.receipts trail)
    (λ i j d below within a b own other same.
    let p = get_or passages i d in
    let q = get_or passages j d in
    let (c, is_c, first) = (sound.0 i d (omega (arith, below, within))).0 in
    let (e, is_e, second) = (sound.0 j d within).0 in
    sound.1 i j d below within
    (sym (carried_by p.packet p.packet.begun _ _ p.receipts first a own) ∙ ap (λ r. r.packet) same ∙ carried_by q.packet q.packet.begun _ _ q.receipts second b other))

-- ---- all rows

abbrev receipt_from : ℕ → Row → Receipt
receipt_from site row = record { site = site; row = row }

abbrev rows_at : Journal → List Receipt
rows_at j = map (receipt_from j.site) (journal_rows j)

abbrev pub rows_in : List Journal → List Receipt
rows_in journals = flat_map rows_at journals

place_above : (m : AnyMeter) (place : ℕ) (arrivals : List Arrival) (r : Row) → Contains (rows_from m place arrivals) r → place ≤ r.place
place_above m place [] r has = absurd (in_none r has)
place_above m place (a ∷ as_) r has =
    ⊎_elim
    (λ same. omega (arith, ap (λ x. x.place) same))
    (λ rest. omega (arith, place_above (after_any m (offer_of a)) (place + 1) as_ r rest))
    (front_or_rest _ r (rows_from (after_any m (offer_of a)) (place + 1) as_) has)

rows_apart : (m : AnyMeter) (place : ℕ) (arrivals : List Arrival) → AreApart (λ (r : Row). r) (rows_from m place arrivals)
unfolding AreApart
rows_apart m place [] = tt
rows_apart m place (a ∷ as_) = (
  λ r has same. absurd (omega (arith, place_above (after_any m (offer_of a)) (place + 1) as_ r has, ap (λ x. x.place) same)),
  rows_apart (after_any m (offer_of a)) (place + 1) as_,
)

from_apart : (site : ℕ) (rows : List Row) → AreApart (λ (r : Row). r) rows → AreApart own_row (map (receipt_from site) rows)
unfolding AreApart
from_apart site [] apart = tt
from_apart site (x ∷ rows) apart = (
  λ r has same. let (y, found, is) = of_map (receipt_from site) rows r has in apart.0 y found (same ∙ ap own_row (sym is)),
  from_apart site rows apart.1,
)

abbrev itself : Receipt → Receipt
itself r = r

AreApart-itself : (rs : List Receipt) → AreApart own_row rs → AreApart itself rs
unfolding AreApart
AreApart-itself [] apart = tt
AreApart-itself (x ∷ rs) apart = (λ r has same. apart.0 r has (ap own_row same), AreApart-itself rs apart.1)

site_here : (j : Journal) (r : Receipt) → Contains (rows_at j) r → r.site ≡ j.site
site_here j r has = let (row, found, is) = of_map (receipt_from j.site) (journal_rows j) r has in ap (λ x. x.site) (sym is)

all_rows_apart : (journals : List Journal) → AllPairs (λ j k. ¬ (j.site ≡ k.site)) journals → AreApart itself (rows_in journals)
all_rows_apart journals once =
    AreApart-flat itself rows_at journals
    (λ j has. AreApart-itself (rows_at j) (from_apart j.site (journal_rows j) (rows_apart j.opening 0 j.arrivals)))
    (λ i k d below within a b own other same.
    once i k d below within (sym (site_here (get_or journals i d) a own) ∙ ap (λ x. x.site) same ∙ site_here (get_or journals k d) b other))

-- ---- receipts among rows

at_place : (rows : List Row) (place : ℕ) (row : Row) → slice_get rows place ≡ Some row → Contains rows row
at_place rows place row is = (place, slice_get_within rows place row is, get_or_from_slice_get rows place row row is)

receipts_noted : (g : Ground) (journals : List Journal) (passages : List Passage) → AreSound g journals passages
    → (r : Receipt) → Contains (receipts_in passages) r → IsNoted journals r
receipts_noted g journals passages sound r has =
    let (p, found, own) = of_flat (λ (p : Passage). p.receipts) passages r has in
    All-contains (IsNoted journals) p.receipts r (All-contains (IsSound g journals) passages p sound.0 found).1 own

receipts_among : (g : Ground) (journals : List Journal) (passages : List Passage) → AreSound g journals passages → AreAmong (receipts_in passages) (rows_in journals)
receipts_among g journals passages sound r has =
    let (j, found, same, is) = receipts_noted g journals passages sound r has in
    in_flat rows_at journals j r found
    (subst (λ site. Contains (rows_at j) (receipt_from site r.row)) same (in_map (receipt_from j.site) (journal_rows j) r.row (at_place (journal_rows j) r.row.place r.row is)))

-- ---- what is told of a site

abbrev from_site : ℕ → List Passage → List Receipt
from_site site passages = filter (λ r. nat_eq r.site site) (receipts_in passages)

told_of : (site : ℕ) (passages : List Passage) → told site passages ≡ map own_row (from_site site passages)
told_of site [] = refl
told_of site (p ∷ passages) =
    ap (λ rows. map own_row (filter (λ (r : Receipt). nat_eq r.site site) p.receipts) ++ rows) (told_of site passages)
    ∙ sym (map-append own_row (filter (λ (r : Receipt). nat_eq r.site site) p.receipts) (from_site site passages))
    ∙ ap (map own_row) (sym (filter-append (λ (r : Receipt). nat_eq r.site site) p.receipts (receipts_in passages)))

equal : (a b : ℕ) → a ≡ b → nat_eq a b ≡ true
equal a b same = grind (arith, nat_tests)

same_number : (a b : ℕ) → nat_eq a b ≡ true → a ≡ b
same_number a b passes = grind (arith, nat_tests)

-- where all rows are told, what is told of a site is its journal's rows
site_told : (g : Ground) (journals : List Journal) (passages : List Passage) → AllPairs (λ j k. ¬ (j.site ≡ k.site)) journals → AreSound g journals passages
    → AreAmong (rows_in journals) (receipts_in passages)
    → (j : Journal) → Contains journals j → IsPermutation (told j.site passages) (journal_rows j)
site_told g journals passages once sound whole j has =
    let here = from_site j.site passages in
    let tells : AreApart (λ (r : Row). r) (map own_row here) =
    AreApart-map own_row here (AreApart-filter own_row (λ (r : Receipt). nat_eq r.site j.site) (receipts_in passages) (receipts_apart g journals passages sound))
    in
    let noted : AreAmong (map own_row here) (journal_rows j) = λ row there.
    let (r, found, is) = of_map own_row here row there in
    let (inside, passes) = of_filter (λ (x : Receipt). nat_eq x.site j.site) (receipts_in passages) r found in
    let (k, has_k, same, stands) = receipts_noted g journals passages sound r inside in
    let one : k ≡ j = same_journal journals k j once has_k has (same ∙ same_number r.site j.site passes) in
    subst (Contains (journal_rows j)) is (subst (λ x. Contains (journal_rows x) r.row) one (at_place (journal_rows k) r.row.place r.row stands))
    in
    let back : AreAmong (journal_rows j) (map own_row here) = λ row there.
    in_map own_row here (receipt_from j.site row)
    (in_filter (λ (x : Receipt). nat_eq x.site j.site) (receipts_in passages) (receipt_from j.site row)
    (whole (receipt_from j.site row) (in_flat rows_at journals j (receipt_from j.site row) has (in_map (receipt_from j.site) (journal_rows j) row there)))
    (equal j.site j.site refl))
    in
    subst (λ rows. IsPermutation rows (journal_rows j)) (sym (told_of j.site passages))
    (shuffled (λ (r : Row). r) (map own_row here) (journal_rows j) tells noted (no_longer (λ (r : Row). r) (journal_rows j) (map own_row here) (rows_apart j.opening 0 j.arrivals) back))

-- where each journal's rows are told, all rows are
rows_told : (run : Run) → AreTold run → AreAmong (rows_in run.journals) (receipts_in run.passages)
rows_told run all r has =
    let (j, found, own) = of_flat rows_at run.journals r has in
    let (row, stands, is) = of_map (receipt_from j.site) (journal_rows j) r own in
    let tells = All-contains (λ (k : Journal). IsPermutation (told k.site run.passages) (journal_rows k)) run.journals j all found in
    let there : Contains (map own_row (from_site j.site run.passages)) row =
    subst (λ rows. Contains rows row) (told_of j.site run.passages)
    (Contains-permutation (journal_rows j) (told j.site run.passages) row (IsPermutation-sym (told j.site run.passages) (journal_rows j) tells) stands)
    in
    let (x, inside, same) = of_map own_row (from_site j.site run.passages) row there in
    let (carried, passes) = of_filter (λ (y : Receipt). nat_eq y.site j.site) (receipts_in run.passages) x inside in
    let whole : x ≡ r = ap (λ site. receipt_from site x.row) (same_number x.site j.site passes) ∙ ap (receipt_from j.site) same ∙ is in
    subst (Contains (receipts_in run.passages)) whole carried

told_exactly : (g : Ground) (run : Run) → AreJournals g run.journals → AreSound g run.journals run.passages
    → (length (receipts_in run.passages) ≡ length (rows_in run.journals) → AreTold run)
    × (AreTold run → length (receipts_in run.passages) ≡ length (rows_in run.journals))
told_exactly g run good sound =
    let receipts = receipts_in run.passages in
    let rows = rows_in run.journals in
    let apart = receipts_apart g run.journals run.passages sound in
    let among = receipts_among g run.journals run.passages sound in (
      λ as_many k d within.
          let moved = shuffled own_row receipts rows apart among (omega (arith, as_many)) in
          site_told g run.journals run.passages good.once sound (λ r has. Contains-permutation rows receipts r (IsPermutation-sym receipts rows moved) has)
          (get_or run.journals k d) (Contains-get_or run.journals k d within),
      λ all.
          let few = no_longer own_row receipts rows apart among in
          let many = no_longer itself rows receipts (all_rows_apart run.journals good.once) (rows_told run all) in
          omega (arith, few, many),
    )

-- ---- how many there are

sum_same : {X : Type 0} (f g : X → ℕ) (xs : List X) → ((x : X) → f x ≡ g x) → sum_by f xs ≡ sum_by g xs
sum_same f g [] same = refl
sum_same f g (x ∷ xs) same = sum_by-cons f x xs ∙ ap (λ n. n + sum_by f xs) (same x) ∙ ap (λ n. g x + n) (sum_same f g xs same) ∙ sym (sum_by-cons g x xs)

count_rows : (journals : List Journal) → length (rows_in journals) ≡ sum_by (λ j. length j.arrivals) journals
count_rows journals =
    length-flat_map rows_at journals
    ∙ sum_same (λ (j : Journal). length (rows_at j)) (λ (j : Journal). length j.arrivals) journals
    (λ j. length-map (journal_rows j) (receipt_from j.site) ∙ length-rows_from j.opening 0 j.arrivals)

count_receipts : (passages : List Passage) → length (receipts_in passages) ≡ sum_by (λ p. length p.receipts) passages
count_receipts passages = length-flat_map (λ (p : Passage). p.receipts) passages

counted : (g : Ground) (journals : List Journal) (trails : List Trail) (rows receipts : ℕ) → rows ≡ sum_by (λ j. length j.arrivals) journals
    → receipts ≡ sum_by (λ trail. length trail.receipts.items) trails
    → (length (rows_in journals) ≡ rows) × (length (receipts_in (map passage_of trails)) ≡ receipts)
counted g journals trails rows receipts is_rows is_receipts = (
  count_rows journals ∙ sym is_rows,
  omega (arith, count_receipts (map passage_of trails), sum_by-map (λ (p : Passage). length p.receipts) passage_of trails, is_receipts),
)

-- as many receipts as rows make a run
pub run_counted : (g : Ground) (journals : List Journal) (trails : List Trail) (rows receipts : ℕ) → AreJournals g journals → AreSound g journals (map passage_of trails)
    → rows ≡ sum_by (λ j. length j.arrivals) journals → receipts ≡ sum_by (λ trail. length trail.receipts.items) trails → rows ≡ receipts
    → IsRun g (run_of journals trails)
run_counted g journals trails rows receipts good sound is_rows is_receipts same =
    let both = counted g journals trails rows receipts is_rows is_receipts in
    record {
      journals = good;
      passages = λ k d within. (sound.0 k d within).0;
      numbers = sound.1;
      rows = (told_exactly g (run_of journals trails) good sound).0 (both.1 ∙ sym same ∙ sym both.0);
    }

pub untold_counted : (g : Ground) (journals : List Journal) (trails : List Trail) (rows receipts : ℕ) → AreJournals g journals → AreSound g journals (map passage_of trails)
    → rows ≡ sum_by (λ j. length j.arrivals) journals → receipts ≡ sum_by (λ trail. length trail.receipts.items) trails → ¬ (rows ≡ receipts)
    → ¬ AreTold (run_of journals trails)
untold_counted g journals trails rows receipts good sound is_rows is_receipts other all =
    let both = counted g journals trails rows receipts is_rows is_receipts in
    other (sym both.0 ∙ sym ((told_exactly g (run_of journals trails) good sound).1 all) ∙ both.1)
