-- The journals of sites, one by one.
use Rattle.std.proofs.Common.{◌≡◌, ◌+◌, ℕ, zero, suc, ◌<◌, ◌≤◌, List, [], ◌∷◌, ◌++◌, length, drop, set, get_or, Option, None, Some, ◌⊎◌, inl, inr, refl, sym, ap, subst, ◌∙◌, append-nil, append_assoc, arith, All, option_to_list, slice_get, IsSomeAnd, sum_by}
use Rattle.std.proofs.lemmas.List.Sums.{sum_by-cons}
use Rattle.std.proofs.lemmas.Option.{slice_get_past, slice_get_read, slice_get_within}
use Rattle.meter_book.specs.Chapters.{AreChapters, Chapter, joined}
use Rattle.meter_book.specs.Gathering.{last_part, of_site, parts_of}
use Rattle.meter_book.specs.Replay.{Book, Journal}
use Rattle.meter_book.specs.declared.row.Arrival.{Arrival}
use Rattle.meter_book.proofs.GatheringLaws.{length-joined}
use Rattle.meter_fabric.specs.Closing.{AreEven, AreThere, HaveMeters, IsJoined, IsThere, RiseFrom, journals_from, rows_at, rows_in}
use Rattle.meter_fabric.specs.Fabrics.{Fabric, StandFrom, book_at, places_of, visits_at}
use Rattle.meter_fabric.specs.Gathered.{AreGathered, HasAll, HaveAll, IsGathered, IsJournalOf}
use Rattle.meter_fabric.proofs.TailLaws.{EachOf, each_of}

-- ---- lists

module _ {X : Type 0} where
  -- what is read behind a list with one more
  snoc_get : (xs : List X) (y : X) (i : ℕ) (x : X) → slice_get (xs ++ y ∷ []) i ≡ Some x → (slice_get xs i ≡ Some x) ⊎ ((i ≡ length xs) × (y ≡ x))
  snoc_get [] y zero x is = inr (refl, cc)
  snoc_get [] y (suc i) x is = absurd cc
  snoc_get (z ∷ xs) y zero x is = inl is
  snoc_get (z ∷ xs) y (suc i) x is = elim (snoc_get xs y i x is) [
    | inl here ↦ inl here
    | inr last ↦ inr (ap suc last.0, last.1)
  ]

  pub head_at : (xs : List X) (n : ℕ) (x : X) (rest : List X) → drop n xs ≡ x ∷ rest → slice_get xs n ≡ Some x
  head_at [] zero x rest is = absurd cc
  head_at (y ∷ xs) zero x rest is = let same : y ≡ x = cc in ap (λ z. Some z) same
  head_at [] (suc n) x rest is = absurd cc
  head_at (y ∷ xs) (suc n) x rest is = head_at xs n x rest is

  rest_behind : (xs : List X) (n : ℕ) (x : X) (rest : List X) → drop n xs ≡ x ∷ rest → drop (suc n) xs ≡ rest
  rest_behind [] zero x rest is = absurd cc
  rest_behind (y ∷ xs) zero x rest is = cc
  rest_behind [] (suc n) x rest is = absurd cc
  rest_behind (y ∷ xs) (suc n) x rest is = rest_behind xs n x rest is

  pub rest_at : (xs : List X) (n next : ℕ) (x : X) (rest : List X) → next ≡ n + 1 → drop n xs ≡ x ∷ rest → rest ≡ drop next xs
  rest_at xs n next x rest on is = let same : suc n ≡ next = omega (arith, on) in sym (rest_behind xs n x rest is) ∙ ap (λ k. drop k xs) same

  pub get_past_set : (xs : List X) (i : ℕ) (y : X) (j : ℕ) → i < j → slice_get (set xs i y) j ≡ slice_get xs j
  get_past_set [] i y j past = refl
  get_past_set (x ∷ xs) zero y zero past = absurd (omega (arith, past))
  get_past_set (x ∷ xs) zero y (suc j) past = refl
  get_past_set (x ∷ xs) (suc i) y zero past = absurd (omega (arith, past))
  get_past_set (x ∷ xs) (suc i) y (suc j) past = get_past_set xs i y j (omega (arith, past))

-- ---- gathering, site by site

module _ (all : List Chapter) (books : List (Option Book)) (done new : List (Option Journal)) (site : ℕ) (b : Option Book) (j : Option Journal) where
  pub gathered_more :
      ((s : ℕ) (c : Option Book) (k : Option Journal) → slice_get books s ≡ Some c → slice_get done s ≡ Some k → IsGathered (of_site s all) s c k)
      → site ≡ length done → slice_get books site ≡ Some b → new ≡ done ++ j ∷ [] → IsGathered (of_site site all) site b j
      → (s : ℕ) (c : Option Book) (k : Option Journal) → slice_get books s ≡ Some c → slice_get new s ≡ Some k → IsGathered (of_site s all) s c k
  gathered_more so_far count book pushed own s c k there found =
      elim (snoc_get done j s k (ap (λ js. slice_get js s) (sym pushed) ∙ found)) [
        | inl before ↦ so_far s c k there before
        | inr last ↦
            let same : site ≡ s = count ∙ sym last.0 in
            let is : b ≡ c = let e : Some b ≡ Some c = sym book ∙ ap (slice_get books) same ∙ there in cc in
            let at : IsGathered (of_site s all) s b j = subst (λ i. IsGathered (of_site i all) i b j) same own in
            subst (λ d. IsGathered (of_site s all) s d k) is (subst (λ f. IsGathered (of_site s all) s b f) last.1 at)
      ]

-- what is gathered and there has all rows
has_all : (own : List Chapter) (site : ℕ) (b : Option Book) (j : Option Journal) → IsJoined own site b → IsGathered own site b j → HasAll b j
has_all own site None j there is = tt
has_all own site (Some b) None there is = subst (λ (o : List Chapter). AreChapters (o ++ last_part site b ∷ [])) is there 0
has_all own site (Some b) (Some j) there is = tt

pub have_all : (all : List Chapter) (books : List (Option Book)) (journals : List (Option Journal)) → AreThere books all → AreGathered all books journals → HaveAll books journals
have_all all books journals there is = record {
  each = λ site b j at found. has_all (of_site site all) site b j (subst (λ c. IsThere all site c) (read books site b at) (there site)) (is.each site b j at found);
  count = is.count;
}
  where
    read : (books : List (Option Book)) (site : ℕ) (b : Option Book) → slice_get books site ≡ Some b → book_at books site ≡ b
    read [] site b at = absurd cc
    read (c ∷ books) zero b at = cc
    read (c ∷ books) (suc site) b at = read books site b at

-- ---- journals, book by book

-- the journal of a book
own_journal : (own : List Chapter) (site : ℕ) (b : Book) (found : Option Journal) (j : Journal) → IsGathered own site (Some b) found → IsJournalOf site b found j
    → option_to_list (joined (own ++ last_part site b ∷ [])) ≡ j ∷ []
own_journal own site b None j none is =
    ap (λ (o : List Chapter). option_to_list (joined (o ++ last_part site b ∷ []))) none
    ∙ ap (λ as_. journal_with as_ ∷ []) (append-nil b.arrivals) ∙ ap (λ (k : Journal). k ∷ []) (sym is)
  where
    journal_with : List Arrival → Journal
    journal_with as_ = record { site = site; opening = b.opening.meter; skew = b.opening.skew; arrivals = as_ }
own_journal own site b (Some k) j found is = ap option_to_list found ∙ ap (λ (k : Journal). k ∷ []) (sym is)

module _ (all : List Chapter) (done whole : List Journal) (left rest : List (Option Book)) (site next : ℕ) where
  pub journals_more : (new : List Journal) (j : Journal) (b : Book) (found : Option Journal) → done ++ journals_from site all left ≡ whole → left ≡ Some b ∷ rest → next ≡ site + 1
      → IsGathered (of_site site all) site (Some b) found → IsJournalOf site b found j → new ≡ done ++ j ∷ [] → new ++ journals_from next all rest ≡ whole
  journals_more new j b found total is on gathered own pushed =
      let same : next ≡ suc site = omega (arith, on) in
      let here : option_to_list (joined (parts_of all site b)) ≡ j ∷ [] = own_journal (of_site site all) site b found j gathered own in
      ap (λ js. js ++ journals_from next all rest) pushed
      ∙ append_assoc done (j ∷ []) (journals_from next all rest)
      ∙ ap (λ n. done ++ ((j ∷ []) ++ journals_from n all rest)) same
      ∙ ap (λ js. done ++ (js ++ journals_from (suc site) all rest)) (sym here)
      ∙ ap (λ bs. done ++ journals_from site all bs) (sym is) ∙ total

  pub journals_past : done ++ journals_from site all left ≡ whole → left ≡ None ∷ rest → next ≡ site + 1 → done ++ journals_from next all rest ≡ whole
  journals_past total is on =
      let same : next ≡ suc site = omega (arith, on) in
      ap (λ n. done ++ journals_from n all rest) same ∙ ap (λ bs. done ++ journals_from site all bs) (sym is) ∙ total

-- what was gathered at the site of the first book that is left
module _ (books : List (Option Book)) (gathered now : List (Option Journal)) (b : Option Book) (found : Option Journal) (rest : List (Option Book)) (site : ℕ) where
  pub left_there : ((s : ℕ) → site ≤ s → slice_get now s ≡ slice_get gathered s) → site < length now → found ≡ get_or now site found → slice_get gathered site ≡ Some found
  left_there left below is = sym (left site (omega arith)) ∙ slice_get_read now (length now) site found refl below is

  pub left_more : (next : ℕ) (taken : Option Journal) → next ≡ site + 1 → ((s : ℕ) → site ≤ s → slice_get now s ≡ slice_get gathered s)
      → (s : ℕ) → next ≤ s → slice_get (set now site taken) s ≡ slice_get gathered s
  left_more next taken on left s past = get_past_set now site taken s (omega (arith, on, past)) ∙ left s (omega (arith, on, past))

-- ---- how long they are

-- each journal is as long as a function of its site says
abbrev Long : (ℕ → ℕ) → Journal → Type 0
Long visits j = length j.arrivals ≡ visits j.site

all_front : (P : Journal → Type 0) (j : Journal) (js : List Journal) → P j → All P js → All P (j ∷ js)
all_front P j js here there zero d below = here
all_front P j js here there (suc k) d below = there k d (omega (arith, below))

-- one that joins chapters of a site
found_long : (visits : ℕ → ℕ) (site : ℕ) (found : Option Journal) (js : List Journal) → ((j : Journal) → found ≡ Some j → Long visits j) → All (Long visits) js → All (Long visits) (option_to_list found ++ js)
found_long visits site None js own there = there
found_long visits site (Some j) js own there = all_front (Long visits) j js (own j refl) there

site_joined : (site : ℕ) (own : List Chapter) (b : Book) (j : Journal) → EachOf site own → joined (own ++ last_part site b ∷ []) ≡ Some j → j.site ≡ site
site_joined site [] b j each is = ap (λ (found : Option Journal). site_in found) (sym is)
  where
    site_in : Option Journal → ℕ
    site_in None = site
    site_in (Some k) = k.site
site_joined site (c ∷ more) b j each is = ap (λ (found : Option Journal). site_in found) (sym is) ∙ each.0
  where
    site_in : Option Journal → ℕ
    site_in None = site
    site_in (Some k) = k.site

long_from : (visits : ℕ → ℕ) (all : List Chapter) (site : ℕ) (books : List (Option Book)) → ((i : ℕ) → IsThere all (site + i) (book_at books i))
    → ((i : ℕ) → i < length books → places_of (book_at books i) ≡ visits (site + i)) → All (Long visits) (journals_from site all books)
long_from visits all site [] there even = λ k d below. absurd (omega (arith, below))
long_from visits all site (b ∷ books) there even =
    let here : site + 0 ≡ site = omega arith in
    let rest : All (Long visits) (journals_from (suc site) all books) =
    long_from visits all (suc site) books
    (λ i. let on : site + suc i ≡ suc site + i = omega arith in subst (λ s. IsThere all s (book_at books i)) on (there (suc i)))
    (λ i below. let on : site + suc i ≡ suc site + i = omega arith in even (suc i) (omega (arith, below)) ∙ ap visits on) in
    by b (subst (λ s. IsThere all s b) here (there 0)) (even 0 (omega arith) ∙ ap visits here) rest
  where
    by : (b : Option Book) → IsThere all site b → places_of b ≡ visits site → All (Long visits) (journals_from (suc site) all books) → All (Long visits) (journals_from site all (b ∷ books))
    by None is same rest = rest
    by (Some b) is same rest =
        found_long visits site (joined (parts_of all site b)) (journals_from (suc site) all books)
        (λ j found. length-joined (of_site site all) (last_part site b) j is found ∙ same ∙ ap visits (sym (site_joined site (of_site site all) b j (each_of site all) found)))
        rest

pub journals_long : (all : List Chapter) (books : List (Option Book)) (passes : List (List ℕ)) → AreThere books all → AreEven books passes
    → All (λ (j : Journal). length j.arrivals ≡ visits_at passes j.site) (journals_from 0 all books)
journals_long all books passes there even =
    long_from (visits_at passes) all 0 books
    (λ i. let on : i ≡ 0 + i = omega arith in subst (λ s. IsThere all s (book_at books i)) on (there i))
    (λ i below. let on : i ≡ 0 + i = omega arith in even i below ∙ ap (visits_at passes) on)

-- ---- their order

from_lower : (least lower : ℕ) (js : List Journal) → lower ≤ least → RiseFrom least js → RiseFrom lower js
from_lower least lower [] below rise = tt
from_lower least lower (j ∷ js) below rise = (omega (arith, below, rise.0), rise.1)

found_rise : (site : ℕ) (found : Option Journal) (js : List Journal) → ((j : Journal) → found ≡ Some j → j.site ≡ site) → RiseFrom (suc site) js → RiseFrom site (option_to_list found ++ js)
found_rise site None js own rise = from_lower (suc site) site js (omega arith) rise
found_rise site (Some j) js own rise = let same = own j refl in (omega (arith, same), subst (λ s. RiseFrom (suc s) js) (sym same) rise)

rise_from : (all : List Chapter) (site : ℕ) (books : List (Option Book)) → RiseFrom site (journals_from site all books)
rise_from all site [] = tt
rise_from all site (None ∷ books) = from_lower (suc site) site (journals_from (suc site) all books) (omega arith) (rise_from all (suc site) books)
rise_from all site (Some b ∷ books) =
    found_rise site (joined (parts_of all site b)) (journals_from (suc site) all books) (λ j found. site_joined site (of_site site all) b j (each_of site all) found)
    (rise_from all (suc site) books)

pub journals_rise : (all : List Chapter) (books : List (Option Book)) → RiseFrom 0 (journals_from 0 all books)
journals_rise all books = rise_from all 0 books

-- ---- how many rows they have together

some_joined : (own : List Chapter) (last : Chapter) → (j : Journal) × (joined (own ++ last ∷ []) ≡ Some j)
some_joined [] last = (_, refl)
some_joined (c ∷ own) last = (_, refl)

found_rows : (own : List Chapter) (last : Chapter) (js : List Journal) (rows : ℕ) → ((j : Journal) → joined (own ++ last ∷ []) ≡ Some j → length j.arrivals ≡ rows)
    → rows_in (option_to_list (joined (own ++ last ∷ [])) ++ js) ≡ rows + rows_in js
found_rows own last js rows long =
    let (j, is) = some_joined own last in
    ap (λ (found : Option Journal). rows_in (option_to_list found ++ js)) is ∙ sum_by-cons (λ (k : Journal). length k.arrivals) j js ∙ ap (λ n. n + rows_in js) (long j is)

rows_from : (all : List Chapter) (site : ℕ) (books : List (Option Book)) → ((i : ℕ) → IsThere all (site + i) (book_at books i))
    → rows_in (journals_from site all books) ≡ sum_by places_of books
rows_from all site [] there = refl
rows_from all site (b ∷ books) there =
    let here : site + 0 ≡ site = omega arith in
    let rest : rows_in (journals_from (suc site) all books) ≡ sum_by places_of books =
    rows_from all (suc site) books (λ i. let on : site + suc i ≡ suc site + i = omega arith in subst (λ s. IsThere all s (book_at books i)) on (there (suc i))) in
    by b (subst (λ s. IsThere all s b) here (there 0)) rest ∙ sym (sum_by-cons places_of b books)
  where
    by : (b : Option Book) → IsThere all site b → rows_in (journals_from (suc site) all books) ≡ sum_by places_of books
        → rows_in (journals_from site all (b ∷ books)) ≡ places_of b + sum_by places_of books
    by None is rest = rest ∙ omega arith
    by (Some b) is rest =
        found_rows (of_site site all) (last_part site b) (journals_from (suc site) all books) (places_of (Some b))
        (λ j found. length-joined (of_site site all) (last_part site b) j is found)
        ∙ ap (λ n. places_of (Some b) + n) rest

pub journals_rows : (all : List Chapter) (books : List (Option Book)) → AreThere books all → rows_in (journals_from 0 all books) ≡ sum_by places_of books
journals_rows all books there = rows_from all 0 books (λ i. let on : i ≡ 0 + i = omega arith in subst (λ s. IsThere all s (book_at books i)) on (there i))

-- ---- those of meters come first

joined_at : (own : List Chapter) (site : ℕ) (b : Book) → EachOf site own → (j : Journal) × (joined (own ++ last_part site b ∷ []) ≡ Some j) × (j.site ≡ site)
joined_at [] site b each = (_, refl, refl)
joined_at (c ∷ own) site b each = (_, refl, each.0)

meters_behind : (count meters from : ℕ) (j : Journal) (js : List Journal) → j.site ≡ from
    → ((k : ℕ) → k < count → suc from + k < meters → IsSomeAnd (slice_get js k) (λ (x : Journal). x.site ≡ suc from + k))
    → (i : ℕ) → i < suc count → from + i < meters → IsSomeAnd (slice_get (j ∷ js) i) (λ (x : Journal). x.site ≡ from + i)
meters_behind count meters from j js at more zero within below = omega (arith, at)
meters_behind count meters from j js at more (suc i) within below =
    let on : suc from + i ≡ from + suc i = omega arith in
    subst (λ n. IsSomeAnd (slice_get js i) (λ (x : Journal). x.site ≡ n)) on (more i (omega (arith, within)) (omega (arith, below)))

meters_from : (f : Fabric) (all : List Chapter) (from : ℕ) (books : List (Option Book)) → StandFrom f from books → (i : ℕ) → i < length books → from + i < length f.domain.meters
    → IsSomeAnd (slice_get (journals_from from all books) i) (λ j. j.site ≡ from + i)
meters_from f all from [] stand i within below = absurd (omega (arith, within))
meters_from f all from (None ∷ books) stand i within below = let slot : length f.domain.meters ≤ from = stand.0 in absurd (omega (arith, slot, below))
meters_from f all from (Some b ∷ books) stand i within below =
    let (j, is, at) = joined_at (of_site from all) from b (each_of from all) in
    let front : journals_from from all (Some b ∷ books) ≡ j ∷ journals_from (suc from) all books = ap (λ (found : Option Journal). option_to_list found ++ journals_from (suc from) all books) is in
    subst (λ js. IsSomeAnd (slice_get js i) (λ (k : Journal). k.site ≡ from + i)) (sym front)
    (meters_behind (length books) (length f.domain.meters) from j (journals_from (suc from) all books) at (λ k inside under. meters_from f all (suc from) books stand.1 k inside under) i (omega (arith, within)) below)

pub journals_of_meters : (f : Fabric) (all : List Chapter) (books : List (Option Book)) → StandFrom f 0 books → length f.domain.meters ≤ length books → HaveMeters f (journals_from 0 all books)
journals_of_meters f all books stand many site below =
    let same : 0 + site ≡ site = omega arith in
    subst (λ n. IsSomeAnd (slice_get (journals_from 0 all books) site) (λ (j : Journal). j.site ≡ n)) same
    (meters_from f all 0 books stand site (omega (arith, many, below)) (omega (arith, below)))
