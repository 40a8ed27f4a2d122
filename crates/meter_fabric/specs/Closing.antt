-- What a fabric that is closed comes to: the journals of its books, and what stands against them.
use Rattle.std.specs.Prelude.{◌≡◌, ℕ, suc, ◌<◌, ◌≤◌, List, [], ◌∷◌, ◌++◌, length, option_to_list, Option, None, Some, slice_get, sum_by, IsSomeAnd}
use Rattle.meter_book.specs.Chapters.{AreChapters, Chapter, joined}
use Rattle.meter_book.specs.Gathering.{last_part, of_site, parts_of}
use Rattle.meter_book.specs.Replay.{Book, Journal}
use Rattle.meter_fabric.specs.Fabrics.{Fabric, StandFrom, book_at, places_of, sites_of, visits_at}
use Rattle.meter_fabric.specs.declared.fault.CloseFault.{CloseFault}
use Rattle.meter_fabric.specs.declared.fault.CloseFault.TheVariants.{PassMissing, NoMemory, ChapterMissing, Uneven}

-- a fabric out of its locks: what stands at each site
pub record Books : Type 0 where
  pub fabric : Fabric
  pub books : List (Option Book)

-- chapters of a site join, with its book's open rows behind them; where there is no book, there is none
abbrev pub IsJoined : List Chapter → ℕ → Option Book → Type 0
IsJoined own site None = own ≡ []
IsJoined own site (Some b) = AreChapters (own ++ last_part site b ∷ [])

-- so do all chapters of the site
abbrev pub IsThere : List Chapter → ℕ → Option Book → Type 0
IsThere chapters site book = IsJoined (of_site site chapters) site book

-- so it is at every site
abbrev pub AreThere : List (Option Book) → List Chapter → Type 0
AreThere books chapters = (site : ℕ) → IsThere chapters site (book_at books site)

-- the least site at which it is not
abbrev pub IsFirstMissing : List (Option Book) → List Chapter → ℕ → Type 0
IsFirstMissing books chapters site =
    ((s : ℕ) → s < site → IsThere chapters s (book_at books s)) × ¬ IsThere chapters site (book_at books site)

-- how many rows a site has
abbrev pub rows_at : List (Option Book) → ℕ → ℕ
rows_at books site = places_of (book_at books site)

-- each site has as many rows as the passes count visits to it
abbrev pub AreEven : List (Option Book) → List (List ℕ) → Type 0
AreEven books passes = (site : ℕ) → site < length books → rows_at books site ≡ visits_at passes site

-- the least site with fewer rows than visits, and the least with more
abbrev pub IsShort : List (Option Book) → List (List ℕ) → ℕ → Type 0
IsShort books passes site =
    ((s : ℕ) → s < site → ¬ (rows_at books s < visits_at passes s)) × (rows_at books site < visits_at passes site)

abbrev pub IsLong : List (Option Book) → List (List ℕ) → ℕ → Type 0
IsLong books passes site =
    ((s : ℕ) → s < site → ¬ (visits_at passes s < rows_at books s)) × (visits_at passes site < rows_at books site)

-- What stands against closing. Chapters are told before rows, and memory comes last.
abbrev pub IsUnsettled : List (Option Book) → List (List ℕ) → List Chapter → CloseFault → Type 0
IsUnsettled books passes chapters PassMissing = ⊥
IsUnsettled books passes chapters (ChapterMissing site) = IsFirstMissing books chapters site
IsUnsettled books passes chapters (Uneven short long) =
    AreThere books chapters × IsShort books passes short × IsLong books passes long
IsUnsettled books passes chapters NoMemory = AreThere books chapters × AreEven books passes

-- The journals of books, of which the first is that of the site of this number. A site without a book gives none.
abbrev pub journals_from : ℕ → List Chapter → List (Option Book) → List Journal
journals_from site chapters [] = []
journals_from site chapters (None ∷ books) = journals_from (suc site) chapters books
journals_from site chapters (Some b ∷ books) =
    option_to_list (joined (parts_of chapters site b)) ++ journals_from (suc site) chapters books

-- the sites of journals rise, the first of them from a number on
abbrev pub RiseFrom : ℕ → List Journal → Type 0
RiseFrom least [] = Unit {0}
RiseFrom least (j ∷ journals) = (least ≤ j.site) × RiseFrom (suc j.site) journals

-- how many rows journals have together
abbrev pub rows_in : List Journal → ℕ
rows_in journals = sum_by (λ j. length j.arrivals) journals

-- the first journals are those of the meters, in their order
abbrev pub HaveMeters : Fabric → List Journal → Type 0
HaveMeters f journals =
    (site : ℕ) → site < length f.domain.meters → IsSomeAnd (slice_get journals site) (λ j. j.site ≡ site)

-- what stands against closing a fabric, by books that may lie under its locks
pub record IsUnclosed (f : Fabric) (passes : List (List ℕ)) (chapters : List Chapter) (why : CloseFault) : Type 0 where
  pub books : List (Option Book)
  pub all : length books ≡ sites_of f
  pub stand : StandFrom f 0 books
  pub unsettled : IsUnsettled books passes chapters why
