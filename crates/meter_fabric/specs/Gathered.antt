-- The journals of the sites of which chapters were cut.
use Rattle.std.specs.Prelude.{◌≡◌, ℕ, List, [], ◌∷◌, ◌++◌, length, slice_get, Option, None, Some}
use Rattle.meter_book.specs.Chapters.{Chapter, joined}
use Rattle.meter_book.specs.Gathering.{last_part, of_site}
use Rattle.meter_book.specs.Replay.{Book, Journal}

-- the journal that joins the chapters of a site; none where there is no chapter, or no book
abbrev pub IsGathered : List Chapter → ℕ → Option Book → Option Journal → Type 0
IsGathered own site None None = Unit {0}
IsGathered own site None (Some j) = ⊥
IsGathered own site (Some b) None = own ≡ []
IsGathered own site (Some b) (Some j) = joined (own ++ last_part site b ∷ []) ≡ Some j

-- one for each site
pub record AreGathered (chapters : List Chapter) (books : List (Option Book)) (found : List (Option Journal)) : Type 0 where
  pub each : (site : ℕ) (b : Option Book) (j : Option Journal) → slice_get books site ≡ Some b
      → slice_get found site ≡ Some j
      → IsGathered (of_site site chapters) site b j
  pub count : length found ≡ length books

-- the book of a site that gathered none has all its rows
abbrev pub HasAll : Option Book → Option Journal → Type 0
HasAll None found = Unit {0}
HasAll (Some b) None = b.opening.place ≡ 0
HasAll (Some b) (Some j) = Unit {0}

pub record HaveAll (books : List (Option Book)) (journals : List (Option Journal)) : Type 0 where
  pub each : (site : ℕ) (b : Option Book) (j : Option Journal) → slice_get books site ≡ Some b
      → slice_get journals site ≡ Some j
      → HasAll b j
  pub count : length journals ≡ length books

-- the journal of a book: the one that was gathered, else that of its own rows
abbrev pub IsJournalOf : ℕ → Book → Option Journal → Journal → Type 0
IsJournalOf site b None j =
    j ≡ record { site = site; opening = b.opening.meter; skew = b.opening.skew; arrivals = b.arrivals }
IsJournalOf site b (Some found) j = j ≡ found
