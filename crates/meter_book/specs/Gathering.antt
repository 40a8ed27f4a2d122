-- The chapters of several sites together, and what the journal of each site is joined of.
use Rattle.std.specs.Prelude.{◌≡◌, ℕ, ◌<◌, nat_eq, List, [], ◌∷◌, ◌++◌, filter, length, Option, None, Some}
use Rattle.meter_book.specs.Chapters.{Chapter, Follows, GoesOn}
use Rattle.meter_book.specs.Replay.{Book}

-- the chapters of a site, in their order
abbrev pub of_site : ℕ → List Chapter → List Chapter
of_site site chapters = filter (λ c. nat_eq c.site site) chapters

-- a book's open rows as a chapter of a site
abbrev pub last_part : ℕ → Book → Chapter
last_part site b = record { site = site; opening = b.opening; arrivals = b.arrivals; shut = b.shut }

-- what the journal of a book is joined of: the chapters of its site, and its open rows behind them
abbrev pub parts_of : List Chapter → ℕ → Book → List Chapter
parts_of chapters site b = of_site site chapters ++ last_part site b ∷ []

-- each of these stands where it belongs, if there is any
abbrev pub AreJoint : List Chapter → Type 0
AreJoint chapters = (i : ℕ) → i < length chapters → Follows chapters i

-- the last of chapters, if there is any
abbrev pub last_in : List Chapter → Option Chapter
last_in [] = None
last_in (c ∷ []) = Some c
last_in (c ∷ d ∷ more) = last_in (d ∷ more)

-- a chapter goes on behind the last one before it, or is the first of a book
abbrev pub IsNext : Option Chapter → Chapter → Type 0
IsNext None c = c.opening.place ≡ 0
IsNext (Some before) c = GoesOn before c
