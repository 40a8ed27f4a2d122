-- A book's rows in chapters, and the journal that they join to.
use Rattle.std.specs.Prelude.{◌≡◌, ℕ, zero, suc, ◌<◌, ◌≤◌, List, [], ◌∷◌, flat_map, slice_get, Option, None, Some, IfSome}
use Rattle.std.specs.Prelude.{IsSomeAnd}
use Rattle.meter_book.specs.declared.joining.JoinFault.{JoinFault}
use Rattle.meter_book.specs.declared.joining.JoinFault.TheVariants.{Gap, NoMemory}
use Rattle.meter_book.specs.declared.row.Arrival.{Arrival}
use Rattle.meter_book.specs.declared.row.Row.{Row}
use Rattle.meter_book.specs.declared.standing.Standing.{Standing}
use Rattle.meter_book_base.specs.AnyMeter.{newest_of}
use Rattle.meter_book.specs.Replay.{Book, Journal, most_places, rows_from, standing_after, standing_of}
use Rattle.meter_book.specs.Tallies.{IsSized, packets_in, tallies_in}

-- What holds wherever a book stands: each place is a packet's, and nothing was metered at the moment at which it was
-- shut, or behind it.
pub record IsStanding (s : Standing) : Type 0 where
  pub counted : packets_in (tallies_in s.accounts) ≡ s.place
  pub sized : IsSized (tallies_in s.accounts)
  pub placed : s.place ≤ most_places
  pub before : IfSome s.shut (λ end. newest_of s.meter < end)

-- Arrivals lead from one standing to another. Once it is shut, it stays shut.
pub record LeadsTo (opening : Standing) (arrivals : List Arrival) (closing : Standing) : Type 0 where
  pub opened : IsStanding opening
  pub closed : IsStanding closing
  pub replayed : closing ≡ standing_after opening arrivals closing.shut
  pub stays : IfSome opening.shut (λ end. closing.shut ≡ Some end)

-- open rows that were handed over: which site, where their book stood before the first of them, what arrived, and the
-- moment at which the book was shut by then, if it was
pub record Chapter : Type 0 where
  pub site : ℕ
  pub opening : Standing
  pub arrivals : List Arrival
  pub shut : Option ℕ

abbrev pub chapter_rows : Chapter → List Row
chapter_rows c = rows_from c.opening.meter c.opening.place c.arrivals

-- where the book stood behind the last of them
abbrev pub closing_of : Chapter → Standing
closing_of c = standing_after c.opening c.arrivals c.shut

abbrev pub join_code : JoinFault → ℕ
join_code (Gap index) = 1
join_code NoMemory = 2

-- a book's open rows as a chapter, of site 0 until it is told another
abbrev pub chapter_of : Book → Chapter
chapter_of b = record { site = 0; opening = b.opening; arrivals = b.arrivals; shut = b.shut }

-- the book without them: it goes on where it stands
abbrev pub after_cut : Book → Book
after_cut b = record b { opening = standing_of b; arrivals = [] }

-- a chapter goes on where the one before it ended
abbrev pub GoesOn : Chapter → Chapter → Type 0
GoesOn before c = (c.site ≡ before.site) × (c.opening ≡ closing_of before)

-- The chapter of an index stands where it belongs: the first begins with the first row of a book, and each other one
-- goes on where the one before it ended.
abbrev pub Follows : List Chapter → ℕ → Type 0
Follows chapters zero = IsSomeAnd (slice_get chapters 0) (λ c. c.opening.place ≡ 0)
Follows chapters (suc i) = IfSome (slice_get chapters i) (λ before. IfSome (slice_get chapters (suc i)) (GoesOn before))

-- the least index at which a chapter does not stand where it belongs: 0 where there is no chapter
abbrev pub IsGap : List Chapter → ℕ → Type 0
IsGap chapters index = ((i : ℕ) → i < index → Follows chapters i) × ¬ Follows chapters index

-- all chapters of a book up to one, in order
abbrev pub AreChapters : List Chapter → Type 0
AreChapters chapters = (index : ℕ) → Follows chapters index

-- what stands against joining chapters, or that memory ran out
abbrev pub IsRefused : List Chapter → JoinFault → Type 0
IsRefused chapters (Gap index) = IsGap chapters index
IsRefused chapters NoMemory = AreChapters chapters

-- the journal of what arrived in all of them
abbrev pub joined : List Chapter → Option Journal
joined [] = None
joined (first ∷ more) = Some (record {
  site = first.site;
  opening = first.opening.meter;
  skew = first.opening.skew;
  arrivals = flat_map (λ c. c.arrivals) (first ∷ more);
})

-- the moment at which the book was shut by the end of the last of them, if it was
abbrev pub shut_at_last : List Chapter → Option ℕ
shut_at_last [] = None
shut_at_last (c ∷ []) = c.shut
shut_at_last (c ∷ d ∷ more) = shut_at_last (d ∷ more)
