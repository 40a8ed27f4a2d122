-- What the fields of a book, of a chapter and of a journal stand for, and what they keep.
use Rattle.std.specs.Prelude.{ℕ, ◌≡◌, ◌+◌, ◌-◌, ◌<◌, ◌≤◌, ◌^◌, List, length, map, IfSome, Some}
use Rattle.meter_book.specs.declared.book.MeterBook.TheInside as book
use Rattle.meter_book.specs.declared.chapter.Chapter.TheInside as chapter
use Rattle.meter_book.specs.declared.journal.Journal.TheInside as journal
use Rattle.meter_book.specs.declared.row.Arrival.{Arrival}
use Rattle.meter_book.specs.declared.row.Row.{Row}
use Rattle.meter_book.specs.declared.standing.Standing.{Standing}
use Rattle.meter_book.specs.declared.stored_row.StoredRow.{StoredRow}
use Rattle.meter_book_base.specs.AnyMeter.{newest_of}
use Rattle.meter_book.specs.Chapters.{Chapter, IsStanding, LeadsTo}
use Rattle.meter_book.specs.Replay.{Book, Journal, accounts_of, meter_after, most_places, replay, rows_from}
use Rattle.meter_book.specs.Tallies.{IsSized, packets_in, tallies_in, tallies_of, together}

-- what is stored of a row
abbrev pub stored_of : Row → StoredRow
stored_of r = record {
  packet = r.packet;
  arrival = r.arrival;
  used = r.used;
  flow = r.flow;
  size = r.size;
  hop = r.hop;
  came = r.came;
  left = r.left;
}

-- the row that a stored row stands for, at its place
abbrev pub row_at : ℕ → StoredRow → Row
row_at place s = record {
  flow = s.flow;
  packet = s.packet;
  hop = s.hop;
  arrival = s.arrival;
  used = s.used;
  late = s.used - s.arrival;
  size = s.size;
  came = s.came;
  left = s.left;
  place = place;
}

-- what of a stored row is the arrival
abbrev pub arrival_stored : StoredRow → Arrival
arrival_stored s =
    record { flow = s.flow; packet = s.packet; hop = s.hop; moment = s.arrival; size = s.size; came = s.came }

abbrev pub arrivals_of : List StoredRow → List Arrival
arrivals_of rows = map arrival_stored rows

-- what is stored is the rows of a replay from a standing on
abbrev pub IsReplayed : Standing → List StoredRow → Type 0
IsReplayed s rows = rows ≡ map stored_of (rows_from s.meter s.place (arrivals_of rows))

abbrev pub book_of : book.Inside → Book
book_of b =
    record { opening = b.opening; capacity = b.capacity; arrivals = arrivals_of b.rows.items; shut = b.shut }

-- What is stored is the rows of the replay, the meter is where the replay left it, and the sums are those of the
-- opening and of the rows.
pub record IsBook (b : book.Inside) : Type 0 where
  pub opened : IsStanding b.opening
  pub replayed : IsReplayed b.opening b.rows.items
  pub meter : b.meter ≡ meter_after b.opening.meter (arrivals_of b.rows.items)
  pub counted : b.tallies
      ≡ together (tallies_in b.opening.accounts)
      (tallies_of (rows_from b.opening.meter b.opening.place (arrivals_of b.rows.items)))
  pub packets : packets_in b.tallies ≡ b.opening.place + length b.rows.items
  pub sized : IsSized b.tallies
  pub filled : length b.rows.items ≤ b.capacity
  pub limit : b.capacity ≤ 2 ^ 20
  pub places : b.opening.place + length b.rows.items ≤ most_places
  pub before : IfSome b.shut (λ end. newest_of b.meter < end)
  pub stays : IfSome b.opening.shut (λ end. b.shut ≡ Some end)

abbrev pub chapter_of : chapter.Inside → Chapter
chapter_of c =
    record { site = c.site; opening = c.opening; arrivals = arrivals_of c.rows.items; shut = c.closing.shut }

-- what is stored is the rows of the replay, from opening to closing
pub record IsChapter (c : chapter.Inside) : Type 0 where
  pub replayed : IsReplayed c.opening c.rows.items
  pub leads : LeadsTo c.opening (arrivals_of c.rows.items) c.closing

abbrev pub journal_of : journal.Inside → Journal
journal_of j = record { site = j.site; opening = j.opening; skew = j.skew; arrivals = arrivals_of j.rows.items }

-- what is stored is the rows of a replay, and the accounts are those of the rows
pub record IsJournal (j : journal.Inside) : Type 0 where
  pub replayed : j.rows.items ≡ map stored_of (replay j.opening (arrivals_of j.rows.items))
  pub counted : j.accounts ≡ accounts_of (replay j.opening (arrivals_of j.rows.items))
