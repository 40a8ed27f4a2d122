-- The replay of a list of arrivals through a meter, the accounts of its rows, and the book that keeps them.
use Rattle.std.specs.Prelude.{ℕ, Bool, false, ◌+◌, ◌-◌, ◌^◌, max, min, List, [], ◌∷◌, ◌++◌, length, nat_eq, nat_le}
use Rattle.std.specs.Prelude.{count_by, sum_by, slice_index, Option, None, Some, Result, Ok, Err, if◌then◌else◌}
use Rattle.moment_core.specs.declared.colour.Colour.{Colour}
use Rattle.moment_core.specs.Colours.{is_green, is_yellow, is_red}
use Rattle.moment_core.specs.Metering.{Offer, used}
use Rattle.meter_book_base.specs.declared.any_meter.AnyMeter.{AnyMeter}
use Rattle.meter_book.specs.declared.accounts.Accounts.{Accounts}
use Rattle.meter_book.specs.declared.book.NoteFault.{NoteFault}
use Rattle.meter_book.specs.declared.book.NoteFault.TheVariants.{JournalFull, Shut}
use Rattle.meter_book.specs.declared.row.Arrival.{Arrival}
use Rattle.meter_book.specs.declared.row.Row.{Row}
use Rattle.meter_book.specs.declared.standing.Standing.{Standing}
use Rattle.meter_book_base.specs.AnyMeter.{newest_of, left_of, after_any}

-- what of an arrival concerns the meter
abbrev pub offer_of : Arrival → Offer
offer_of a = record { moment = a.moment; size = a.size; came = a.came }

-- the row of an arrival at a meter
abbrev pub row_of : AnyMeter → ℕ → Arrival → Row
row_of m place a = record {
  flow = a.flow;
  packet = a.packet;
  hop = a.hop;
  arrival = a.moment;
  used = used (newest_of m) a.moment;
  late = used (newest_of m) a.moment - a.moment;
  size = a.size;
  came = a.came;
  left = left_of m (offer_of a);
  place = place;
}

-- a meter after arrivals, one after the other
abbrev pub meter_after : AnyMeter → List Arrival → AnyMeter
meter_after m [] = m
meter_after m (a ∷ as_) = meter_after (after_any m (offer_of a)) as_

-- the rows of arrivals, one after the other, the first of them at a place
abbrev pub rows_from : AnyMeter → ℕ → List Arrival → List Row
rows_from m place [] = []
rows_from m place (a ∷ as_) = row_of m place a ∷ rows_from (after_any m (offer_of a)) (place + 1) as_

-- the replay: rows count their places from 0
abbrev pub replay : AnyMeter → List Arrival → List Row
replay m arrivals = rows_from m 0 arrivals

-- how many packets, and how many bytes, left with a colour that a test picks
abbrev pub packets_left : (Colour → Bool) → List Row → ℕ
packets_left picked rows = count_by (λ r. picked r.left) rows

abbrev pub bytes_left : (Colour → Bool) → List Row → ℕ
bytes_left picked rows = sum_by (λ r. if picked r.left then r.size else 0) rows

-- the accounts of rows: green, yellow, red
abbrev pub accounts_of : List Row → Accounts
accounts_of rows = record {
  packets = packets_left is_green rows ∷ packets_left is_yellow rows ∷ packets_left is_red rows ∷ [];
  bytes = bytes_left is_green rows ∷ bytes_left is_yellow rows ∷ bytes_left is_red rows ∷ [];
}

-- accounts, and those of rows behind them
abbrev pub accounts_with : Accounts → List Row → Accounts
accounts_with a rows = record {
  packets = (slice_index a.packets 0 + packets_left is_green rows)
      ∷ (slice_index a.packets 1 + packets_left is_yellow rows)
      ∷ (slice_index a.packets 2 + packets_left is_red rows)
      ∷ [];
  bytes = (slice_index a.bytes 0 + bytes_left is_green rows)
      ∷ (slice_index a.bytes 1 + bytes_left is_yellow rows)
      ∷ (slice_index a.bytes 2 + bytes_left is_red rows)
      ∷ [];
}

-- a meter and a skew, before any arrival
abbrev pub fresh : AnyMeter → ℕ → Standing
fresh meter skew = record { meter = meter; skew = skew; accounts = accounts_of []; place = 0; shut = None }

-- where a book stands after arrivals, shut at a moment or not
abbrev pub standing_after : Standing → List Arrival → Option ℕ → Standing
standing_after s arrivals shut = record {
  meter = meter_after s.meter arrivals;
  skew = s.skew;
  accounts = accounts_with s.accounts (rows_from s.meter s.place arrivals);
  place = s.place + length arrivals;
  shut = shut;
}

-- the book of a meter: where it stood when its open rows began, how many of them it takes, what arrived since, and the
-- moment at which it is shut, if it is
pub record Book : Type 0 where
  pub opening : Standing
  pub capacity : ℕ
  pub arrivals : List Arrival
  pub shut : Option ℕ

-- where it stands now
abbrev pub standing_of : Book → Standing
standing_of b = standing_after b.opening b.arrivals b.shut

-- its open rows
abbrev pub rows_of : Book → List Row
rows_of b = rows_from b.opening.meter b.opening.place b.arrivals

-- the row that the next arrival gets
abbrev pub next_row : Book → Arrival → Row
next_row b a = row_of (meter_after b.opening.meter b.arrivals) (b.opening.place + length b.arrivals) a

-- the book with one more arrival
abbrev pub noted : Book → Arrival → Book
noted b a = record b { arrivals = b.arrivals ++ a ∷ [] }

-- a book gives 2^44 places at most, so that no sum of its bytes reaches 2^64
abbrev pub most_places : ℕ
most_places = 2 ^ 44

-- how many open rows it can still take
abbrev pub room_of : Book → ℕ
room_of b = min (b.capacity - length b.arrivals) (most_places - (b.opening.place + length b.arrivals))

-- whether what arrives at a moment comes when the book is shut
abbrev pub is_shut_by : Option ℕ → ℕ → Bool
is_shut_by None moment = false
is_shut_by (Some end) moment = nat_le end moment

-- why it refuses what arrives at a moment, memory aside, if it does
abbrev pub note_fault : Book → ℕ → Option NoteFault
note_fault b moment =
    if is_shut_by b.shut moment then Some Shut else if nat_eq (room_of b) 0 then Some JournalFull else None

-- what is done where there is no fault
abbrev pub unless : {A : Type 0} → Option NoteFault → A → Result A NoteFault
unless None done = Ok done
unless (Some fault) done = Err fault

-- what becomes of an arrival: its row and the book behind it, or why the book refuses it
abbrev pub note_of : Book → Arrival → Result (Row × Book) NoteFault
note_of b a = unless (note_fault b a.moment) (next_row b a, noted b a)

-- the moment at which a book is shut that is to be shut at a moment: behind all that it metered, and once for all; none
-- where no moment is left
abbrev pub shut_from : Option ℕ → ℕ → ℕ → Option ℕ
shut_from (Some end) newest moment = Some end
shut_from None newest moment = if nat_eq newest (2 ^ 63 - 1) then None else Some (max moment (newest + 1))

abbrev pub shut_by : Book → ℕ → Option ℕ
shut_by b moment = shut_from b.shut (newest_of (meter_after b.opening.meter b.arrivals)) moment

-- the rows of a site as they are handed over: which site, the meter as it was at first, its skew, and what arrived
pub record Journal : Type 0 where
  pub site : ℕ
  pub opening : AnyMeter
  pub skew : ℕ
  pub arrivals : List Arrival

abbrev pub journal_rows : Journal → List Row
journal_rows j = replay j.opening j.arrivals
