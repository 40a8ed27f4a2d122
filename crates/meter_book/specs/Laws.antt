-- What holds of the rows of every replay: they are the departures of the meter, and keep its envelopes.
use Rattle.std.specs.Prelude.{ℕ, Bool, ◌≡◌, ◌≤◌, List, [], ◌∷◌, All, AllPairs, filter, map}
use Rattle.moment_core.specs.declared.colour.Colour.{Colour}
use Rattle.moment_core.specs.declared.colour.Mode.{Mode}
use Rattle.moment_core.specs.declared.colour.Mode.TheVariants.{Aware}
use Rattle.moment_core.specs.declared.column.Column.{Column}
use Rattle.moment_core.specs.Colours.{IsNoBetter}
use Rattle.moment_core.specs.Columns.{counts}
use Rattle.moment_core.specs.Metering.{Departure, How, Offer, departures}
use Rattle.envelope_core.specs.Curve.{KeepsCurve}
use Rattle.meter_book_base.specs.declared.any_meter.AnyMeter.{AnyMeter}
use Rattle.meter_book_base.specs.declared.any_meter.Parameters.{Parameters}
use Rattle.meter_book.specs.declared.row.Arrival.{Arrival}
use Rattle.meter_book.specs.declared.row.Row.{Row}
use Rattle.meter_book_base.specs.AnyMeter.{how_any, opening_of}
use Rattle.meter_book_base.specs.Envelopes.{IsFit, mode_of, output_in, parameters_of}
use Rattle.meter_book.specs.Replay.{meter_after, offer_of, replay}

-- a meter after packets, one after the other
abbrev pub after_all : {S : Type 0} → How S → S → List Offer → S
after_all h m [] = m
after_all h m (o ∷ os) = after_all h (h.after m o) os

-- the colours that packets leave with, one after the other
abbrev pub colours_left : {S : Type 0} → How S → S → List Offer → List Colour
colours_left h m offers = map (λ d. d.left) (departures h m offers)

-- a row as a departure
abbrev pub departure_of : Row → Departure
departure_of r = record { used = r.used; size = r.size; came = r.came; left = r.left }

-- the sized moments, by the moments metered at, of the rows that left with a colour that a test picks
abbrev pub row_output : (Colour → Bool) → List Row → List (ℕ × ℕ)
row_output picked rows = map (λ r. (r.used, r.size)) (filter (λ r. picked r.left) rows)

-- the rows of a replay are the departures of the meter
abbrev pub RowsAreDepartures : Type 0
RowsAreDepartures = (m : AnyMeter) (arrivals : List Arrival) → map departure_of (replay m arrivals)
    ≡ departures how_any m (map offer_of arrivals)

-- what left with a colour of a column keeps the envelope of that column, by the moments metered at
abbrev pub RowsKeepEnvelopes : Type 0
RowsKeepEnvelopes =
    (m : AnyMeter) (arrivals : List Arrival) (column : Column)
    → IsFit m
    → KeepsCurve (output_in column (parameters_of m)) (row_output (counts column) (replay m arrivals))

-- so the rows of a meter that opened keep its envelopes
abbrev pub OpenedRowsKeepEnvelopes : Type 0
OpenedRowsKeepEnvelopes =
    (p : Parameters) (mode : Mode) (origin : ℕ) (arrivals : List Arrival) (column : Column)
    → KeepsCurve (output_in column p) (row_output (counts column) (replay (opening_of p mode origin) arrivals))

-- in the rows of an aware meter no packet leaves with a better colour than it came with
abbrev pub AwareRowsNeverImprove : Type 0
AwareRowsNeverImprove = (m : AnyMeter) (arrivals : List Arrival) → mode_of m ≡ Aware
    → All (λ r. IsNoBetter r.came r.left) (replay m arrivals)

-- no row was metered before the row in front of it
abbrev pub RowsStandInOrder : Type 0
RowsStandInOrder = (m : AnyMeter) (arrivals : List Arrival) → AllPairs (λ r s. r.used ≤ s.used) (replay m arrivals)

-- a meter that opens fits, and fits after whatever arrives
abbrev pub OpeningMetersFit : Type 0
OpeningMetersFit = (p : Parameters) (mode : Mode) (origin : ℕ) → IsFit (opening_of p mode origin)

abbrev pub MetersStayFit : Type 0
MetersStayFit = (m : AnyMeter) (arrivals : List Arrival) → IsFit m → IsFit (meter_after m arrivals)
