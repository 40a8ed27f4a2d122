-- An aware meter keeps the colours of traffic that keeps what the meter has.
use Rattle.std.specs.Prelude.{ℕ, Bool, ◌≡◌, List, All, filter, map}
use Rattle.moment_core.specs.declared.colour.Colour.{Colour}
use Rattle.moment_core.specs.declared.colour.Colour.TheVariants.{Green, Yellow}
use Rattle.moment_core.specs.declared.colour.Mode.TheVariants.{Aware}
use Rattle.moment_core.specs.Colours.{is_green, is_in_profile}
use Rattle.moment_core.specs.Columns.{counts}
use Rattle.envelope_core.specs.Curve.{KeepsCurve, KeepsCurveUpTo}
use Rattle.meter_book_base.specs.declared.any_meter.Parameters.{Parameters}
use Rattle.meter_book_base.specs.declared.any_meter.Parameters.TheVariants.{SrTcm, TrTcm, Rfc4115}
use Rattle.meter_book.specs.declared.row.Arrival.{Arrival}
use Rattle.meter_book.specs.declared.row.Row.{Row}
use Rattle.meter_book_base.specs.AnyMeter.{opening_of}
use Rattle.meter_book_base.specs.Limits.{all_limit, green_limit, held_column}
use Rattle.meter_book.specs.Replay.{replay}

-- the rows of an aware meter that opened, whatever arrives
abbrev pub aware_rows : Parameters → ℕ → List Arrival → List Row
aware_rows p origin arrivals = replay (opening_of p Aware origin) arrivals

-- the sized moments, by the moments metered at, of the rows that came with a colour that a test picks
abbrev pub row_input : (Colour → Bool) → List Row → List (ℕ × ℕ)
row_input picked rows = map (λ r. (r.used, r.size)) (filter (λ r. picked r.came) rows)

-- every row that came with a colour left with it
abbrev pub Stays : Colour → List Row → Type 0
Stays colour rows = All (λ r. r.came ≡ colour → r.left ≡ colour) rows

-- With a committed and a peak rate a green packet takes its bytes from the peak bucket too, as a yellow one does (RFC
-- 2698 section 3): there what came green or yellow must keep what the meter has for both. The other meters have no such
-- bucket.
abbrev pub PeakIsKept : Parameters → List Row → Type 0
PeakIsKept (SrTcm p) rows = Unit {0}
PeakIsKept (TrTcm p) rows = KeepsCurve (all_limit (TrTcm p)) (row_input is_in_profile rows)
PeakIsKept (Rfc4115 p) rows = Unit {0}

-- an aware meter lets every green packet through as green, if what came green keeps what the meter has for it
abbrev pub GreenStaysGreen : Type 0
GreenStaysGreen =
    (p : Parameters) (origin : ℕ) (arrivals : List Arrival)
    → KeepsCurve (green_limit p) (row_input is_green (aware_rows p origin arrivals))
    → PeakIsKept p (aware_rows p origin arrivals)
    → Stays Green (aware_rows p origin arrivals)

-- and where every green packet leaves green, it lets every yellow one through as yellow, if what is held against it
-- keeps what the meter has for green and yellow ones
abbrev pub YellowStaysYellow : Type 0
YellowStaysYellow =
    (p : Parameters) (origin : ℕ) (arrivals : List Arrival)
    → Stays Green (aware_rows p origin arrivals)
    → KeepsCurve (all_limit p) (row_input (counts (held_column p)) (aware_rows p origin arrivals))
    → Stays Yellow (aware_rows p origin arrivals)

-- ---- moment by moment

-- every row that came with a colour and was metered at a moment left with it
abbrev pub StaysAt : ℕ → Colour → List Row → Type 0
StaysAt moment colour rows = All (λ r. r.used ≡ moment → r.came ≡ colour → r.left ≡ colour) rows

-- what the peak bucket needs of the windows that end at a moment
abbrev pub PeakIsKeptUpTo : ℕ → Parameters → List Row → Type 0
PeakIsKeptUpTo end (SrTcm p) rows = Unit {0}
PeakIsKeptUpTo end (TrTcm p) rows = KeepsCurveUpTo end (all_limit (TrTcm p)) (row_input is_in_profile rows)
PeakIsKeptUpTo end (Rfc4115 p) rows = Unit {0}

-- The windows that end at a moment decide over its green packets: an aware meter lets these through as green, if in
-- those windows what came green keeps what the meter has for it.
abbrev pub GreenStaysGreenAt : Type 0
GreenStaysGreenAt =
    (p : Parameters) (origin : ℕ) (arrivals : List Arrival) (moment : ℕ)
    → KeepsCurveUpTo moment (green_limit p) (row_input is_green (aware_rows p origin arrivals))
    → PeakIsKeptUpTo moment p (aware_rows p origin arrivals)
    → StaysAt moment Green (aware_rows p origin arrivals)

-- They decide over its yellow packets too: where every green packet leaves green, the meter lets these through as
-- yellow, if in those windows what is held against them keeps what the meter has for green and yellow ones.
abbrev pub YellowStaysYellowAt : Type 0
YellowStaysYellowAt =
    (p : Parameters) (origin : ℕ) (arrivals : List Arrival) (moment : ℕ)
    → Stays Green (aware_rows p origin arrivals)
    → KeepsCurveUpTo moment (all_limit p) (row_input (counts (held_column p)) (aware_rows p origin arrivals))
    → StaysAt moment Yellow (aware_rows p origin arrivals)
