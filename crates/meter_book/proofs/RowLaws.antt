-- The rows of a replay as the departures of its meter.
use Rattle.std.proofs.Common.{◌≡◌, ℕ, ◌+◌, ◌≤◌, zero, suc, Bool, true, false, List, [], ◌∷◌, map, refl, sym, ◌∙◌, ap, subst, arith}
use Rattle.std.specs.List.{All, AllPairs}
use Rattle.moment_core.specs.declared.colour.Colour.{Colour}
use Rattle.moment_core.specs.declared.colour.Mode.{Mode}
use Rattle.moment_core.specs.declared.colour.Mode.TheVariants.{Aware}
use Rattle.moment_core.specs.declared.column.Column.{Column}
use Rattle.moment_core.specs.Colours.{IsNoBetter, output}
use Rattle.moment_core.specs.Columns.{counts}
use Rattle.moment_core.specs.Metering.{departures, opening}
use Rattle.moment_core.proofs.MeteringLaws.{newest_le-used}
use Rattle.envelope_core.specs.Curve.{KeepsCurve}
use Rattle.meter_book_base.specs.declared.any_meter.AnyMeter.{AnyMeter}
use Rattle.meter_book_base.specs.declared.any_meter.Parameters.{Parameters}
use Rattle.meter_book_base.specs.declared.any_meter.Parameters.TheVariants.{SrTcm, TrTcm, Rfc4115}
use Rattle.meter_book.specs.declared.row.Arrival.{Arrival}
use Rattle.meter_book.specs.declared.row.Row.{Row}
use Rattle.meter_book_base.specs.AnyMeter.{after_any, how_any, newest_of, opening_of}
use Rattle.meter_book_base.specs.Envelopes.{IsFit, mode_of, output_in, parameters_of}
use Rattle.meter_book.specs.Laws.{departure_of, row_output}
use Rattle.meter_book_base.specs.OutputLaws.{IsFit-after, IsFit-opening, goes_on-any, never_improves-any, output_keeps-any, stays_itself-any}
use Rattle.meter_book.specs.Replay.{meter_after, offer_of, replay, row_of, rows_from}

pub departures_of-rows_from : (m : AnyMeter) (place : ℕ) (arrivals : List Arrival)
    → map departure_of (rows_from m place arrivals) ≡ departures how_any m (map offer_of arrivals)
departures_of-rows_from m place [] = refl
departures_of-rows_from m place (a ∷ as_) =
    ap (λ ds. departure_of (row_of m place a) ∷ ds) (departures_of-rows_from (after_any m (offer_of a)) (place + 1) as_)

output_of-row : (picked : Colour → Bool) (b : Bool) (r : Row) (rows : List Row) → picked r.left ≡ b
    → output picked (map departure_of rows) ≡ row_output picked rows
    → output picked (map departure_of (r ∷ rows)) ≡ row_output picked (r ∷ rows)
output_of-row picked true r rows e rest = rw e (ap (λ items. (r.used, r.size) ∷ items) rest)
output_of-row picked false r rows e rest = rw e rest

-- the output of rows is that of their departures
pub output_of-rows : (picked : Colour → Bool) (rows : List Row) → output picked (map departure_of rows) ≡ row_output picked rows
output_of-rows picked [] = refl
output_of-rows picked (r ∷ rows) = output_of-row picked (picked r.left) r rows refl (output_of-rows picked rows)

pub row_output-replay : (picked : Colour → Bool) (m : AnyMeter) (arrivals : List Arrival)
    → row_output picked (replay m arrivals) ≡ output picked (departures how_any m (map offer_of arrivals))
row_output-replay picked m arrivals =
    sym (output_of-rows picked (replay m arrivals)) ∙ ap (output picked) (departures_of-rows_from m 0 arrivals)

pub rows_keep : (m : AnyMeter) (arrivals : List Arrival) (column : Column) → IsFit m
    → KeepsCurve (output_in column (parameters_of m)) (row_output (counts column) (replay m arrivals))
rows_keep m arrivals column fit = rw (row_output-replay (counts column) m arrivals) (output_keeps-any m fit (map offer_of arrivals) column)

-- a meter that opens has the parameters that it is made with
parameters_of-opening_of : (p : Parameters) (mode : Mode) (origin : ℕ) → parameters_of (opening_of p mode origin) ≡ p
unfolding opening
parameters_of-opening_of (SrTcm p) mode origin = refl
parameters_of-opening_of (TrTcm p) mode origin = refl
parameters_of-opening_of (Rfc4115 p) mode origin = refl

pub opened_rows_keep : (p : Parameters) (mode : Mode) (origin : ℕ) (arrivals : List Arrival) (column : Column)
    → KeepsCurve (output_in column p) (row_output (counts column) (replay (opening_of p mode origin) arrivals))
opened_rows_keep p mode origin arrivals column =
    subst (λ own. KeepsCurve (output_in column own) (row_output (counts column) (replay (opening_of p mode origin) arrivals)))
    (parameters_of-opening_of p mode origin) (rows_keep (opening_of p mode origin) arrivals column (IsFit-opening p mode origin))

rows_never_improve : (m : AnyMeter) (place : ℕ) (arrivals : List Arrival) → mode_of m ≡ Aware
    → All (λ (r : Row). IsNoBetter r.came r.left) (rows_from m place arrivals)
rows_never_improve m place [] aware k d below = absurd (omega (arith, below))
rows_never_improve m place (a ∷ as_) aware zero d below = never_improves-any m (offer_of a) aware
rows_never_improve m place (a ∷ as_) aware (suc k) d below =
    rows_never_improve (after_any m (offer_of a)) (place + 1) as_ ((stays_itself-any m (offer_of a)).0 ∙ aware) k d (omega (arith, below))

pub replay_never_improves : (m : AnyMeter) (arrivals : List Arrival) → mode_of m ≡ Aware
    → All (λ (r : Row). IsNoBetter r.came r.left) (replay m arrivals)
replay_never_improves m arrivals aware = rows_never_improve m 0 arrivals aware

-- no row is metered before the meter's newest moment
rows_later : (m : AnyMeter) (place : ℕ) (arrivals : List Arrival) → All (λ (r : Row). newest_of m ≤ r.used) (rows_from m place arrivals)
rows_later m place [] k d below = absurd (omega (arith, below))
rows_later m place (a ∷ as_) zero d below = newest_le-used (newest_of m) a.moment
rows_later m place (a ∷ as_) (suc k) d below =
    omega (arith, rows_later (after_any m (offer_of a)) (place + 1) as_ k d (omega (arith, below)), goes_on-any m (offer_of a), newest_le-used (newest_of m) a.moment)

rows_in_order : (m : AnyMeter) (place : ℕ) (arrivals : List Arrival) → AllPairs (λ (r s : Row). r.used ≤ s.used) (rows_from m place arrivals)
rows_in_order m place [] i j d first below = absurd (omega (arith, below))
rows_in_order m place (a ∷ as_) i zero d first below = absurd (omega (arith, first))
rows_in_order m place (a ∷ as_) zero (suc j) d first below =
    omega (arith, rows_later (after_any m (offer_of a)) (place + 1) as_ j d (omega (arith, below)), goes_on-any m (offer_of a))
rows_in_order m place (a ∷ as_) (suc i) (suc j) d first below =
    rows_in_order (after_any m (offer_of a)) (place + 1) as_ i j d (omega (arith, first)) (omega (arith, below))

pub replay_in_order : (m : AnyMeter) (arrivals : List Arrival) → AllPairs (λ (r s : Row). r.used ≤ s.used) (replay m arrivals)
replay_in_order m arrivals = rows_in_order m 0 arrivals

pub IsFit-meter_after : (m : AnyMeter) (arrivals : List Arrival) → IsFit m → IsFit (meter_after m arrivals)
IsFit-meter_after m [] fit = fit
IsFit-meter_after m (a ∷ as_) fit = IsFit-meter_after (after_any m (offer_of a)) as_ (IsFit-after m (offer_of a) fit)
