-- The rows of a replay out of what is stored of them.
use Rattle.std.proofs.Common.{◌≡◌, ℕ, ◌+◌, ◌≤◌, zero, suc, List, [], ◌∷◌, map, Some, refl, ap, ◌∙◌, arith}
use Rattle.std.specs.List.{All, slice_get}
use Rattle.std.specs.Option.{option_map}
use Rattle.moment_core.proofs.MeteringLaws.{moment_le-used}
use Rattle.meter_book_base.specs.declared.any_meter.AnyMeter.{AnyMeter}
use Rattle.meter_book.specs.declared.row.Arrival.{Arrival}
use Rattle.meter_book.specs.declared.stored_row.StoredRow.{StoredRow}
use Rattle.meter_book_base.specs.AnyMeter.{after_any, newest_of}
use Rattle.meter_book.specs.Kept.{row_at, stored_of}
use Rattle.meter_book.specs.Replay.{offer_of, row_of, rows_from}

-- no row is metered before it arrived
rows_on_time : (m : AnyMeter) (place : ℕ) (arrivals : List Arrival) → All (λ (s : StoredRow). s.arrival ≤ s.used) (map stored_of (rows_from m place arrivals))
rows_on_time m place [] k d below = absurd (omega (arith, below))
rows_on_time m place (a ∷ as_) zero d below = moment_le-used (newest_of m) a.moment
rows_on_time m place (a ∷ as_) (suc k) d below = rows_on_time (after_any m (offer_of a)) (place + 1) as_ k d (omega (arith, below))

pub stored_on_time : (m : AnyMeter) (first : ℕ) (arrivals : List Arrival) (stored : List StoredRow) → stored ≡ map stored_of (rows_from m first arrivals)
    → All (λ (s : StoredRow). s.arrival ≤ s.used) stored
stored_on_time m first arrivals stored replayed = rw replayed (rows_on_time m first arrivals)

row_at-rows_from : (m : AnyMeter) (place : ℕ) (arrivals : List Arrival) (i : ℕ)
    → option_map (row_at (place + i)) (slice_get (map stored_of (rows_from m place arrivals)) i) ≡ slice_get (rows_from m place arrivals) i
row_at-rows_from m place [] i = refl
row_at-rows_from m place (a ∷ as_) zero =
    let here : place + 0 ≡ place = omega arith in
    ap (λ p. Some (row_of m p a)) here
row_at-rows_from m place (a ∷ as_) (suc i) =
    let there : place + suc i ≡ place + 1 + i = omega arith in
    ap (λ p. option_map (row_at p) (slice_get (map stored_of (rows_from (after_any m (offer_of a)) (place + 1) as_)) i)) there
    ∙ row_at-rows_from (after_any m (offer_of a)) (place + 1) as_ i

-- the stored row of an index stands for the replay's row there
pub row_at-replay : (m : AnyMeter) (first : ℕ) (arrivals : List Arrival) (stored : List StoredRow) (index : ℕ) → stored ≡ map stored_of (rows_from m first arrivals)
    → option_map (row_at (first + index)) (slice_get stored index) ≡ slice_get (rows_from m first arrivals) index
row_at-replay m first arrivals stored index replayed =
    ap (λ rows. option_map (row_at (first + index)) (slice_get rows index)) replayed ∙ row_at-rows_from m first arrivals index
