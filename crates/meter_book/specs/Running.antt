-- A meter that keeps sums and no rows.
use Rattle.std.specs.Prelude.{◌≡◌, ℕ, List, [], ◌∷◌, None, map}
use Rattle.moment_core.specs.declared.colour.Colour.{Colour}
use Rattle.meter_book_base.specs.declared.any_meter.AnyMeter.{AnyMeter}
use Rattle.meter_book_base.specs.AnyMeter.{left_of}
use Rattle.meter_book.specs.declared.row.Arrival.{Arrival}
use Rattle.meter_book.specs.declared.standing.Standing.{Standing}
use Rattle.meter_book.specs.Replay.{fresh, offer_of, replay, standing_after}

-- where it stands, and how many arrivals it takes in all
pub record Running : Type 0 where
  pub standing : Standing
  pub most : ℕ

-- after an arrival it stands where a book stands that noted it
abbrev pub counted : Running → Arrival → Running
counted r a = record r { standing = standing_after r.standing (a ∷ []) None }

-- after arrivals, one after the other
abbrev pub counted_all : Running → List Arrival → Running
counted_all r [] = r
counted_all r (a ∷ as_) = counted_all (counted r a) as_

-- the colours that it answers to arrivals, one after the other
abbrev pub colours_answered : Running → List Arrival → List Colour
colours_answered r [] = []
colours_answered r (a ∷ as_) = left_of r.standing.meter (offer_of a) ∷ colours_answered (counted r a) as_

-- After arrivals, one after the other, it stands where the book of the same meter and the same arrivals does: meter,
-- accounts and count.
abbrev pub StandsAsBook : Type 0
StandsAsBook =
    (meter : AnyMeter) (skew most : ℕ) (arrivals : List Arrival)
    → (counted_all (record { standing = fresh meter skew; most = most }) arrivals).standing
    ≡ standing_after (fresh meter skew) arrivals None

-- Its colours are those of the rows of that book.
abbrev pub ColoursAsBook : Type 0
ColoursAsBook =
    (meter : AnyMeter) (skew most : ℕ) (arrivals : List Arrival)
    → colours_answered (record { standing = fresh meter skew; most = most }) arrivals
    ≡ map (λ row. row.left) (replay meter arrivals)
