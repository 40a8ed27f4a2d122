-- What rounds keep.
use Rattle.std.specs.Prelude.{◌≡◌, ℕ, ◌+◌, ◌≤◌, List, map, All, AllPairs}
use Rattle.meter_book.specs.Replay.{replay}
use Rattle.meter_book.specs.declared.row.Arrival.{Arrival}
use Rattle.meter_book_base.specs.AnyMeter.{newest_of}
use Rattle.meter_book_base.specs.declared.any_meter.AnyMeter.{AnyMeter}
use Rattle.ds_rounds.specs.Orders.{DoNotFall, KeepsRounds, moments_at}
use Rattle.ds_rounds.specs.Rounds.{AreRounds}
use Rattle.ds_rounds.specs.declared.visit.Visit.{Visit}

-- No other lengths are those of the rounds of visits.
abbrev pub OneCutAlone : Type 0
OneCutAlone = (skew : ℕ) (visits : List Visit) (counts others : List ℕ)
    → AreRounds skew visits counts → AreRounds skew visits others → counts ≡ others

-- Where moments do not fall, in each order that keeps the rounds a visit comes at most the skew before each of those
-- that stand in front of it.
abbrev pub NoVisitIsLate : Type 0
NoVisitIsLate = (skew : ℕ) (visits : List Visit) (counts : List ℕ) (order : List Visit) → DoNotFall visits
    → AreRounds skew visits counts → KeepsRounds counts visits order
    → AllPairs (λ v w. v.moment ≤ w.moment + skew) order

-- So no arrival at a site is later than the skew, where none comes before the newest moment of its meter as it was at
-- first, which for a meter that opens is its origin.
abbrev pub NoArrivalIsLate : Type 0
NoArrivalIsLate = (skew : ℕ) (visits : List Visit) (counts : List ℕ) (order : List Visit) → DoNotFall visits
    → AreRounds skew visits counts → KeepsRounds counts visits order
    → (site : ℕ) (meter : AnyMeter) (arrivals : List Arrival) → map (λ a. a.moment) arrivals ≡ moments_at site order
    → All (λ a. newest_of meter ≤ a.moment) arrivals
    → All (λ r. r.late ≤ skew) (replay meter arrivals)
