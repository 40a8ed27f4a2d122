-- Visits as they wait.
use Rattle.std.specs.Prelude.{◌≡◌, ◌-◌, List, length, map, slice_index_or}
use Rattle.std.specs.BinaryHeap.{IsUpperBound}
use Rattle.std.specs.Ordering.{nat_cmp, ordering_then}
use Rattle.std.specs.declared.cmp.Ordering.{Ordering}
use Rattle.std.specs.declared.cmp.Reverse.{Reverse}
use Rattle.ds_conductor_base.specs.declared.waiting.Waiting.{Waiting}
use Rattle.ds_conductor_base.specs.declared.visit.Visit.{Visit}

-- the visit that waits
abbrev pub visit_in : Reverse Waiting → Visit
visit_in r = record {
  place = r.0.place;
  hop = record { number = r.0.number; site = r.0.site };
  moment = r.0.moment;
}

abbrev pub visits_in : List (Reverse Waiting) → List Visit
visits_in rows = map visit_in rows

-- by moment, then by packet, then by hop
abbrev pub waiting_cmp : Waiting → Waiting → Ordering
waiting_cmp w z =
    ordering_then (nat_cmp w.moment z.moment) (ordering_then (nat_cmp w.place z.place)
    (ordering_then (nat_cmp w.number z.number) (ordering_then (nat_cmp w.train z.train) (nat_cmp w.site z.site))))

-- the first is the greatest
abbrev pub first_on_top : Reverse Waiting → Reverse Waiting → Ordering
first_on_top r s = waiting_cmp s.0 r.0

-- the last visit of a run is not later than any of another, which has none where the run has none
abbrev pub IsLedBy : List (Reverse Waiting) → List (Reverse Waiting) → Type 0
IsLedBy run others = (length run ≡ 0 → length others ≡ 0)
    × ((r : Reverse Waiting) → r ≡ slice_index_or run (length run - 1) r → IsUpperBound first_on_top r others)
