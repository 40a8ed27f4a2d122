-- What the fields of a queue of visits stand for, and what they keep.
use Rattle.std.specs.Prelude.{◌≡◌, ◌+◌, ◌<◌, ◌≤◌, ◌++◌, List, IsSorted, vec_capacity, vec_len}
use Rattle.std.specs.List.{IsDistinct}
use Rattle.std.specs.declared.cmp.Reverse.{Reverse}
use Rattle.meter_fabric_base.specs.Orders.{in_order}
use Rattle.ds_conductor_base.specs.Visits.{is_before, is_same}
use Rattle.ds_conductor_base.specs.declared.waiting.Waiting.{Waiting}
use Rattle.ds_conductor_base.specs.declared.visit.Visit.{Visit}
use Rattle.ds_conductor_base.specs.Waits.{first_on_top, visits_in}
use Rattle.ds_conductor_base.specs.declared.queue.VisitQueue.TheInside as queues

-- all that wait, as they are stored
abbrev pub stored_in : queues.Inside → List (Reverse Waiting)
stored_in q = q.trains.rows ++ ((q.older.items ++ q.newer.items) ++ q.fresh.items)

-- in their order, however they are stored
abbrev pub queue_of : queues.Inside → List Visit
queue_of q = in_order is_before (visits_in (stored_in q))

-- the first of a run is last; no two are those of one packet to one hop; and what is fresh has room in the heap and in a
-- run of its own, beside which the others have room in one
pub record IsQueue (q : queues.Inside) : Type 0 where
  pub older : IsSorted first_on_top q.older.items
  pub newer : IsSorted first_on_top q.newer.items
  pub apart : IsDistinct is_same (visits_in (stored_in q))
  pub empty : vec_len q.spare ≡ 0
  pub within : vec_len q.fresh ≤ q.room
  pub heap_room : q.room ≤ q.trains.room
  pub newer_room : q.room ≤ vec_capacity q.newer
  pub spare_room : 0 < q.room → vec_len q.older + vec_len q.newer ≤ vec_capacity q.spare
  pub fresh_room : q.room ≤ vec_capacity q.fresh
