use Rattle.std.proofs.Common.{◌≡◌, ◌≤◌, ◌+◌, ◌++◌, length, map, take, vec_capacity, vec_len}
use Rattle.ds_conductor_base.specs.Visits.{visit_to}
use Rattle.ds_conductor_base.specs.Waits.{visits_in}
use Rattle.ds_conductor_base.proofs.queue.push_visits.Given as goal

-- there is room for the visits that are left, and the others stand behind
abbrev pub invariant-loop-stop : goal.invariant-loop-stop
invariant-loop-stop l = record {
  len : vec_len l.fresh ≡ vec_len l.fn.fresh + l.stop-index;
  room : vec_len l.fn.fresh + length l.stops ≤ vec_capacity l.fresh;
  kept : vec_capacity l.fn.fresh ≤ vec_capacity l.fresh;
  added : visits_in l.fresh.items ≡ visits_in l.fn.fresh.items ++ map (visit_to l.place l.packet) (take l.stop-index l.stops);
}
