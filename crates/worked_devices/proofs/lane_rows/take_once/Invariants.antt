use Rattle.std.proofs.Common.{◌≡◌}
use Rattle.worked_devices.proofs.lane_rows.take_once.Given as goal

abbrev pub invariant-loop : goal.invariant-loop
invariant-loop g l =
    (goal.iterator-loop g).can_next l.iterator' × (goal.iterator-loop g).is_finite l.iterator' × (l.taking.lane ≡ l.fn.taking.lane)
