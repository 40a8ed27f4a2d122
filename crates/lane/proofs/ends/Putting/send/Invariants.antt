use Rattle.std.proofs.Common.{◌≡◌}
use Rattle.lane.specs.Kept.{IsPutting, putting_of}
use Rattle.lane.proofs.ends.Putting.send.Given as goal

abbrev pub invariant-loop : goal.invariant-loop
invariant-loop g l =
    (goal.iterator-loop g).can_next l.iterator' × (goal.iterator-loop g).is_finite l.iterator' × IsPutting l.self-inside × (putting_of l.self-inside ≡ l.fn.self) × (l.unsent ≡ l.fn.item)
