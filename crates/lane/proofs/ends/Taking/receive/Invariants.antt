use Rattle.std.proofs.Common.{◌≡◌}
use Rattle.lane.specs.Kept.{IsTaking, taking_of}
use Rattle.lane.proofs.ends.Taking.receive.Given as goal

abbrev pub invariant-loop : goal.invariant-loop
invariant-loop g l =
    (goal.iterator-loop g).can_next l.iterator' × (goal.iterator-loop g).is_finite l.iterator' × IsTaking l.self-inside × (taking_of l.self-inside ≡ l.fn.self)
