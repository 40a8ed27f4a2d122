use Rattle.std.proofs.Common.{◌≤◌}
use Rattle.ds_conductor_base.proofs.guess.move_up.Given as goal

-- a number goes towards the front alone
abbrev pub invariant-loop : goal.invariant-loop
invariant-loop l = record { front : l.free ≤ l.place }
