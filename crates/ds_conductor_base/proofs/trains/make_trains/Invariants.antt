use Rattle.ds_conductor_base.specs.Trains.{IsKept}
use Rattle.ds_conductor_base.proofs.trains.make_trains.Given as goal

-- the trains so far are empty
abbrev pub invariant-loop : goal.invariant-loop
invariant-loop l = IsKept l.fn.trains.items l.trains.items
