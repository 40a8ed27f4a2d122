use Rattle.std.proofs.Common.{◌≡◌, drop}
use Rattle.ds_runs.specs.Judging.{reached_along}
use Rattle.ds_runs.proofs.judge.reach_along.Given as goal

-- what is left is as the whole
abbrev pub invariant-loop-stop : goal.invariant-loop-stop
invariant-loop-stop l = reached_along l.firsts.items l.moment (drop l.stop-index l.stops) ≡ reached_along l.initial.firsts.items l.moment l.stops
