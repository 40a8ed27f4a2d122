use Rattle.std.proofs.Common.{◌≡◌, map, take}
use Rattle.ds_runs.specs.Judging.{silent}
use Rattle.ds_runs.proofs.sender.silent_senders.Given as goal

-- the contracts up to here
abbrev pub invariant-loop-place : goal.invariant-loop-place
invariant-loop-place l = l.senders.items ≡ map (silent l.accepted.domain) (take l.place l.contracts)
