use Rattle.std.proofs.Common.{◌≡◌, ◌≤◌, ◌*◌, ◌^◌}
use Rattle.device_core.specs.Police.{unit_from}
use Rattle.device_core.proofs.police.unit_of.Given as goal

-- the doublings that are left lead to the unit, which has room for them
abbrev pub invariant-loop-left : goal.invariant-loop-left
invariant-loop-left l = record {
  unit : unit_from l.left l.rate l.unit ≡ unit_from 34 l.rate 1;
  room : l.unit * 2 ^ l.left ≤ 2 ^ 34;
}

abbrev pub decreases-loop-left : goal.decreases-loop-left
decreases-loop-left l = l.left
