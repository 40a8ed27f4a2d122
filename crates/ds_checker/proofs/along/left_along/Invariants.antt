use Rattle.std.proofs.Common.{◌≡◌, Some, List, take}
use Rattle.ds_checker.specs.Besides.{IsLeft}
use Rattle.ds_checker.specs.Routed.{sums_on}
use Rattle.ds_checker.specs.declared.load.Loads.{Loads}
use Rattle.ds_checker.proofs.along.left_along.Given as goal

-- what is left at the meters of the legs so far
abbrev pub invariant-loop-number : goal.invariant-loop-number
invariant-loop-number l = (before : List Loads) → IsLeft (Some l.brought) l.sums before → take l.number l.left ≡ take l.number (sums_on l.legs before)
