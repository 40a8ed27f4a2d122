use Rattle.std.proofs.Common.{◌≡◌}
use Rattle.std.specs.Iterator.Adapters.{zip_first, zip_second}
use Rattle.std.specs.Slice.Iter.{iter_rest}
use Rattle.ds_checker.specs.Routed.{bound_at}
use Rattle.ds_checker.proofs.along.bound_at.Given as goal

-- what is left of the legs has it, if it is there
abbrev pub invariant-loop-leg : goal.invariant-loop-leg
invariant-loop-leg l =
    bound_at l.place l.legs l.bounds ≡ bound_at l.place (iter_rest (zip_first l.leg-iterator)) (iter_rest (zip_second l.leg-iterator))
