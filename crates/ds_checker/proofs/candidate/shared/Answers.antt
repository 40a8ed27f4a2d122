use Rattle.std.proofs.Common.{arith}
use Rattle.ds_checker.proofs.candidate.shared.Goals as goal

pub bounds-routes-route-index : goal.bounds-routes-route-index
bounds-routes-route-index c = c.loop-route-test.true

pub offset_bounds-routes-route-index : goal.offset_bounds-routes-route-index
offset_bounds-routes-route-index c = omega (arith, c.loop-route-test.true)

pub loop-route-smaller : goal.loop-route-smaller
loop-route-smaller c = omega (arith, c.loop-route-test.true)
