use Rattle.std.proofs.Common.{arith, ap, length}
use Rattle.ds_checker.proofs.table.unloaded.Goals as goal

pub loop-meter-smaller : goal.loop-meter-smaller
loop-meter-smaller c = omega (arith, ap length c.in-Some.ensures.steps)
