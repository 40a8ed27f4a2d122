use Rattle.std.proofs.Common.{None, Some, arith, refl}
use Rattle.std.proofs.lemmas.Bool.{cond_above, cond_below}
use Rattle.dsedge_meter.specs.Arrivals.{sized_since}
use Rattle.dsedge_meter.proofs.arrivals.sized_moment.Goals as goal

pub returns-in_err-item : goal.returns-in_err-item
unfolding sized_since
returns-in_err-item c = rw (← c.in_err-item.ensures) c.from_residual.ensures

pub returns-then-get : goal.returns-then-get
unfolding sized_since
returns-then-get c = rw (← c.in_ok-item.ensures) (cond_below c.in_ok-item.item.0 c.args.newest None (Some c.in_ok-item.item) (omega arith))

pub returns-else-get : goal.returns-else-get
unfolding sized_since
returns-else-get c = rw (← c.in_ok-item.ensures) (cond_above c.in_ok-item.item.0 c.args.newest None (Some c.in_ok-item.item) _ (omega arith) refl)
