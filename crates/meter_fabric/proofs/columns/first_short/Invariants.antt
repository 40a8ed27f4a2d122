use Rattle.std.proofs.Common.{ℕ, ◌<◌, ◌≤◌}
use Rattle.meter_fabric.specs.Closing.{rows_at}
use Rattle.meter_fabric.specs.Fabrics.{visits_at}
use Rattle.meter_fabric.proofs.columns.first_short.Given as goal

-- none of the sites so far
abbrev pub invariant-loop-site : goal.invariant-loop-site
invariant-loop-site g l = (s : ℕ) → s < l.site → visits_at l.passes s ≤ rows_at l.books s
