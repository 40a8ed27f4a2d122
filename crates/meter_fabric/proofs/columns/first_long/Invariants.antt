use Rattle.std.proofs.Common.{ℕ, ◌<◌, ◌≤◌}
use Rattle.meter_fabric.specs.Closing.{rows_at}
use Rattle.meter_fabric.specs.Fabrics.{visits_at}
use Rattle.meter_fabric.proofs.columns.first_long.Given as goal

-- none of the sites so far
abbrev pub invariant-loop-site : goal.invariant-loop-site
invariant-loop-site g l = (s : ℕ) → s < l.site → rows_at l.books s ≤ visits_at l.passes s
