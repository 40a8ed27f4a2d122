use Rattle.std.proofs.Common.{◌≡◌, Some, take}
use Rattle.std.specs.Prelude.{All}
use Rattle.meter_fabric_base.specs.Travels.{next_site}
use Rattle.worked_fabric.proofs.rows.tables.come_to.Given as goal

-- those up to here come to the site
abbrev pub invariant-loop-visit : goal.invariant-loop-visit
invariant-loop-visit l = All (λ visit. next_site visit.traveller ≡ Some l.fn.site) (take l.visit-index l.visits)
