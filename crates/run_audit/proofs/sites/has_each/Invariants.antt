use Rattle.std.proofs.Common.{◌<◌, ℕ, map, Contains, IsSome}
use Rattle.run_audit.specs.Bases.{basis_of}
use Rattle.meter_fabric_base.specs.Openings.{opening_at}
use Rattle.run_audit.proofs.sites.has_each.Given as goal

-- those of the numbers so far
abbrev pub invariant-loop-site : goal.invariant-loop-site
invariant-loop-site l =
    (site : ℕ) → site < l.site → IsSome (opening_at (basis_of l.basis) site) → Contains (map (λ j. j.site) l.journals) site
