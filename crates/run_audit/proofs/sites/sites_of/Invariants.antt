use Rattle.std.proofs.Common.{◌≡◌, map, take, Some, All, AllPairs}
use Rattle.run_audit.specs.Assembling.{Knows}
use Rattle.run_audit.specs.Bases.{basis_of}
use Rattle.meter_fabric_base.specs.Openings.{opening_at}
use Rattle.run_audit.proofs.sites.sites_of.Given as goal

-- the journals so far are one for each of their sites
abbrev pub invariant-loop-place : goal.invariant-loop-place
invariant-loop-place l = record {
  places : Knows l.sites.set (map (λ j. j.site) (take l.place l.journals));
  own : All (λ j. opening_at (basis_of l.basis) j.site ≡ Some (record { meter = j.opening; skew = j.skew })) (take l.place l.journals);
  once : AllPairs (λ j k. ¬ (j.site ≡ k.site)) (take l.place l.journals);
}
