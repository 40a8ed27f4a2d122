use Rattle.std.proofs.Common.{◌≡◌, ◌+◌, ◌*◌, ◌^◌, ◌++◌, drop}
use Rattle.ds_domain_base.specs.Routes.{jitters_in}
use Rattle.ds_certificate.specs.Bounds.{least_behind, least_on}
use Rattle.ds_certificate.specs.Ranges.{IsWithin}
use Rattle.ds_certificate.proofs.least.bounds_along.Given as goal

-- the least bounds so far, and those behind the legs that are left
abbrev pub invariant-loop-leg : goal.invariant-loop-leg
invariant-loop-leg l = record {
  value : l.hops.items ++ least_behind l.source (jitters_in (drop l.leg-index l.legs)) l.last ≡ least_on l.source l.route;
  range : IsWithin (5 * 10 ^ 13 + 25 * 10 ^ 12 * l.leg-index) l.last;
}
