use Rattle.std.proofs.Common.{◌≡◌, ◌+◌, ◌*◌, ◌^◌, drop, IfSome}
use Rattle.ds_domain_base.specs.Routes.{jitters_in}
use Rattle.ds_certificate.specs.Bounds.{entering, least_behind}
use Rattle.ds_certificate.specs.Ranges.{IsWithin}
use Rattle.ds_checker.specs.Besides.{IsNameless}
use Rattle.ds_checker.specs.Places.{earlier}
use Rattle.ds_checker.specs.Routed.{first_on}
use Rattle.ds_checker.proofs.beside.legs_refusal.Given as goal

-- the first that is found so far, or is found on the legs that are left, by the bounds behind the last one
abbrev pub invariant-loop-number : goal.invariant-loop-number
invariant-loop-number l =
    let legs = drop l.number l.legs in
    let meters = l.domain.meters in
    record {
      value : earlier l.first (first_on meters l.source l.has_peak legs (drop l.number l.sums) (least_behind l.source (jitters_in legs) l.bound))
          ≡ first_on meters l.source l.has_peak l.legs l.sums (least_behind l.source (jitters_in l.legs) (entering l.source));
      nameless : IfSome l.first (λ f. IsNameless f.1);
      range : IsWithin (5 * 10 ^ 13 + 25 * 10 ^ 12 * l.number) l.bound;
    }
