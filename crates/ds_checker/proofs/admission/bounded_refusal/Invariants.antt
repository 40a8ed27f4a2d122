use Rattle.std.proofs.Common.{◌≡◌, length}
use Rattle.std.specs.Iterator.Adapters.{zip_first, zip_second}
use Rattle.std.specs.Slice.Iter.{iter_rest}
use Rattle.ds_domain_base.specs.Routes.{AreInside}
use Rattle.ds_checker.specs.Places.{earlier}
use Rattle.ds_checker.specs.Routed.{first_on, sums_on}
use Rattle.ds_checker.proofs.admission.bounded_refusal.Given as goal

-- the first that is found so far, or is found on the legs that are left
abbrev pub invariant-loop-leg : goal.invariant-loop-leg
invariant-loop-leg l =
    let legs = iter_rest (zip_first l.leg-iterator) in
    let bounds = iter_rest (zip_second l.leg-iterator) in
    let meters = l.domain.meters in
    record {
      value : earlier l.first (first_on meters l.source l.has_peak legs (sums_on legs l.sums) bounds)
          ≡ first_on meters l.source l.has_peak l.legs (sums_on l.legs l.sums) l.bounds;
      inside : AreInside (length l.sums) legs;
    }
