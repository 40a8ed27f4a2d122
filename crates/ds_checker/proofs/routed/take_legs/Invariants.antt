use Rattle.std.proofs.Common.{◌≡◌, List, length, nat_eq}
use Rattle.std.specs.Iterator.Adapters.{zip_first, zip_second}
use Rattle.std.specs.List.{IsDistinct}
use Rattle.std.specs.Slice.Iter.{iter_rest}
use Rattle.ds_domain_base.specs.Routes.{AreInside, places_of}
use Rattle.ds_checker.specs.Routed.{with_legs}
use Rattle.ds_checker.specs.declared.load.Loads.{Loads}
use Rattle.ds_checker.proofs.routed.take_legs.Given as goal

-- what is left to be taken back was added along the legs that are left
abbrev pub invariant-loop-leg : goal.invariant-loop-leg
invariant-loop-leg l =
    let legs = iter_rest (zip_first l.leg-iterator) in
    let bounds = iter_rest (zip_second l.leg-iterator) in
    record {
      value : (before : List Loads) → l.initial.sums ≡ with_legs l.source l.has_peak l.legs l.bounds before → l.sums ≡ with_legs l.source l.has_peak legs bounds before;
      inside : AreInside (length l.sums) legs;
      once : IsDistinct nat_eq (places_of legs);
    }
