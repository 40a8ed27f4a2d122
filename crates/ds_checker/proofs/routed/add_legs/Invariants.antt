use Rattle.std.proofs.Common.{◌≡◌, ◌+◌, ◌-◌, ◌*◌, ◌^◌, ◌≤◌, ℕ, length}
use Rattle.std.specs.Iterator.Adapters.{zip_first, zip_second}
use Rattle.std.specs.List.{AllByRecursion}
use Rattle.std.specs.Slice.Iter.{iter_rest}
use Rattle.ds_domain_base.specs.Routes.{AreInside}
use Rattle.ds_checker.specs.Routed.{AreBounds, with_legs}
use Rattle.ds_checker.specs.Sums.{AreBelow}
use Rattle.ds_checker.proofs.routed.add_legs.Given as goal

-- what is added so far, and what is brought along the legs that are left
abbrev pub invariant-loop-leg : goal.invariant-loop-leg
invariant-loop-leg l =
    let legs = iter_rest (zip_first l.leg-iterator) in
    let bounds = iter_rest (zip_second l.leg-iterator) in
    record {
      value : with_legs l.source l.has_peak legs bounds l.sums ≡ with_legs l.source l.has_peak l.legs l.bounds l.initial.sums;
      inside : AreInside (length l.sums) legs;
      short : length legs ≤ 16;
      small : AreBounds legs bounds → AreBounds l.legs l.bounds;
      range : (most : ℕ) → AllByRecursion (AreBelow most) l.initial.sums → AllByRecursion (AreBelow (most + 2 * 10 ^ 15 * (16 - length legs))) l.sums;
    }
