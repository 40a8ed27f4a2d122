use Rattle.std.proofs.Common.{◌≡◌, ◌+◌, ◌*◌, ◌^◌, ◌≤◌, length, max}
use Rattle.std.specs.Iterator.Adapters.{zip_first, zip_second}
use Rattle.std.specs.Slice.Iter.{iter_rest}
use Rattle.ds_checker.specs.Holds.{greatest}
use Rattle.ds_checker.specs.Routed.{holds_on}
use Rattle.ds_checker.proofs.routed.hold_along.Given as goal

-- the greatest so far, and those of the legs that are left
abbrev pub invariant-loop-leg : goal.invariant-loop-leg
invariant-loop-leg l =
    let legs = iter_rest (zip_first l.leg-iterator) in
    let bounds = iter_rest (zip_second l.leg-iterator) in
    record {
      value : max l.hold (greatest (holds_on l.source l.way legs bounds)) ≡ greatest (holds_on l.source 0 l.legs l.bounds);
      range : l.way + 2 * 10 ^ 10 * length legs ≤ 2 ^ 100;
    }
