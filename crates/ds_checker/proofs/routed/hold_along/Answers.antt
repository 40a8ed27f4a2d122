use Rattle.std.proofs.Common.{arith, length, refl, ap}
use Rattle.std.proofs.lemmas.Slice.Zip.{Zip-more, either_empty_from_Zip}
use Rattle.ds_checker.proofs.RoutedHoldLaws.{hold-ended, hold-leg}
use Rattle.ds_checker.proofs.routed.hold_along.Goals as goal

pub loop-leg-preserved : goal.loop-leg-preserved
loop-leg-preserved c =
    let more = Zip-more c.loop-leg.leg-iterator c.next.new.self c.next.result _ c.in-Some.is c.next.ensures.steps in
    record {
      value = hold-leg c.args.source.now c.loop-leg.way c.longest-way.result _ _ _ c.in-Some.leg.now _ _ c.in-Some.bound.now c.loop-leg.hold c.gap.result c.hold_at_hop.result
          c.max-hold.result _ more.0 more.1 c.longest-way.ensures.value refl c.gap.ensures.value c.hold_at_hop.ensures c.max-hold.ensures c.loop-leg.invariant.value;
      range = omega (arith, ap length more.0, c.longest-way.ensures.range, c.loop-leg.invariant.range);
    }

pub returns : goal.returns
returns c =
    hold-ended c.args.source.now c.loop-leg.way _ _ c.loop-leg.hold _ (either_empty_from_Zip c.loop-leg.leg-iterator c.next.new.self c.next.result c.in-None.is c.next.ensures.steps)
    c.loop-leg.invariant.value
