use Rattle.std.proofs.Common.{arith, ◌<◌, length}
use Rattle.std.proofs.lemmas.Slice.Zip.{Zip-more, either_empty_from_Zip}
use Rattle.ds_checker.proofs.RoutedLaws.{inside-here, inside-set}
use Rattle.ds_checker.proofs.RoutedPlaceLaws.{before-long, leg-counted, leg-taken, once-here, taken-whole}
use Rattle.ds_checker.proofs.routed.take_legs.Goals as goal

pub without-requires : goal.without-requires
without-requires c =
    let more = Zip-more c.loop-leg.leg-iterator c.next.new.self c.next.result _ c.in-Some.is c.next.ensures.steps in
    let inside = inside-here _ _ _ _ more.0 c.loop-leg.invariant.inside in
    let before = c.requires.added.0 in
    let added = c.loop-leg.invariant.value before c.requires.added.1 in
    let long = before-long c.args.source.now c.args.has_peak _ _ c.loop-leg.sums before added in
    let within : c.in-Some.leg.now.place < length before = omega (arith, inside.0, long) in
    leg-counted c.args.source.now c.args.has_peak _ _ c.in-Some.leg.now _ _ c.in-Some.bound.now c.loop-leg.sums before c.index-sums-leg.result more.0 more.1 within
    (once-here _ _ _ more.0 c.loop-leg.invariant.once).0 c.index-sums-leg.is added

pub loop-leg-preserved : goal.loop-leg-preserved
loop-leg-preserved c =
    let more = Zip-more c.loop-leg.leg-iterator c.next.new.self c.next.result _ c.in-Some.is c.next.ensures.steps in
    let inside = inside-here _ _ _ _ more.0 c.loop-leg.invariant.inside in
    let once = once-here _ _ _ more.0 c.loop-leg.invariant.once in
    record {
      value = λ before is_before.
          let added = c.loop-leg.invariant.value before is_before in
          let long = before-long c.args.source.now c.args.has_peak _ _ c.loop-leg.sums before added in
          let within : c.in-Some.leg.now.place < length before = omega (arith, inside.0, long) in
          leg-taken c.args.source.now c.args.has_peak _ _ c.in-Some.leg.now _ _ c.in-Some.bound.now c.loop-leg.sums before c.index-sums-leg.result c.without.result more.0 more.1
          within once.0 c.index-sums-leg.is c.without.ensures added;
      inside = inside-set 0 c.loop-leg.sums c.in-Some.leg.now.place c.without.result _ inside.1;
      once = once.1;
    }

pub returns : goal.returns
returns c before is_before =
    taken-whole c.args.source.now c.args.has_peak _ _ c.loop-leg.sums before (either_empty_from_Zip c.loop-leg.leg-iterator c.next.new.self c.next.result c.in-None.is c.next.ensures.steps)
    (c.loop-leg.invariant.value before is_before)
