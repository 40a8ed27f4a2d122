use Rattle.std.proofs.Common.{arith, ◌+◌, ◌*◌, ◌^◌, length, ap}
use Rattle.std.specs.Iterator.Adapters.{zip_first}
use Rattle.std.specs.Slice.Iter.{iter_rest}
use Rattle.std.proofs.lemmas.Slice.Zip.{Zip-more, either_empty_from_Zip}
use Rattle.ds_checker.proofs.LoadLaws.{AreBelow-more}
use Rattle.ds_checker.proofs.RoutedLaws.{bounds-ended, bounds-hop, inside-here, inside-set, leg_range, leg_room, legs-ended, legs-hop}
use Rattle.ds_checker.proofs.routed.add_legs.Goals as goal

pub with-requires-clause-room : goal.with-requires-clause-room
with-requires-clause-room c =
    let more = Zip-more c.loop-leg.leg-iterator c.next.new.self c.next.result _ c.in-Some.is c.next.ensures.steps in
    leg_room (length (iter_rest (zip_first c.loop-leg.leg-iterator))) c.loop-leg.sums c.args.sums.now c.in-Some.leg.now.place c.index-sums-leg.result c.loop-leg.invariant.short
    (inside-here _ _ _ _ more.0 c.loop-leg.invariant.inside).0 c.index-sums-leg.is c.requires.room c.loop-leg.invariant.range

pub loop-leg-preserved : goal.loop-leg-preserved
loop-leg-preserved c =
    let more = Zip-more c.loop-leg.leg-iterator c.next.new.self c.next.result _ c.in-Some.is c.next.ensures.steps in
    let inside = inside-here _ _ _ _ more.0 c.loop-leg.invariant.inside in
    record {
      value = legs-hop c.args.source.now c.args.has_peak _ _ c.in-Some.leg.now _ _ c.in-Some.bound.now c.loop-leg.sums _ c.index-sums-leg.result c.with.result more.0 more.1
          inside.0 c.index-sums-leg.is c.with.ensures.value c.loop-leg.invariant.value;
      inside = inside-set 0 c.loop-leg.sums c.in-Some.leg.now.place c.with.result _ inside.1;
      short = omega (arith, ap length more.0, c.loop-leg.invariant.short);
      small = λ behind. c.loop-leg.invariant.small (bounds-hop _ _ c.in-Some.leg.now _ _ c.in-Some.bound.now more.0 more.1 c.with.ensures.small behind);
      range = λ most below. leg_range _ _ c.loop-leg.sums c.in-Some.leg.now.place c.index-sums-leg.result c.with.result most (ap length more.0) c.loop-leg.invariant.short
          inside.0 c.index-sums-leg.is c.with.ensures.range (c.loop-leg.invariant.range most below);
    }

pub returns-clause-value : goal.returns-clause-value
returns-clause-value c =
    legs-ended c.args.source.now c.args.has_peak _ _ c.loop-leg.sums _ (either_empty_from_Zip c.loop-leg.leg-iterator c.next.new.self c.next.result c.in-None.is c.next.ensures.steps)
    c.loop-leg.invariant.value

pub returns-clause-range : goal.returns-clause-range
returns-clause-range c most below = AreBelow-more _ (most + 32 * 10 ^ 15) c.loop-leg.sums (omega arith) (c.loop-leg.invariant.range most below)

pub returns-clause-small : goal.returns-clause-small
returns-clause-small c =
    c.loop-leg.invariant.small (bounds-ended _ _ (either_empty_from_Zip c.loop-leg.leg-iterator c.next.new.self c.next.result c.in-None.is c.next.ensures.steps))
