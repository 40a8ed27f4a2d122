use Rattle.std.proofs.Common.{arith, length, Some}
use Rattle.ds_checker.specs.Routed.{sums_at}
use Rattle.ds_checker.proofs.BesideLaws.{left-here}
use Rattle.ds_checker.proofs.CopyLaws.{one-set}
use Rattle.ds_checker.proofs.WalkLaws.{inside-at}
use Rattle.ds_checker.proofs.along.left_along.Goals as goal

pub left_at-requires : goal.left_at-requires
left_at-requires c =
    let leg = c.index-legs-number.result in
    let before = c.requires.left.0 in
    let inside = inside-at (length c.args.sums.now) c.args.legs.now c.loop-number.number leg c.requires.places.1 c.loop-number-test.true c.index-legs-number.is in (
      sums_at before leg.place,
      left-here (Some c.args.brought.now) c.args.sums.now before leg.place c.index-sums-leg.result c.requires.left.1 inside c.index-sums-leg.is,
    )

pub loop-number-preserved : goal.loop-number-preserved
loop-number-preserved c = λ before left.
    let leg = c.index-legs-number.result in
    let inside = inside-at (length c.args.sums.now) c.args.legs.now c.loop-number.number leg c.requires.places.1 c.loop-number-test.true c.index-legs-number.is in
    one-set (λ leg. sums_at before leg.place) c.loop-number.left c.args.legs.now leg c.left_at.result c.loop-number.number c.loop-number-test.true (omega (arith, c.loop-number-test.true, c.requires.places.0))
    (c.left_at.ensures _ (left-here (Some c.args.brought.now) c.args.sums.now before leg.place c.index-sums-leg.result left inside c.index-sums-leg.is))
    c.index-legs-number.is (c.loop-number.invariant before left)
