use Rattle.std.proofs.Common.{arith, ◌<◌, ◌+◌, ◌++◌, ◌^◌, ap, drop, length, subst, sym, ◌∙◌}
use Rattle.std.proofs.lemmas.List.{drop_all, take_more_set}
use Rattle.ds_domain_base.specs.Routes.{jitters_in}
use Rattle.ds_certificate.specs.Bounds.{delayed, least_behind}
use Rattle.ds_checker.specs.Growths.{growths_on}
use Rattle.ds_checker.specs.Sums.{AreBelow}
use Rattle.ds_checker.proofs.BoundLaws.{item_ahead}
use Rattle.ds_checker.proofs.GrowthLaws.{filler-long, filler-next, growth-hop, growths-ended, growths-whole}
use Rattle.ds_checker.proofs.LoadLaws.{AreBelow-at}
use Rattle.ds_checker.proofs.RoutedLaws.{least-leg}
use Rattle.ds_checker.proofs.beside.growths_along.Goals as goal

pub at-requires : goal.at-requires
at-requires c = omega (arith, c.loop-number-test.true, c.requires.level)

pub growth_at-requires-clause-room : goal.growth_at-requires-clause-room
growth_at-requires-clause-room c =
    let inside : c.loop-number.number < length c.args.sums.now = omega (arith, c.loop-number-test.true, c.requires.level) in
    subst (AreBelow (2 ^ 120)) (sym c.at.ensures) (AreBelow-at (2 ^ 120) c.args.sums.now c.loop-number.number c.at.result.now inside c.requires.room)

pub loop-number-preserved : goal.loop-number-preserved
loop-number-preserved c =
    let leg = c.index-legs-number.result in
    let at = c.loop-number.number in
    let few : at < 16 = omega (arith, c.loop-number-test.true, c.requires.short) in
    let inside : at < length c.args.sums.now = omega (arith, c.loop-number-test.true, c.requires.level) in
    let legs = item_ahead c.args.legs.now at leg c.loop-number-test.true c.index-legs-number.is in
    let sums = item_ahead c.args.sums.now at c.at.result.now inside c.at.ensures in
    let is_next = c.delayed-reached.ensures.value ∙ ap (λ jitter. delayed c.args.source.now jitter c.loop-number.reached) c.gap.ensures.value in
    let next = least-leg c.args.source.now _ _ leg c.loop-number.reached c.delayed-reached.result legs is_next in
    let within = filler-long c.loop-number.growths at few c.loop-number.invariant.rest in
    let left = drop (at + 1) c.args.legs.now in
    let range = c.delayed-reached.ensures.range in
    let last = c.loop-number.invariant.range in
    record {
      value = ap (λ done. done ++ growths_on c.args.domain.now.meters c.args.source.now c.args.peaked left (drop (at + 1) c.args.sums.now)
          (least_behind c.args.source.now (jitters_in left) c.delayed-reached.result)) (take_more_set c.loop-number.growths at c.growth_at.result within)
          ∙ growth-hop c.args.domain.now.meters c.args.source.now c.args.peaked _ _ leg _ _ c.at.result.now _ _ c.delayed-reached.result c.growth_at.result _ _ legs sums next
          c.growth_at.ensures c.loop-number.invariant.value;
      rest = filler-next c.loop-number.growths at c.growth_at.result few c.loop-number.invariant.rest;
      range = (omega (arith, range.0, last.0), (omega (arith, range.1.0, last.1.0), (omega (arith, range.1.1.0, last.1.1.0), tt)));
    }

pub returns : goal.returns
returns c =
    let at = c.loop-number.number in
    let ended = drop_all at c.args.legs.now c.loop-number-test.false in
    growths-whole c.loop-number.growths _ _ at (length c.args.legs.now) (omega (arith, c.loop-number-test.false, c.loop-number.auto.number-end)) c.loop-number.invariant.value
    (ap (λ legs. growths_on c.args.domain.now.meters c.args.source.now c.args.peaked legs (drop at c.args.sums.now) (least_behind c.args.source.now (jitters_in legs) c.loop-number.reached)) ended
    ∙ growths-ended c.args.domain.now.meters c.args.source.now c.args.peaked (drop at c.args.sums.now) _)
    c.loop-number.invariant.rest
