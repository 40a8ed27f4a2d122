use Rattle.std.proofs.Common.{arith, ap, length, length-append, refl, ◌∙◌}
use Rattle.std.proofs.lemmas.List.{drop_all}
use Rattle.ds_domain_base.proofs.RouteLaws.{legs-more, legs-whole, path_at, unknown-more, unknown-whole, unlinked-more, unlinked-whole}
use Rattle.ds_domain_base.proofs.route.found_along.Goals as goal

pub loop-to-preserved : goal.loop-to-preserved
loop-to-preserved c =
    let d = c.args.domain.now in
    let here = path_at c.args.path.now c.loop-to.to-index c.to-item.result c.loop-to-test.true c.to-item.is in
    record {
      legs = legs-more d c.loop-to.from c.to-item.result _ _ c.loop-to.legs c.push.new.self _ _ here c.leg_between-leg.ensures.leg c.push.ensures c.loop-to.invariant.legs;
      unknown = unknown-more d c.to-item.result _ _ c.loop-to.unknown _ _ _ here c.leg_between-leg.ensures.unknown refl c.loop-to.invariant.unknown;
      unlinked = unlinked-more d c.loop-to.from c.to-item.result _ _ c.loop-to.unlinked _ _ _ here c.leg_between-leg.ensures.unlinked refl c.loop-to.invariant.unlinked;
      many = ap length c.push.ensures ∙ simp length-append (omega (arith, c.loop-to.invariant.many));
    }

pub returns-clause-legs : goal.returns-clause-legs
returns-clause-legs c =
    legs-whole c.args.domain.now c.loop-to.from _ c.loop-to.legs _ (drop_all c.loop-to.to-index c.args.path.now (omega arith)) c.loop-to.invariant.legs

pub returns-clause-unknown : goal.returns-clause-unknown
returns-clause-unknown c =
    unknown-whole c.args.domain.now _ c.loop-to.unknown _ (drop_all c.loop-to.to-index c.args.path.now (omega arith)) c.loop-to.invariant.unknown

pub returns-clause-unlinked : goal.returns-clause-unlinked
returns-clause-unlinked c =
    unlinked-whole c.args.domain.now c.loop-to.from _ c.loop-to.unlinked _ (drop_all c.loop-to.to-index c.args.path.now (omega arith)) c.loop-to.invariant.unlinked
