use Rattle.std.proofs.Common.{arith, ap, ◌∙◌}
use Rattle.std.proofs.lemmas.List.{drop_all}
use Rattle.ds_certificate.specs.Bounds.{delayed}
use Rattle.ds_certificate.proofs.RouteLaws.{leg_kept, legs-ended}
use Rattle.ds_certificate.proofs.least.bounds_along.Goals as goal

pub loop-leg-preserved : goal.loop-leg-preserved
loop-leg-preserved c = record {
  value = leg_kept c.loop-leg.hops.items c.push-in-loop-leg.new.self.items c.args.source.now c.legs-legs.result.now c.loop-leg.leg-index c.leg-item.result c.loop-leg.last
      c.delayed-next.result _ c.loop-leg-test.true c.leg-item.is (c.delayed-next.ensures.value ∙ ap (λ jitter. delayed c.args.source.now jitter c.loop-leg.last) c.gap.ensures.value)
      c.in_ok-push-2.ensures.items c.loop-leg.invariant.value;
  range = (omega arith, (omega arith, (omega arith, tt)));
}

pub returns : goal.returns
returns c = legs-ended c.loop-leg.hops.items c.args.source.now _ c.loop-leg.last _ (drop_all c.loop-leg.leg-index c.legs-legs.result.now (omega arith)) c.loop-leg.invariant.value
