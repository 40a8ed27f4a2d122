use Rattle.std.proofs.Common.{length, subst, sym}
use Rattle.ds_domain_base.specs.Routes.{AreInside}
use Rattle.ds_checker.proofs.RoutedLaws.{routed-added, routed-inside}
use Rattle.ds_checker.proofs.routed.take_on_route.Goals as goal

pub take_legs-requires-clause-inside : goal.take_legs-requires-clause-inside
take_legs-requires-clause-inside c =
    subst (λ legs. AreInside (length c.args.sums.now) legs) (sym c.legs.ensures.value)
    (subst (λ meters. AreInside meters c.args.route.now.legs) (sym c.requires.places)
    (routed-inside c.args.domain.now c.args.contract.now c.args.route.now c.requires.route c.requires.shape.0))

pub take_legs-requires-clause-added : goal.take_legs-requires-clause-added
take_legs-requires-clause-added c = (
  c.requires.added.0,
  routed-added c.args.domain.now c.args.contract.now c.args.route.now c.along-source.result c.has_peak-has_peak.result c.legs.result.now c.args.bounds.now c.split_at.result.1.now
      c.args.sums.now c.requires.added.0 c.requires.route c.along-source.ensures.value c.has_peak-has_peak.ensures c.legs.ensures.value c.split_at.ensures.back c.requires.shape
      c.requires.apart c.requires.places c.requires.added.1,
)

pub returns : goal.returns
returns c before is_before =
    c.take_legs.ensures before
    (routed-added c.args.domain.now c.args.contract.now c.args.route.now c.along-source.result c.has_peak-has_peak.result c.legs.result.now c.args.bounds.now c.split_at.result.1.now
    c.args.sums.now before c.requires.route c.along-source.ensures.value c.has_peak-has_peak.ensures c.legs.ensures.value c.split_at.ensures.back c.requires.shape
    c.requires.apart c.requires.places is_before)
