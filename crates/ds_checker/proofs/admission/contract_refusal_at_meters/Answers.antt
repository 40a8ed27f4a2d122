use Rattle.std.proofs.Common.{length, subst, sym}
use Rattle.ds_domain_base.specs.Routes.{AreInside}
use Rattle.ds_checker.proofs.BesideLaws.{routed-refused}
use Rattle.ds_checker.proofs.RoutedLaws.{routed-inside}
use Rattle.ds_checker.proofs.admission.contract_refusal_at_meters.Goals as goal

pub bounded_refusal-requires-clause-inside : goal.bounded_refusal-requires-clause-inside
bounded_refusal-requires-clause-inside c =
    subst (λ legs. AreInside (length c.args.sums.now) legs) (sym c.legs.ensures.value)
    (subst (λ n. AreInside n c.args.route.now.legs) (sym c.requires.places)
    (routed-inside c.args.domain.now c.args.contract.now c.args.route.now c.requires.route c.requires.shape.0))

pub returns : goal.returns
returns c =
    routed-refused c.args.domain.now c.args.contract.now c.args.route.now c.along-source.result c.has_peak-has_peak.result c.legs.result.now c.args.bounds.now c.split_at.result.1.now
    c.args.sums.now c.bounded_refusal.result c.bounded_refusal.ensures c.requires.route c.legs.ensures.kept c.along-source.ensures.value c.has_peak-has_peak.ensures c.legs.ensures.value
    c.split_at.ensures.back c.requires.shape c.meters-meters.ensures.kept.meters_differ c.requires.places c.requires.passed
