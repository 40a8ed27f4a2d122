use Rattle.std.proofs.Common.{length, ap, ◌∙◌, subst, sym}
use Rattle.ds_domain_base.specs.Sent.{has_peak}
use Rattle.ds_domain_base.specs.Routes.{AreInside}
use Rattle.ds_checker.specs.Routed.{AreBounds, with_legs}
use Rattle.ds_checker.proofs.RoutedLaws.{routed-brought, routed-inside, routed-small}
use Rattle.ds_checker.proofs.routed.add_on_route.Goals as goal

pub add_legs-requires-clause-inside : goal.add_legs-requires-clause-inside
add_legs-requires-clause-inside c =
    subst (λ legs. AreInside (length c.args.sums.now) legs) (sym c.legs.ensures.value)
    (subst (λ meters. AreInside meters c.args.route.now.legs) (sym c.requires.places)
    (routed-inside c.args.domain.now c.args.contract.now c.args.route.now c.requires.route c.requires.shape.0))

pub returns-clause-value : goal.returns-clause-value
returns-clause-value c =
    let source = c.along-source.result in
    let behind = c.split_at.result.1.now in
    c.add_legs.ensures.value
    ∙ ap (λ peaked. with_legs source peaked c.legs.result.now behind c.args.sums.now) c.has_peak-has_peak.ensures
    ∙ ap (λ legs. with_legs source (has_peak c.args.contract.now.terms) legs behind c.args.sums.now) c.legs.ensures.value
    ∙ routed-brought c.args.domain.now c.args.contract.now c.args.route.now source c.args.bounds.now behind c.args.sums.now c.requires.route c.along-source.ensures.value
    c.split_at.ensures.back c.requires.shape c.requires.apart c.requires.places

pub returns-clause-small : goal.returns-clause-small
returns-clause-small c =
    let behind = c.split_at.result.1.now in
    routed-small c.args.domain.now c.args.contract.now c.args.route.now c.along-source.result c.args.bounds.now behind c.requires.route c.along-source.ensures.value
    c.split_at.ensures.back c.along-source.ensures.moderate (subst (λ legs. AreBounds legs behind) c.legs.ensures.value c.add_legs.ensures.small)
