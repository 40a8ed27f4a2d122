use Rattle.std.proofs.Common.{rules, ◌≡◌, length, ap, sym, arith, ◌∙◌}
use Rattle.std.specs.Option.{option_or}
use Rattle.ds_domain_base.specs.Routes.{jitters_in}
use Rattle.ds_certificate.specs.Sources.{jitters_of, source_of}
use Rattle.ds_certificate.proofs.RouteLaws.{source-route}
use Rattle.ds_checker.specs.BoundTests.{hop_tests}
use Rattle.ds_checker.specs.Tests.{first_failed}
use Rattle.ds_checker.proofs.BoundLaws.{along-empty, along-parts, jitters-route, or_else_is}
use Rattle.ds_checker.proofs.bounds.contract_refusal.Goals as goal

pub returns-in_err-first : goal.returns-in_err-first
returns-in_err-first c =
    let empty : length c.args.bounds.now ≡ 0 = omega (arith, c.in_err-first.ensures.cases) in
    c.from_residual.ensures ∙ sym (along-empty c.args.number (source_of c.args.domain.now c.args.contract.now) (jitters_of c.args.domain.now c.args.contract.now) c.args.bounds.now empty)

pub returns : goal.returns
returns c =
    let d = c.args.domain.now in
    let contract = c.args.contract.now in
    let first = c.in_ok-first.first.now in
    let behind = c.in_ok-first.behind.now in
    let source = c.along-source.result in
    let hops = first_failed (hop_tests c.args.number 1 source (jitters_in c.legs-legs.result.now) first behind) in
    or_else_is c.first_refusal.result hops c.or_else.result c.or_else.ensures (λ called. search rules)
    ∙ ap (λ jitters. option_or c.first_refusal.result (first_failed (hop_tests c.args.number 1 source jitters first behind)))
    (ap jitters_in c.legs-legs.ensures.value ∙ jitters-route d contract c.args.route.now c.requires)
    ∙ along-parts c.args.number (source_of d contract) (jitters_of d contract) c.args.bounds.now first behind source c.first_refusal.result
    (c.along-source.ensures.value ∙ source-route d contract c.args.route.now c.requires) c.in_ok-first.ensures.cases.0 c.first_refusal.ensures
