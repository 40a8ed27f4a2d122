use Rattle.std.proofs.Common.{◌≡◌, is_none, refl, subst, sym, ap, ◌∙◌, IfSome, is_some}
use Rattle.ds_domain_base.specs.Routes.{route_of}
use Rattle.ds_checker.proofs.BoundLaws.{shaped-none, shaped-route, some-if, some-then}
use Rattle.ds_checker.proofs.bounds.shaped.Goals as goal

pub returns-in-Err-clause-some : goal.returns-in-Err-clause-some
returns-in-Err-clause-some c = shaped-none c.args.domain.now c.args.contract.now c.args.bounds.now (ap is_none c.in-Err.ensures)

pub returns-clause-some : goal.returns-clause-some
returns-clause-some c =
    ap is_some c.then_some.ensures ∙ some-if _ c.in-Ok.route
    ∙ shaped-route c.args.domain.now c.args.contract.now c.in-Ok.route c.legs.result.now c.args.bounds.now _ c.in-Ok.ensures.0 c.in-Ok.ensures.1 c.legs.ensures.value refl

pub returns-clause-route : goal.returns-clause-route
returns-clause-route c =
    subst (λ o. IfSome o (λ r. r ≡ route_of c.args.domain.now c.args.contract.now)) (sym c.then_some.ensures)
    (some-then (λ r. r ≡ route_of c.args.domain.now c.args.contract.now) _ c.in-Ok.route c.in-Ok.ensures.1)
