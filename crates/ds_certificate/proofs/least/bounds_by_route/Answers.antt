use Rattle.std.proofs.Common.{◌≡◌, IfOk, subst}
use Rattle.ds_certificate.proofs.RouteLaws.{least-route}
use Rattle.ds_certificate.proofs.least.bounds_by_route.Goals as goal

pub returns-clause-value : goal.returns-clause-value
returns-clause-value c =
    subst (λ least. IfOk c.bounds_along.result (λ bounds. bounds.items ≡ least))
    (least-route c.args.domain.now c.args.contract.now c.args.route.now c.along-source.result c.requires c.along-source.ensures.value) c.bounds_along.ensures
