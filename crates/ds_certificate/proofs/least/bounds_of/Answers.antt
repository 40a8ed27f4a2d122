use Rattle.std.proofs.Common.{ap, is_none, sym, subst}
use Rattle.std.specs.List.{AllZip}
use Rattle.ds_certificate.specs.Bounds.{HasShape, IsAtMost, Meets}
use Rattle.ds_certificate.proofs.LeastLaws.{HasShape-least, Meets-least, least_below}
use Rattle.ds_certificate.proofs.least.bounds_of.Goals as goal

pub returns-in_ok-bounds_by_route-in-Ok-clause-meets : goal.returns-in_ok-bounds_by_route-in-Ok-clause-meets
returns-in_ok-bounds_by_route-in-Ok-clause-meets c =
    let d = c.args.domain.now in
    let contract = c.args.contract.now in
    subst (λ bounds. HasShape d contract bounds × Meets d contract bounds) (sym c.in_ok-bounds_by_route-in-Ok.ensures.value)
    (HasShape-least d contract (ap is_none c.in-Ok.ensures.0), Meets-least d contract)

pub returns-in_ok-bounds_by_route-in-Ok-clause-least : goal.returns-in_ok-bounds_by_route-in-Ok-clause-least
returns-in_ok-bounds_by_route-in-Ok-clause-least c other shape met =
    subst (λ bounds. AllZip IsAtMost bounds other) (sym c.in_ok-bounds_by_route-in-Ok.ensures.value)
    (least_below c.args.domain.now c.args.contract.now other shape met)
