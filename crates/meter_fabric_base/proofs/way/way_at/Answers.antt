use Rattle.std.proofs.Common.{◌∙◌, ap, sym}
use Rattle.ds_domain_base.specs.Routes.{route_of}
use Rattle.meter_fabric_base.proofs.PathLaws.{known_contract}
use Rattle.meter_fabric_base.proofs.way.way_at.Goals as goal

pub of-requires-clause-numbered : goal.of-requires-clause-numbered
of-requires-clause-numbered c = (known_contract c.args.accepted.now c.args.flow c.in-Some.contract.now (sym c.in-Some.ensures)).0

pub route-requires : goal.route-requires
route-requires c = (known_contract c.args.accepted.now c.args.flow c.in-Some.contract.now (sym c.in-Some.ensures)).1

pub of-requires-clause-route : goal.of-requires-clause-route
of-requires-clause-route c =
    let own = c.in-Some.contract.now in
    c.route.ensures own (known_contract c.args.accepted.now c.args.flow own (sym c.in-Some.ensures)).2 ∙ ap (λ d. route_of d own) (sym c.domain.ensures.value)
