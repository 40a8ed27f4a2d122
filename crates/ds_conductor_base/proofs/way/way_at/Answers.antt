use Rattle.std.proofs.Common.{◌∙◌, ap, sym}
use Rattle.ds_domain_base.specs.Routes.{route_of}
use Rattle.meter_fabric_base.proofs.PathLaws.{known_contract}
use Rattle.ds_conductor_base.proofs.way.way_at.Goals as goal

pub route-route-requires : goal.route-route-requires
route-route-requires c = (known_contract c.args.accepted.now c.args.flow c.in-Some.contract.now (sym c.in-Some.ensures)).1

pub stops_of-requires-clause-numbered : goal.stops_of-requires-clause-numbered
stops_of-requires-clause-numbered c = (known_contract c.args.accepted.now c.args.flow c.in-Some.contract.now (sym c.in-Some.ensures)).0

pub stops_of-requires-clause-route : goal.stops_of-requires-clause-route
stops_of-requires-clause-route c =
    let own = c.in-Some.contract.now in
    c.route-route.ensures own (known_contract c.args.accepted.now c.args.flow own (sym c.in-Some.ensures)).2 ∙ ap (λ d. route_of d own) (sym c.domain.ensures.value)
