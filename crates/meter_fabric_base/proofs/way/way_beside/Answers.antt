use Rattle.std.proofs.Common.{ap, get_or, refl, sym, ◌∙◌}
use Rattle.ds_domain_base.specs.Routes.{route_of}
use Rattle.meter_fabric_base.specs.Sites.{hops_of}
use Rattle.meter_fabric_base.proofs.WayLaws.{no_way, way_there}
use Rattle.meter_fabric_base.proofs.way.way_beside.Goals as goal

pub returns-then-flow-ge-MOST_FLOWS : goal.returns-then-flow-ge-MOST_FLOWS
returns-then-flow-ge-MOST_FLOWS c =
    let n = c.args.numbered.now in
    c.none.ensures ∙ no_way n.accepted.now n.flows.now (get_or n.flows.now c.args.place 0) c.if-flow-ge-MOST_FLOWS.true

pub of-requires-clause-route : goal.of-requires-clause-route
of-requires-clause-route c =
    let own = c.contract_at.result.now in
    c.route.ensures own c.contract_at.ensures ∙ ap (λ d. route_of d own) (sym c.domain.ensures.value)

pub returns : goal.returns
returns c =
    let n = c.args.numbered.now in
    let flow = get_or n.flows.now c.args.place 0 in
    let own = c.of.ensures ∙ ap (λ d. hops_of d flow c.contract_at.result.now) c.domain.ensures.value in
    way_there n.accepted.now n.flows.now flow c.args.place c.contract_at.result.now c.of.result n.rising c.if-flow-ge-MOST_FLOWS.false c.requires refl
    c.contract_at.ensures own
