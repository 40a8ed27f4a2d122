use Rattle.std.proofs.Common.{◌≡◌, ℕ, Some, ap, sym, ◌∙◌, option_and_then, option_map}
use Rattle.ds_domain_base.specs.Domains.{port_of, skew_of}
use Rattle.ds_domain_base.specs.Routes.{Route}
use Rattle.meter_fabric_base.specs.Openings.{edge_opening}
use Rattle.meter_fabric_base.specs.declared.site.Opening.{Opening}
use Rattle.meter_fabric_base.proofs.PathLaws.{known_contract}
use Rattle.meter_fabric_base.proofs.site.edge_at.Goals as goal

pub route-route-requires : goal.route-route-requires
route-route-requires c = (known_contract c.args.accepted.now c.args.flow c.in_ok-contract.contract.now (sym c.in_ok-contract.ensures)).1

pub returns : goal.returns
returns c =
    let d = c.args.accepted.now.domain in
    let own = c.in_ok-contract.contract.now in
    let own_route = c.route-route.ensures own (known_contract c.args.accepted.now c.args.flow own (sym c.in_ok-contract.ensures)).2 in
    let skew : c.gap-skew.result ≡ skew_of (port_of d own.port) = c.gap-skew.ensures.value ∙ c.skew.ensures ∙ ap (λ (r : Route). r.skew) own_route in
    ap (λ (s : ℕ). let o : Opening = record { meter = c.in_ok-meter.meter; skew = s } in Some o) skew
    ∙ ap (option_map (λ m. let o : Opening = record { meter = m; skew = skew_of (port_of d own.port) } in o)) c.in_ok-meter.ensures
    ∙ ap (option_and_then (edge_opening d)) c.in_ok-contract.ensures
