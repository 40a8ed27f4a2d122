use Rattle.std.proofs.Common.{◌∙◌, Some, ap, sym, option_map}
use Rattle.std.proofs.lemmas.Option.{slice_get_within}
use Rattle.ds_domain_base.specs.Routes.{route_of}
use Rattle.meter_fabric_base.proofs.GroundLaws.{place_of}
use Rattle.run_audit.proofs.basis.routed.Goals as goal

pub route-requires : goal.route-requires
route-requires c =
    let t = c.args.accepted.now in
    let contract = c.in_ok-_contract._contract.now in
    slice_get_within t.contracts c.args.flow contract (place_of t c.args.flow contract (sym c.in_ok-_contract.ensures)).1

pub returns : goal.returns
returns c =
    let t = c.args.accepted.now in
    let contract = c.in_ok-_contract._contract.now in
    ap Some (c.route.ensures contract (place_of t c.args.flow contract (sym c.in_ok-_contract.ensures)).1) ∙ ap (option_map (route_of t.domain)) c.in_ok-_contract.ensures
