use Rattle.std.proofs.Common.{◌-◌, length, ap, sym, ◌∙◌, arith, option_and_then}
use Rattle.meter_fabric_base.specs.Grounds.{contract_of, ground_of}
use Rattle.meter_fabric_base.specs.Openings.{edge_opening}
use Rattle.meter_fabric_base.proofs.GroundLaws.{none_past, opening_behind}
use Rattle.meter_fabric_base.proofs.site.opening_at.Goals as goal

pub returns-in-None : goal.returns-in-None
returns-in-None c =
    let t = c.args.accepted.now in
    let entries = c.meters-in-None.ensures.entries ∙ ap (λ d. d.meters) c.domain-domain.ensures.value in
    let long = c.len.ensures.len ∙ ap length entries in
    let past = none_past c.get_index.result c.args.site _ c.get_index.ensures.found c.in-None.is in
    let same = ap length (c.meters.ensures.entries ∙ ap (λ d. d.meters) c.domain-domain.ensures.value) in
    c.edge_at.ensures
    ∙ ap (λ n. option_and_then (edge_opening t.domain) (contract_of (ground_of t) (c.args.site - n))) long
    ∙ sym (opening_behind (ground_of t) c.args.site (omega (arith, past, same)))
