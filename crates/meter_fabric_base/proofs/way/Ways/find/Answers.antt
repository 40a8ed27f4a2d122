use Rattle.std.proofs.Common.{◌≡◌, ap, map, rules, sym, ◌∙◌}
use Rattle.std.specs.List.{range_with_len}
use Rattle.meter_fabric_base.specs.Grounds.{contract_of, flow_count, ground_of}
use Rattle.meter_fabric_base.specs.Numbered.{numbered_ground}
use Rattle.meter_fabric_base.specs.Sites.{hops_of}
use Rattle.meter_fabric_base.specs.Ways.{ground_over, way_at, ways_over}
use Rattle.meter_fabric_base.proofs.NumberedLaws.{contract_placed}
use Rattle.meter_fabric_base.proofs.WayLaws.{kept_within, way_numbered, way_placed}
use Rattle.meter_fabric_base.proofs.way.Ways.find.Goals as goal

pub index-requires : goal.index-requires
index-requires c =
    let t = c.in-Placed.accepted.now in
    let own : c.self.inside.ways.items ≡ map (way_at (ground_of t)) (range_with_len 0 (flow_count t)) = c.self.invariant ∙ ap ways_over c.in-Placed.is in
    let within = kept_within t c.args.flow c.in_ok-contract-in-Placed.contract.now c.self.inside.ways.items own (sym c.in_ok-contract-in-Placed.ensures) in
    search rules

pub returns-in_ok-contract-in-Placed-clause-way : goal.returns-in_ok-contract-in-Placed-clause-way
returns-in_ok-contract-in-Placed-clause-way c =
    let t = c.in-Placed.accepted.now in
    let contract = c.in_ok-contract-in-Placed.contract.now in
    let own : c.self.inside.ways.items ≡ map (way_at (ground_of t)) (range_with_len 0 (flow_count t)) = c.self.invariant ∙ ap ways_over c.in-Placed.is in
    let ground : ground_of t ≡ c.args.self.now = sym (ap ground_over c.in-Placed.is) ∙ c.self.view_is in
    c.copy.ensures
    ∙ way_placed t c.args.flow contract c.self.inside.ways.items c.index.result.now own (sym c.in_ok-contract-in-Placed.ensures) c.index.ensures
    ∙ ap (λ g. hops_of g.domain c.args.flow contract) ground

pub returns-in_ok-place-in-Numbered-clause-contract : goal.returns-in_ok-place-in-Numbered-clause-contract
returns-in_ok-place-in-Numbered-clause-contract c =
    let n = c.in-Numbered.numbered in
    let ground : numbered_ground n.accepted.now n.flows.now ≡ c.args.self.now = sym (ap ground_over c.in-Numbered.is) ∙ c.self.view_is in
    sym (contract_placed n.accepted.now n.flows.now c.args.flow c.in_ok-place-in-Numbered.place c.contract_at.result.now n.rising
    c.in_ok-place-in-Numbered.ensures.found c.contract_at.ensures)
    ∙ ap (λ g. contract_of g c.args.flow) ground

pub returns-in_ok-place-in-Numbered-clause-way : goal.returns-in_ok-place-in-Numbered-clause-way
returns-in_ok-place-in-Numbered-clause-way c =
    let n = c.in-Numbered.numbered in
    let contract = c.contract_at.result.now in
    let place = c.in_ok-place-in-Numbered.place in
    let own : c.self.inside.ways.items ≡ map (way_at (numbered_ground n.accepted.now n.flows.now)) n.flows.now = c.self.invariant ∙ ap ways_over c.in-Numbered.is in
    let ground : numbered_ground n.accepted.now n.flows.now ≡ c.args.self.now = sym (ap ground_over c.in-Numbered.is) ∙ c.self.view_is in
    let found = contract_placed n.accepted.now n.flows.now c.args.flow place contract n.rising c.in_ok-place-in-Numbered.ensures.found c.contract_at.ensures in
    c.copy-in-Numbered.ensures
    ∙ way_numbered n.accepted.now n.flows.now c.args.flow place contract c.self.inside.ways.items c.index-in-Numbered.result.now own
    c.in_ok-place-in-Numbered.ensures.found found c.index-in-Numbered.ensures
    ∙ ap (λ g. hops_of g.domain c.args.flow contract) ground
