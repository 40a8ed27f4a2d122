use Rattle.std.proofs.Common.{◌≡◌, ap, get_or, map, sym, take, ◌∙◌, arith, take_all}
use Rattle.ds_domain_base.specs.Domains.{Domain}
use Rattle.ds_certificate.specs.Sources.{source_on}
use Rattle.meter_fabric_base.specs.Grounds.{most_flows}
use Rattle.meter_fabric_base.proofs.PathLaws.{read_contract}
use Rattle.ds_runs.specs.Judging.{silent}
use Rattle.ds_runs.proofs.JudgeLaws.{silent_more}
use Rattle.ds_runs.proofs.NotedLaws.{values_shown}
use Rattle.ds_runs.proofs.sender.silent_senders.Goals as goal

pub route-requires : goal.route-requires
route-requires c =
    (read_contract c.args.accepted.now c.flows_of-contracts.result.now c.loop-place.place c.index-contracts-place.result c.flows_of-contracts.ensures c.loop-place-test.true c.index-contracts-place.is).0

pub loop-place-preserved : goal.loop-place-preserved
loop-place-preserved c =
    let t = c.args.accepted.now in
    let contracts = c.flows_of-contracts.result.now in
    let here = c.contract-contract.result.now in
    let is : here ≡ get_or contracts c.loop-place.place here = rw c.contract-contract.ensures c.index-contracts-place.is in
    let route = c.route.result.now in
    let own = c.route.ensures here (read_contract t contracts c.loop-place.place here c.flows_of-contracts.ensures c.loop-place-test.true is).1 in
    silent_more t.domain contracts c.loop-place.senders.items _ c.loop-place.place here route c.along-source.result c.buckets_of.result c.loop-place-test.true is
    own (c.along-source.ensures.value ∙ ap (λ (d : Domain). source_on d route here.terms) c.domain.ensures.value) c.buckets_of.ensures c.in_ok-push.ensures.items c.loop-place.invariant

pub returns : goal.returns
returns c =
    let d = c.args.accepted.now.domain in
    let all = take_all c.loop-place.place c.flows_of-contracts.result.now (omega (arith, c.loop-place-test.false)) in
    c.loop-place.invariant ∙ ap (map (silent d)) (all ∙ c.flows_of-contracts.ensures) ∙ sym (values_shown (silent d) 0 (take most_flows c.args.accepted.now.contracts))
