use Rattle.std.proofs.Common.{◌∙◌, ◌≤◌, arith, ap, length, map, refl, sym, take, drop, ◌-◌, is_some, option_copied}
use Rattle.std.specs.Map.{values_of}
use Rattle.std.proofs.lemmas.Map.Entries.{length-values_of}
use Rattle.ds_domain_base.specs.Routes.{route_of}
use Rattle.meter_fabric_base.specs.Grounds.{contract_of}
use Rattle.run_audit.specs.Assembled.{passage_of}
use Rattle.run_audit.specs.Bases.{basis_of}
use Rattle.run_audit.specs.Spills.{spilled_by}
use Rattle.run_audit.proofs.BasisLaws.{route_there, some_copied}
use Rattle.run_audit.proofs.SpillLaws.{spilled_from-behind, spilled_from-ended, spilled_from-found, stands_at}
use Rattle.run_audit.proofs.sources.first_spilled.Goals as goal

pub unwrap-route-requires : goal.unwrap-route-requires
unwrap-route-requires c =
    let g = basis_of c.args.basis.now in
    sym (some_copied c.route.result)
    ∙ route_there (contract_of g c.loop-flow.flow) (option_copied c.route.result) (route_of g.domain) c.route.ensures
    (ap is_some (sym c.contract_of.ensures.value ∙ ap option_copied c.unwrap-contract.ensures))

pub returns-then-is_some-clause-value : goal.returns-then-is_some-clause-value
returns-then-is_some-clause-value c =
    let g = basis_of c.args.basis.now in
    let contracts = values_of g.contracts in
    let own = take (c.own_end-end.result - c.loop-flow.begin) (drop c.loop-flow.begin c.args.trails.now) in
    let contract = c.unwrap-contract.result.now in
    let at = stands_at contracts c.loop-flow.flow contract (sym c.contract_of.ensures.place ∙ ap option_copied c.unwrap-contract.ensures) in
    spilled_from-found g.domain c.loop-flow.flow contracts contract (λ trail. passage_of trail.now) c.args.trails.now own
    c.loop-flow.begin c.own_end-end.result c.spilled_by-found.result _ c.is_some.result
    at.0 at.1 c.own_end-end.ensures.value refl
    (c.spilled_by-found.ensures ∙ ap (λ d. spilled_by contract.terms d contract (map (λ trail. passage_of trail.now) own)) c.domain-domain.ensures.value)
    c.is_some.ensures c.if-is_some.true c.loop-flow.invariant.0

pub loop-flow-preserved : goal.loop-flow-preserved
loop-flow-preserved c =
    let g = basis_of c.args.basis.now in
    let contracts = values_of g.contracts in
    let own = take (c.own_end-end.result - c.loop-flow.begin) (drop c.loop-flow.begin c.args.trails.now) in
    let contract = c.unwrap-contract.result.now in
    let at = stands_at contracts c.loop-flow.flow contract (sym c.contract_of.ensures.place ∙ ap option_copied c.unwrap-contract.ensures) in (
      spilled_from-behind g.domain c.loop-flow.flow contracts contract (λ trail. passage_of trail.now) c.args.trails.now own
          c.loop-flow.begin c.own_end-end.result c.spilled_by-found.result _ c.is_some.result
          at.0 at.1 c.own_end-end.ensures.value refl
          (c.spilled_by-found.ensures ∙ ap (λ d. spilled_by contract.terms d contract (map (λ trail. passage_of trail.now) own)) c.domain-domain.ensures.value)
          c.is_some.ensures c.if-is_some.false c.loop-flow.invariant.0,
      c.own_end-end.ensures.range.1,
    )

pub returns-clause-value : goal.returns-clause-value
returns-clause-value c =
    let g = basis_of c.args.basis.now in
    let contracts = values_of g.contracts in
    let ended : length contracts ≤ c.loop-flow.flow = omega (arith, c.loop-flow-test.false, c.flow_count-flow-end.ensures.value, length-values_of g.contracts) in
    sym (spilled_from-ended g.domain c.loop-flow.flow contracts _ ended) ∙ c.loop-flow.invariant.0
