use Rattle.std.proofs.Common.{ap, take, ◌∙◌}
use Rattle.meter_fabric_base.specs.Grounds.{most_flows}
use Rattle.meter_fabric_base.proofs.GroundLaws.{take_least}
use Rattle.meter_fabric_base.proofs.site.flows_of.Goals as goal

pub returns : goal.returns
returns c =
    let contracts = c.contracts-contracts.result.now in
    ap (λ n. take n contracts) c.min.ensures
    ∙ take_least most_flows contracts
    ∙ ap (take most_flows) c.contracts-contracts.ensures.value
