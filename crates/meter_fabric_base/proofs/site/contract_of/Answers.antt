use Rattle.std.proofs.Common.{ap, sym, ◌∙◌, slice_get}
use Rattle.meter_fabric_base.proofs.GroundLaws.{found_at}
use Rattle.meter_fabric_base.proofs.site.contract_of.Goals as goal

pub returns : goal.returns
returns c =
    c.contract_in.ensures
    ∙ ap (λ contracts. slice_get contracts c.args.flow) c.flows_of.ensures
    ∙ sym (found_at c.args.accepted.now c.args.flow)
