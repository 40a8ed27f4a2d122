use Rattle.std.proofs.Common.{sym}
use Rattle.meter_fabric_base.proofs.NumberedLaws.{contract_placed}
use Rattle.meter_fabric_base.proofs.numbered.Numbered.contract_of.Goals as goal

pub returns : goal.returns
returns c =
    sym (contract_placed c.args.self.now.accepted.now c.args.self.now.flows.now c.args.flow c.in_ok-place.place c.contract_at.result.now
    c.args.self.now.rising c.in_ok-place.ensures.found c.contract_at.ensures)
