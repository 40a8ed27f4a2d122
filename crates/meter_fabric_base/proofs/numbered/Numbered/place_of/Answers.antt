use Rattle.std.proofs.Common.{sym}
use Rattle.meter_fabric_base.proofs.NumberedLaws.{numbered_past, sought_found, sought_missing}
use Rattle.meter_fabric_base.proofs.numbered.Numbered.place_of.Goals as goal

pub returns-then-flow-ge-MOST_FLOWS-clause-missing : goal.returns-then-flow-ge-MOST_FLOWS-clause-missing
returns-then-flow-ge-MOST_FLOWS-clause-missing c =
    sym (numbered_past c.args.self.now.accepted.now c.args.self.now.flows.now c.args.flow c.if-flow-ge-MOST_FLOWS.true)

pub returns-clause-found : goal.returns-clause-found
returns-clause-found c =
    sought_found c.args.self.now.flows.now c.args.flow c.binary_search.result c.ok.result c.args.self.now.rising c.if-flow-ge-MOST_FLOWS.false
    c.binary_search.ensures.position c.ok.ensures.value

pub returns-clause-missing : goal.returns-clause-missing
returns-clause-missing c =
    sought_missing c.args.self.now.accepted.now c.args.self.now.flows.now c.args.flow c.binary_search.result c.ok.result c.args.self.now.rising
    c.if-flow-ge-MOST_FLOWS.false c.binary_search.ensures.position c.ok.ensures.value
