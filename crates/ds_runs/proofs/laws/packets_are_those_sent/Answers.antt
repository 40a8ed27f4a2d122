use Rattle.ds_runs.proofs.ConductedLaws.{packets_are_sent}
use Rattle.ds_runs.proofs.laws.packets_are_those_sent.Goals as goal

pub returns : goal.returns
returns c = packets_are_sent
