use Rattle.ds_runs.proofs.ConductedLaws.{conducted_is_run}
use Rattle.ds_runs.proofs.laws.steps_make_runs.Goals as goal

pub returns : goal.returns
returns c = conducted_is_run
