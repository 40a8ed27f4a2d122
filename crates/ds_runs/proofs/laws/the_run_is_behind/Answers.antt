use Rattle.ds_runs.proofs.RunLaws.{the_run_is_behind}
use Rattle.ds_runs.proofs.laws.the_run_is_behind.Goals as goal

pub returns : goal.returns
returns c = the_run_is_behind
