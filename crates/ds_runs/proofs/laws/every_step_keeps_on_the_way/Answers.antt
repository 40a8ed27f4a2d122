use Rattle.ds_runs.proofs.OnTheWayLaws.{opened_under_way, run_under_way, stepped_under_way}
use Rattle.ds_runs.proofs.laws.every_step_keeps_on_the_way.Goals as goal

pub returns : goal.returns
returns c = (opened_under_way, stepped_under_way, run_under_way)
