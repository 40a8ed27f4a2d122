use Rattle.ds_runs.proofs.VerdictLaws.{run_is_judged}
use Rattle.ds_runs.proofs.laws.the_run_is_judged.Goals as goal

pub returns : goal.returns
returns c = run_is_judged
