use Rattle.ds_runs.proofs.JudgingLaws.{made_run_judged}
use Rattle.ds_runs.proofs.laws.the_made_run_is_judged.Goals as goal

pub returns : goal.returns
returns c = made_run_judged
