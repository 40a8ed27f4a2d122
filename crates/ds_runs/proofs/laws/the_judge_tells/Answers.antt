use Rattle.ds_runs.proofs.JudgingLaws.{judge_tells}
use Rattle.ds_runs.proofs.laws.the_judge_tells.Goals as goal

pub returns : goal.returns
returns c = judge_tells
