use Rattle.ds_conditioner.proofs.StampLaws.{run_behind_capture}
use Rattle.ds_conditioner.proofs.laws.a_run_is_behind_each_capture.Goals as goal

pub returns : goal.returns
returns c = run_behind_capture
