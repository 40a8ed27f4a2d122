use Rattle.run_audit.proofs.ExampleLaws.{small_run_kept}
use Rattle.run_audit.proofs.laws.small_run_is_kept.Goals as goal

pub returns : goal.returns
returns c = small_run_kept
