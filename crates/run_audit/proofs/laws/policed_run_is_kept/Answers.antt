use Rattle.run_audit.proofs.PolicedExampleLaws.{policed_run_kept}
use Rattle.run_audit.proofs.laws.policed_run_is_kept.Goals as goal

pub returns : goal.returns
returns c = policed_run_kept
