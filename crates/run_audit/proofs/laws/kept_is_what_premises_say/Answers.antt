use Rattle.run_audit.proofs.PremiseLaws.{kept_is_premises}
use Rattle.run_audit.proofs.laws.kept_is_what_premises_say.Goals as goal

pub returns : goal.returns
returns c = kept_is_premises
