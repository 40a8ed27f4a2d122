use Rattle.run_audit.proofs.SourceOverLaws.{first_over_is_told}
use Rattle.run_audit.proofs.laws.the_first_over_is_told.Goals as goal

pub returns : goal.returns
returns c = first_over_is_told
