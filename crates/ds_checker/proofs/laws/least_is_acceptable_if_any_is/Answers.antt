use Rattle.ds_checker.proofs.LeastTableLaws.{least_accepted}
use Rattle.ds_checker.proofs.laws.least_is_acceptable_if_any_is.Goals as goal

pub returns : goal.returns
returns c t met = least_accepted t.domain t.contracts t.certificate met
