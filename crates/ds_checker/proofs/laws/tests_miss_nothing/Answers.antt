use Rattle.ds_checker.proofs.AcceptanceLaws.{acceptable, unrefused}
use Rattle.ds_checker.proofs.laws.tests_miss_nothing.Goals as goal

pub returns : goal.returns
returns c t = (acceptable t, unrefused t)
