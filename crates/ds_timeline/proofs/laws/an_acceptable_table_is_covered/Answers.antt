use Rattle.ds_timeline.proofs.ConstantLaws.{covered-constant}
use Rattle.ds_timeline.proofs.laws.an_acceptable_table_is_covered.Goals as goal

pub returns : goal.returns
returns c = covered-constant
