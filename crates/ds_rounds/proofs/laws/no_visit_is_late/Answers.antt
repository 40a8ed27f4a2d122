use Rattle.ds_rounds.proofs.OrderLaws.{none_late}
use Rattle.ds_rounds.proofs.laws.no_visit_is_late.Goals as goal

pub returns : goal.returns
returns c = none_late
