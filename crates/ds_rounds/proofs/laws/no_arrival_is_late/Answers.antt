use Rattle.ds_rounds.proofs.ArrivalLaws.{none_arrives_late}
use Rattle.ds_rounds.proofs.laws.no_arrival_is_late.Goals as goal

pub returns : goal.returns
returns c = none_arrives_late
