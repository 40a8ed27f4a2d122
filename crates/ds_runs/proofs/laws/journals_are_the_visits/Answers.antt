use Rattle.ds_runs.proofs.ArrivalLaws.{journals_are_visits}
use Rattle.ds_runs.proofs.laws.journals_are_the_visits.Goals as goal

pub returns : goal.returns
returns c = journals_are_visits
