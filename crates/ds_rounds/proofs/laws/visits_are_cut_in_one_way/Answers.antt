use Rattle.ds_rounds.proofs.CutLaws.{one_cut}
use Rattle.ds_rounds.proofs.laws.visits_are_cut_in_one_way.Goals as goal

pub returns : goal.returns
returns c = one_cut
