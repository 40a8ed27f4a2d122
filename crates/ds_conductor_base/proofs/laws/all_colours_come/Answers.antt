use Rattle.ds_conductor_base.proofs.StreamLaws.{all_come}
use Rattle.ds_conductor_base.proofs.laws.all_colours_come.Goals as goal

pub returns : goal.returns
returns c = all_come
