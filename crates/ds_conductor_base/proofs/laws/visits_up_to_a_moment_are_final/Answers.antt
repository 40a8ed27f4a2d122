use Rattle.ds_conductor_base.proofs.StreamLaws.{visits_final}
use Rattle.ds_conductor_base.proofs.laws.visits_up_to_a_moment_are_final.Goals as goal

pub returns : goal.returns
returns c = visits_final
