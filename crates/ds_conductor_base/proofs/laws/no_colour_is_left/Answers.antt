use Rattle.ds_conductor_base.proofs.ColouringLaws.{no_colour_left}
use Rattle.ds_conductor_base.proofs.laws.no_colour_is_left.Goals as goal

pub returns : goal.returns
returns c = no_colour_left
