use Rattle.ds_conductor_base.proofs.StreamLaws.{one_colour_each}
use Rattle.ds_conductor_base.proofs.laws.each_packet_leaves_with_one_colour.Goals as goal

pub returns : goal.returns
returns c = one_colour_each
