use Rattle.ds_runs.proofs.ExampleLaws.{small_marked}
use Rattle.ds_runs.proofs.laws.a_small_packet_is_marked.Goals as goal

pub returns : goal.returns
returns c = small_marked
