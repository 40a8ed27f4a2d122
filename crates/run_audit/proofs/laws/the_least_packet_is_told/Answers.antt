use Rattle.run_audit.proofs.PremiseLaws.{least_is_told}
use Rattle.run_audit.proofs.laws.the_least_packet_is_told.Goals as goal

pub returns : goal.returns
returns c = least_is_told
