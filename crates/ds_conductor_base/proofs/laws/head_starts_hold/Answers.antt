use Rattle.ds_conductor_base.proofs.HeadStartLaws.{head_starts_hold}
use Rattle.ds_conductor_base.proofs.laws.head_starts_hold.Goals as goal

pub returns : goal.returns
returns c = head_starts_hold
