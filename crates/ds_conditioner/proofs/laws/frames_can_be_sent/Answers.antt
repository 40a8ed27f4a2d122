use Rattle.ds_conditioner.proofs.SendableLaws.{frames_can_be_sent}
use Rattle.ds_conditioner.proofs.laws.frames_can_be_sent.Goals as goal

pub returns : goal.returns
returns c = frames_can_be_sent
