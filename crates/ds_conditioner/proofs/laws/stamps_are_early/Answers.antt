use Rattle.ds_conditioner.proofs.StampLaws.{stamps_are_early}
use Rattle.ds_conditioner.proofs.laws.stamps_are_early.Goals as goal

pub returns : goal.returns
returns c = stamps_are_early
