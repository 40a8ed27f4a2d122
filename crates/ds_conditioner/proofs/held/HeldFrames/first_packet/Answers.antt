use Rattle.ds_conditioner.proofs.QueueLaws.{first_packet}
use Rattle.ds_conditioner.proofs.held.HeldFrames.first_packet.Goals as goal

pub returns-then-not-is_empty : goal.returns-then-not-is_empty
returns-then-not-is_empty c =
    first_packet c.self.inside.first c.self.inside.between.items c.self.inside.last c.args.self.now c.self.invariant c.self.view_is c.first_packet.result c.first_packet.ensures
