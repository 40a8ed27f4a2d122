use Rattle.ds_conditioner.proofs.SeenLaws.{are_marked}
use Rattle.ds_conditioner.proofs.lot.Lot.see.Goals as goal

pub invariant_of-self : goal.invariant_of-self
invariant_of-self c _ = are_marked c.args.port.now c.self.inside.piece c.in-Ok.seen.items c.in-Ok.ensures
