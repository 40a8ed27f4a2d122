use Rattle.meter_fabric_base.proofs.TrailLaws.{IsTrail-none}
use Rattle.meter_fabric_base.proofs.traveller.Traveller.on_way.Goals as goal

pub invariant_of-result : goal.invariant_of-result
invariant_of-result c = record { trail = rw c.requires.fresh (IsTrail-none _ _ _ _); room = c.requires.room }
