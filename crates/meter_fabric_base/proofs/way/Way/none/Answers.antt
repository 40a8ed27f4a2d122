use Rattle.std.proofs.Common.{refl}
use Rattle.meter_fabric_base.specs.Ways.{hops_from}
use Rattle.meter_fabric_base.proofs.way.Way.none.Goals as goal

pub returns : goal.returns
unfolding hops_from
returns c = refl
