use Rattle.std.proofs.Common.{heap_items}
use Rattle.ds_conductor_base.proofs.TrainLaws.{held_none}
use Rattle.ds_conductor_base.proofs.trains.Trains.new.Goals as goal

pub returns : goal.returns
returns c = held_none (heap_items c.new.result) c.new-2.result.items c.new.ensures.items c.new-2.ensures.items
