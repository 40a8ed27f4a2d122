use Rattle.std.proofs.Common.{heap_items}
use Rattle.ds_conductor_base.proofs.trains.Trains.turn.Goals as goal

pub invariant_of-self : goal.invariant_of-self
invariant_of-self c = record {
  ordered = c.self.invariant.ordered;
  trains = c.make_trains.ensures.behind (heap_items c.self.inside.heap) c.self.invariant.trains;
}
