use Rattle.std.proofs.Common.{ap, subst, MatchOption, [], ◌≡◌, heap_items, heap_len}
use Rattle.ds_conductor_base.specs.Trains.{IsFirst, Stock}
use Rattle.ds_conductor_base.proofs.TrainLaws.{first_told}
use Rattle.ds_conductor_base.proofs.trains.Trains.first.Goals as goal

pub returns : goal.returns
returns c =
    subst (λ us. MatchOption c.peek.result (us ≡ []) (λ r. IsFirst r.now us)) (ap (λ (s : Stock). s.rows) c.self.view_is)
    (first_told (heap_items c.self.inside.heap) c.self.inside.trains.items (heap_len c.self.inside.heap) c.peek.result (λ x. x.now) c.self.inside.heap.data.ok.0 c.peek.ensures.variant
    c.peek.ensures.lookup c.peek.ensures.greatest c.self.invariant.ordered c.self.invariant.trains)
