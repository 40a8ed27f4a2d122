use Rattle.std.proofs.Common.{rules, ◌∷◌, ◌++◌, List, ap, subst, arith, IsOk, IsPermutation, heap_items}
use Rattle.std.specs.declared.cmp.Reverse.{Reverse}
use Rattle.ds_conductor_base.specs.Trains.{Stock, rows_in}
use Rattle.ds_conductor_base.specs.declared.waiting.Waiting.{Waiting}
use Rattle.ds_conductor_base.proofs.TrainLaws.{held_put, held_train, trains_permuted}
use Rattle.ds_conductor_base.proofs.QueueLaws.{on_ok}
use Rattle.ds_conductor_base.proofs.trains.Trains.hold.Goals as goal

pub invariant_of-self : goal.invariant_of-self
invariant_of-self c = record {
  ordered = c.self.invariant.ordered;
  trains = c.if-put_in_train.ensures.1 (heap_items c.self.inside.heap) c.self.invariant.trains;
}

pub invariant_of-self-else-put_in_train : goal.invariant_of-self-else-put_in_train
invariant_of-self-else-put_in_train c =
    let heap = heap_items c.self.inside.heap in
    let done : IsOk c.push.result = c.push.ensures.succeeds (omega (arith, c.requires, ap (λ (s : Stock). s.room) c.self.view_is)) in
    record {
      ordered = search rules;
      trains = trains_permuted (c.args.visit.now ∷ heap) (heap_items c.push.new.self) c.put_in_train.new.trains.items (on_ok c.push.result done c.push.ensures.permutation)
          (c.if-put_in_train.ensures.1 heap c.self.invariant.trains);
    }

pub returns-then-put_in_train-clause-same : goal.returns-then-put_in_train-clause-same
returns-then-put_in_train-clause-same c =
    subst (λ (us : List (Reverse Waiting)). IsPermutation (c.args.visit.now ∷ us) (heap_items c.self.inside.heap ++ rows_in c.put_in_train.new.trains.items)) (ap (λ (s : Stock). s.rows) c.self.view_is)
    (held_train (heap_items c.self.inside.heap) (rows_in c.self.inside.trains.items) (rows_in c.put_in_train.new.trains.items) c.args.visit.now c.if-put_in_train.ensures.0)

pub returns-else-put_in_train-clause-same : goal.returns-else-put_in_train-clause-same
returns-else-put_in_train-clause-same c =
    let done : IsOk c.push.result = c.push.ensures.succeeds (omega (arith, c.requires, ap (λ (s : Stock). s.room) c.self.view_is)) in
    subst (λ (us : List (Reverse Waiting)). IsPermutation (c.args.visit.now ∷ us) (heap_items c.push.new.self ++ rows_in c.put_in_train.new.trains.items)) (ap (λ (s : Stock). s.rows) c.self.view_is)
    (held_put (heap_items c.self.inside.heap) (heap_items c.push.new.self) (rows_in c.self.inside.trains.items) (rows_in c.put_in_train.new.trains.items) c.args.visit.now
    c.if-put_in_train.ensures.0 (on_ok c.push.result done c.push.ensures.permutation))
