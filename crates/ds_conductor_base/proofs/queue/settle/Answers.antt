use Rattle.std.proofs.Common.{◌≡◌, ap, arith, subst, sym, IsPermutation, ◌++◌, List, length}
use Rattle.std.specs.declared.cmp.Reverse.{Reverse}
use Rattle.ds_conductor_base.specs.Trains.{Stock}
use Rattle.ds_conductor_base.specs.declared.waiting.Waiting.{Waiting}
use Rattle.ds_conductor_base.proofs.RunLaws.{joined_heap, joined_runs}
use Rattle.ds_conductor_base.proofs.queue.settle.Goals as goal
use Rattle.ds_conductor_base.proofs.queue.settle.Goals.{then-are_few, else-are_few}

pub returns-clause-same : goal.returns-clause-same
returns-clause-same c =
    let run = c.args.older.now.items ++ c.args.newer.now.items in
    elim c.if-are_few.branch [
      | then-are_few w ↦
          joined_heap c.args.trains.now.rows run c.join_runs.new.older.items c.if-are_few.newer.items c.args.fresh.now.items w.deref.result.now w.hold_all.new.self.rows
          c.if-are_few.trains.rows w.deref.ensures.value w.hold_all.ensures (ap (λ (s : Stock). s.rows) w.trains-is) c.join_runs.ensures.same
          (subst (λ v. length v.items ≡ 0) (sym w.newer-is) (omega (arith, c.join_runs.ensures.none)))
      | else-are_few w ↦
          subst (λ (us : List (Reverse Waiting)). IsPermutation (c.args.trains.now.rows ++ (run ++ c.args.fresh.now.items)) (c.if-are_few.trains.rows ++ (c.join_runs.new.older.items ++ us)))
          (sym (ap (λ v. v.items) w.newer-is))
          (joined_runs c.args.trains.now.rows run c.join_runs.new.older.items c.args.fresh.now.items w.deref-else-are_few.result.now w.put_in_order.new.out.items c.if-are_few.trains.rows
          w.deref-else-are_few.ensures.value w.put_in_order.ensures.same (ap (λ (s : Stock). s.rows) w.trains-is) c.join_runs.ensures.same)
    ]
