use Rattle.std.proofs.Common.{rules, arith}
use Rattle.std.proofs.lemmas.List.Sorted.{answers_always, IsPermutation-trans}
use Rattle.run_audit.specs.Assembled.{passage_of}
use Rattle.run_audit.proofs.SortLaws.{shown_told, stood}
use Rattle.run_audit.proofs.orders.by_contract.Goals as goal

pub returns : goal.returns
returns c =
    stood (λ trail. passage_of trail.now) c.args.run.now.run.passages c.in_ok-all.all.items c.sort_by_key.new.self.items
    (shown_told (λ trail. trail.now) passage_of c.in_ok-all.all.items c.trails.result.now c.args.run.now.run.passages c.in_ok-all.ensures c.trails.ensures.value)
    (IsPermutation-trans c.in_ok-all.all.items c.near_order-trails.result.items c.sort_by_key.new.self.items c.near_order-trails.ensures c.in_ok-sort_by_key.ensures.permutation) c.trails.ensures.run.numbers
    (λ k j d next short. rw next (c.in_ok-sort_by_key.ensures.sorted (λ trail. (trail.now.flow, trail.now.begun, trail.now.packet)) (answers_always _ _ _ (λ f a r q k. search rules)) k d (omega arith) (omega (arith, next, short))))
