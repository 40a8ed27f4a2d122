use Rattle.std.proofs.Common.{◌≡◌, ◌<◌, ◌++◌, ◌∷◌, List, length, ap, subst, sym, ◌∙◌, arith}
use Rattle.std.specs.List.{All, IsDistinct}
use Rattle.std.specs.declared.cmp.Reverse.{Reverse}
use Rattle.std.proofs.lemmas.List.Sorted.{IsPermutation-trans}
use Rattle.meter_fabric_base.specs.Orders.{in_order}
use Rattle.ds_conductor_base.specs.Queues.{stored_in}
use Rattle.ds_conductor_base.specs.Visits.{is_before, is_same}
use Rattle.ds_conductor_base.specs.Waits.{visits_in}
use Rattle.ds_conductor_base.specs.declared.waiting.Waiting.{Waiting}
use Rattle.ds_conductor_base.specs.declared.visit.Visit.{Visit}
use Rattle.ds_conductor_base.proofs.QueueLaws.{late_order, none_fresh, popped_apart, popped_first, popped_rest, same_apart, same_order}
use Rattle.ds_conductor_base.proofs.queue.VisitQueue.pop_due.Goals as goal

pub invariant_of-self : goal.invariant_of-self
invariant_of-self c =
    let fresh : length c.settle.new.fresh.items ≡ 0 = omega arith in
    let settled = c.settle.new.trains.rows ++ (c.settle.new.older.items ++ c.settle.new.newer.items) in
    let kept : c.take_first.new.trains.rows ++ ((c.take_first.new.older.items ++ c.take_first.new.newer.items) ++ c.settle.new.fresh.items) ≡ settled =
    none_fresh c.take_first.new.trains.rows (c.take_first.new.older.items ++ c.take_first.new.newer.items) c.settle.new.fresh.items fresh
    ∙ ap (λ (us : List (Reverse Waiting)). us ++ (c.take_first.new.older.items ++ c.take_first.new.newer.items)) c.in_err-first.ensures.first.0
    ∙ ap (λ (us : List (Reverse Waiting)). c.settle.new.trains.rows ++ (us ++ c.take_first.new.newer.items)) c.in_err-first.ensures.first.1
    ∙ ap (λ (us : List (Reverse Waiting)). c.settle.new.trains.rows ++ (c.settle.new.older.items ++ us)) c.in_err-first.ensures.first.2 in
    record {
      older = c.take_first.ensures.sorted.0;
      newer = c.take_first.ensures.sorted.1;
      apart = subst (λ (us : List (Reverse Waiting)). IsDistinct is_same (visits_in us)) (sym kept)
          (same_apart (stored_in c.self.inside) settled c.settle.ensures.same c.self.invariant.apart);
      empty = c.settle.ensures.empty;
      within = omega arith;
      heap_room = omega arith;
      newer_room = omega arith;
      spare_room = λ there. absurd (omega (arith, there));
      fresh_room = omega arith;
    }

pub returns-in_err-first : goal.returns-in_err-first
returns-in_err-first c =
    let fresh : length c.settle.new.fresh.items ≡ 0 = omega arith in
    let settled = c.settle.new.trains.rows ++ (c.settle.new.older.items ++ c.settle.new.newer.items) in
    let kept : c.take_first.new.trains.rows ++ ((c.take_first.new.older.items ++ c.take_first.new.newer.items) ++ c.settle.new.fresh.items) ≡ settled =
    none_fresh c.take_first.new.trains.rows (c.take_first.new.older.items ++ c.take_first.new.newer.items) c.settle.new.fresh.items fresh
    ∙ ap (λ (us : List (Reverse Waiting)). us ++ (c.take_first.new.older.items ++ c.take_first.new.newer.items)) c.in_err-first.ensures.first.0
    ∙ ap (λ (us : List (Reverse Waiting)). c.settle.new.trains.rows ++ (us ++ c.take_first.new.newer.items)) c.in_err-first.ensures.first.1
    ∙ ap (λ (us : List (Reverse Waiting)). c.settle.new.trains.rows ++ (c.settle.new.older.items ++ us)) c.in_err-first.ensures.first.2 in
    let order : in_order is_before (visits_in settled) ≡ c.args.self.now =
    sym (same_order (stored_in c.self.inside) settled c.settle.ensures.same c.self.invariant.apart) ∙ c.self.view_is in
    rw c.from_residual.ensures (
      ap (λ (us : List (Reverse Waiting)). in_order is_before (visits_in us)) kept ∙ order,
      subst (λ (us : List Visit). All (λ v. c.args.moment < v.moment) us) order (late_order c.args.moment settled c.in_err-first.ensures.first.3),
    )

pub invariant_of-self-2 : goal.invariant_of-self-2
invariant_of-self-2 c =
    let first = c.in_ok-first.field-0 in
    let fresh : length c.settle.new.fresh.items ≡ 0 = omega arith in
    let left = c.take_first.new.trains.rows ++ (c.take_first.new.older.items ++ c.take_first.new.newer.items) in
    let moved = IsPermutation-trans (stored_in c.self.inside) (c.settle.new.trains.rows ++ (c.settle.new.older.items ++ c.settle.new.newer.items)) (first ∷ left) c.settle.ensures.same c.in_ok-first.ensures.first.1 in
    record {
      older = c.take_first.ensures.sorted.0;
      newer = c.take_first.ensures.sorted.1;
      apart = subst (λ (us : List (Reverse Waiting)). IsDistinct is_same (visits_in us))
          (sym (none_fresh c.take_first.new.trains.rows (c.take_first.new.older.items ++ c.take_first.new.newer.items) c.settle.new.fresh.items fresh))
          (popped_rest left first (popped_apart (stored_in c.self.inside) left first moved c.self.invariant.apart));
      empty = c.settle.ensures.empty;
      within = omega arith;
      heap_room = omega arith;
      newer_room = omega arith;
      spare_room = λ there. absurd (omega (arith, there));
      fresh_room = omega arith;
    }

pub returns : goal.returns
returns c =
    let first = c.in_ok-first.field-0 in
    let fresh : length c.settle.new.fresh.items ≡ 0 = omega arith in
    let left = c.take_first.new.trains.rows ++ (c.take_first.new.older.items ++ c.take_first.new.newer.items) in
    let moved = IsPermutation-trans (stored_in c.self.inside) (c.settle.new.trains.rows ++ (c.settle.new.older.items ++ c.settle.new.newer.items)) (first ∷ left) c.settle.ensures.same c.in_ok-first.ensures.first.1 in
    let early = c.in_ok-first.ensures.first.0 in
    let told = ap (λ (v : Visit). v.moment) c.visit.ensures in (
      omega (arith, told, early),
      sym c.self.view_is
          ∙ popped_first (stored_in c.self.inside) left first moved c.self.invariant.apart c.in_ok-first.ensures.first.2
          ∙ ap (λ (v : Visit). v ∷ in_order is_before (visits_in left)) (sym c.visit.ensures)
          ∙ ap (λ (us : List (Reverse Waiting)). c.visit.result ∷ in_order is_before (visits_in us))
          (sym (none_fresh c.take_first.new.trains.rows (c.take_first.new.older.items ++ c.take_first.new.newer.items) c.settle.new.fresh.items fresh)),
    )
