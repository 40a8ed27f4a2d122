use Rattle.std.proofs.Common.{List, ◌++◌, ap, length, subst, sym, arith}
use Rattle.std.specs.List.{IsDistinct}
use Rattle.std.specs.declared.cmp.Reverse.{Reverse}
use Rattle.meter_fabric_base.specs.Orders.{in_order}
use Rattle.ds_conductor_base.specs.Visits.{is_before, is_same}
use Rattle.ds_conductor_base.specs.Waits.{visits_in}
use Rattle.ds_conductor_base.specs.declared.waiting.Waiting.{Waiting}
use Rattle.ds_conductor_base.proofs.QueueLaws.{all_empty, both_empty}
use Rattle.ds_conductor_base.proofs.RunLaws.{none_sorted}
use Rattle.ds_conductor_base.proofs.queue.VisitQueue.new.Goals as goal

pub invariant_of-result : goal.invariant_of-result
unfolding IsDistinct
invariant_of-result c =
    let runs = both_empty c.new-2.result.items c.new-3.result.items c.new-2.ensures.items c.new-3.ensures.items in
    let none = all_empty c.new.result.rows (c.new-2.result.items ++ c.new-3.result.items) c.new-5.result.items c.new.ensures runs c.new-5.ensures.items in
    record {
      older = none_sorted c.new-2.result.items (omega (arith, ap (λ (us : List (Reverse Waiting)). length us) c.new-2.ensures.items));
      newer = none_sorted c.new-3.result.items (omega (arith, ap (λ (us : List (Reverse Waiting)). length us) c.new-3.ensures.items));
      apart = subst (λ (us : List (Reverse Waiting)). IsDistinct is_same (visits_in us)) (sym none) tt;
      empty = c.new-4.ensures.len;
      within = omega (arith, c.new-5.ensures.len);
      heap_room = omega arith;
      newer_room = omega arith;
      spare_room = λ there. absurd (omega (arith, there));
      fresh_room = omega arith;
    }

pub returns : goal.returns
unfolding in_order
returns c =
    let runs = both_empty c.new-2.result.items c.new-3.result.items c.new-2.ensures.items c.new-3.ensures.items in
    ap (λ (us : List (Reverse Waiting)). in_order is_before (visits_in us))
    (all_empty c.new.result.rows (c.new-2.result.items ++ c.new-3.result.items) c.new-5.result.items c.new.ensures runs c.new-5.ensures.items)
