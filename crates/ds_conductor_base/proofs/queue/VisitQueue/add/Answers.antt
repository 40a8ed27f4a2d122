use Rattle.std.proofs.Common.{◌≡◌, IsPermutation, IsSorted, List, ◌++◌, ◌+◌, map, ap, refl, length, subst, sym, ◌∙◌, arith}
use Rattle.std.specs.List.{IsDistinct}
use Rattle.std.specs.declared.cmp.Reverse.{Reverse}
use Rattle.ds_conductor_base.specs.Waits.{first_on_top, visits_in}
use Rattle.ds_conductor_base.specs.declared.waiting.Waiting.{Waiting}
use Rattle.meter_fabric_base.specs.Orders.{in_order}
use Rattle.ds_conductor_base.specs.Queues.{stored_in}
use Rattle.ds_conductor_base.specs.Visits.{is_before, is_same, visit_to}
use Rattle.ds_conductor_base.specs.declared.visit.Visit.{Visit}
use Rattle.ds_conductor_base.specs.declared.queue.VisitQueue.TheInside as queues
use Rattle.ds_conductor_base.proofs.QueueLaws.{added_apart, added_moved, added_order, added_rows}
use Rattle.ds_conductor_base.proofs.TwoRunLaws.{IsRoomMade}
use Rattle.ds_conductor_base.proofs.queue.VisitQueue.add.Goals as goal
use Rattle.ds_conductor_base.proofs.queue.VisitQueue.add.Goals.{then-coming-self+in_ok-self-inside, else-coming-self}

pub invariant_of-self-2 : goal.invariant_of-self-2
invariant_of-self-2 c =
    let before = c.self.inside in
    let after = c.if-coming-self.self-inside in
    let coming = c.len.result + length c.args.stops.now in
    let made : IsRoomMade before after coming =
    elim c.if-coming-self.branch [
      | then-coming-self+in_ok-self-inside w ↦ subst (λ (q : queues.Inside). IsRoomMade before q coming) (sym w.self-inside-is) (record {
        rows = w.in_ok-self-inside.ensures.same.0;
        older = refl;
        newer = w.in_ok-self-inside.ensures.same.1;
        fresh = w.in_ok-self-inside.ensures.same.3;
        fresh_len = omega (arith, ap (λ (us : List (Reverse Waiting)). length us) w.in_ok-self-inside.ensures.same.3);
        empty = omega (arith, ap (λ (us : List (Reverse Waiting)). length us) w.in_ok-self-inside.ensures.same.2, c.self.invariant.empty);
        within = w.in_ok-self-inside.ensures.room.0;
        heap_room = w.in_ok-self-inside.ensures.room.1;
        newer_room = w.in_ok-self-inside.ensures.room.2;
        spare_room = λ there. omega (arith, w.in_ok-self-inside.ensures.room.4, w.deref.ensures.len);
        fresh_room = w.in_ok-self-inside.ensures.room.3;
      })
      | else-coming-self w ↦ subst (λ (q : queues.Inside). IsRoomMade before q coming) (sym w.self-inside-is) (record {
        rows = refl;
        older = refl;
        newer = refl;
        fresh = refl;
        fresh_len = refl;
        empty = c.self.invariant.empty;
        within = omega arith;
        heap_room = c.self.invariant.heap_room;
        newer_room = c.self.invariant.newer_room;
        spare_room = c.self.invariant.spare_room;
        fresh_room = c.self.invariant.fresh_room;
      })
    ] in
    let more = map (visit_to c.args.place c.args.packet.now) c.args.stops.now in
    let stored = after.trains.rows ++ ((after.older.items ++ after.newer.items) ++ c.push_visits.new.fresh.items) in
    let runs : after.older.items ++ after.newer.items ≡ before.older.items ++ before.newer.items =
    ap (λ v. v.items ++ after.newer.items) made.older ∙ ap (λ (us : List (Reverse Waiting)). before.older.items ++ us) made.newer in
    let moved : IsPermutation (visits_in (stored_in before) ++ more) (visits_in stored) =
    subst (λ (us : List (Reverse Waiting)). IsPermutation (visits_in (stored_in before) ++ more) (visits_in (after.trains.rows ++ (us ++ c.push_visits.new.fresh.items)))) (sym runs)
    (added_moved before.trains.rows after.trains.rows (before.older.items ++ before.newer.items) before.fresh.items after.fresh.items
    c.push_visits.new.fresh.items more made.rows made.fresh c.push_visits.ensures.added) in
    let apart = added_apart (stored_in before) more (subst (λ (us : List Visit). IsDistinct is_same (us ++ more)) (sym c.self.view_is) c.requires) in
    record {
      older = subst (λ v. IsSorted first_on_top v.items) (sym made.older) c.self.invariant.older;
      newer = subst (λ (us : List (Reverse Waiting)). IsSorted first_on_top us) (sym made.newer) c.self.invariant.newer;
      apart = added_rows (stored_in before) stored more apart moved;
      empty = made.empty;
      within = omega (arith, made.within, made.fresh_len, c.push_visits.ensures.len);
      heap_room = made.heap_room;
      newer_room = made.newer_room;
      spare_room = made.spare_room;
      fresh_room = omega (arith, made.fresh_room, c.push_visits.ensures.kept);
    }

pub returns-clause-added : goal.returns-clause-added
returns-clause-added c =
    let before = c.self.inside in
    let after = c.if-coming-self.self-inside in
    let coming = c.len.result + length c.args.stops.now in
    let made : IsRoomMade before after coming =
    elim c.if-coming-self.branch [
      | then-coming-self+in_ok-self-inside w ↦ subst (λ (q : queues.Inside). IsRoomMade before q coming) (sym w.self-inside-is) (record {
        rows = w.in_ok-self-inside.ensures.same.0;
        older = refl;
        newer = w.in_ok-self-inside.ensures.same.1;
        fresh = w.in_ok-self-inside.ensures.same.3;
        fresh_len = omega (arith, ap (λ (us : List (Reverse Waiting)). length us) w.in_ok-self-inside.ensures.same.3);
        empty = omega (arith, ap (λ (us : List (Reverse Waiting)). length us) w.in_ok-self-inside.ensures.same.2, c.self.invariant.empty);
        within = w.in_ok-self-inside.ensures.room.0;
        heap_room = w.in_ok-self-inside.ensures.room.1;
        newer_room = w.in_ok-self-inside.ensures.room.2;
        spare_room = λ there. omega (arith, w.in_ok-self-inside.ensures.room.4, w.deref.ensures.len);
        fresh_room = w.in_ok-self-inside.ensures.room.3;
      })
      | else-coming-self w ↦ subst (λ (q : queues.Inside). IsRoomMade before q coming) (sym w.self-inside-is) (record {
        rows = refl;
        older = refl;
        newer = refl;
        fresh = refl;
        fresh_len = refl;
        empty = c.self.invariant.empty;
        within = omega arith;
        heap_room = c.self.invariant.heap_room;
        newer_room = c.self.invariant.newer_room;
        spare_room = c.self.invariant.spare_room;
        fresh_room = c.self.invariant.fresh_room;
      })
    ] in
    let more = map (visit_to c.args.place c.args.packet.now) c.args.stops.now in
    let stored = after.trains.rows ++ ((after.older.items ++ after.newer.items) ++ c.push_visits.new.fresh.items) in
    let runs : after.older.items ++ after.newer.items ≡ before.older.items ++ before.newer.items =
    ap (λ v. v.items ++ after.newer.items) made.older ∙ ap (λ (us : List (Reverse Waiting)). before.older.items ++ us) made.newer in
    let moved : IsPermutation (visits_in (stored_in before) ++ more) (visits_in stored) =
    subst (λ (us : List (Reverse Waiting)). IsPermutation (visits_in (stored_in before) ++ more) (visits_in (after.trains.rows ++ (us ++ c.push_visits.new.fresh.items)))) (sym runs)
    (added_moved before.trains.rows after.trains.rows (before.older.items ++ before.newer.items) before.fresh.items after.fresh.items
    c.push_visits.new.fresh.items more made.rows made.fresh c.push_visits.ensures.added) in
    let apart = added_apart (stored_in before) more (subst (λ (us : List Visit). IsDistinct is_same (us ++ more)) (sym c.self.view_is) c.requires) in
    added_order (stored_in before) stored more apart moved
    ∙ ap (λ (us : List Visit). in_order is_before (us ++ more)) c.self.view_is
