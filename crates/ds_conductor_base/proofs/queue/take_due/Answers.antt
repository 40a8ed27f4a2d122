use Rattle.std.proofs.Common.{◌≡◌, ◌<◌, ◌≤◌, ◌-◌, ◌++◌, List, get_or, length, refl, subst, sym, arith}
use Rattle.std.specs.BinaryHeap.{IsUpperBound}
use Rattle.std.specs.declared.cmp.Reverse.{Reverse}
use Rattle.ds_conductor_base.specs.Waits.{first_on_top}
use Rattle.ds_conductor_base.specs.declared.waiting.Waiting.{Waiting}
use Rattle.ds_conductor_base.proofs.QueueLaws.{late_rows}
use Rattle.ds_conductor_base.proofs.RunLaws.{filled, front_taken, none_due, run_taken, unfilled}
use Rattle.ds_conductor_base.proofs.queue.take_due.Goals as goal

pub returns-then-moment-get-clause-first : goal.returns-then-moment-get-clause-first
returns-then-moment-get-clause-first c =
    let first = c.in_ok-first.field-0.now in
    let late : c.args.moment < first.0.moment = omega arith in
    let bound : IsUpperBound first_on_top first (c.args.trains.now.rows ++ c.args.run.now.items) =
    subst (λ (us : List (Reverse Waiting)). IsUpperBound first_on_top first (c.args.trains.now.rows ++ us)) c.deref.ensures.value (c.if-is_train_first.ensures.1 first c.in_ok-first.ensures) in
    (refl, refl, late_rows c.args.moment first (c.args.trains.now.rows ++ c.args.run.now.items) late bound)

pub returns-then-moment-get-2-clause-first : goal.returns-then-moment-get-2-clause-first
returns-then-moment-get-2-clause-first c =
    let first = c.in_ok-first-2.field-0.now in
    let late : c.args.moment < first.0.moment = omega arith in
    let is : first ≡ get_or c.args.run.now.items (length c.args.run.now.items - 1) first = subst (λ (us : List (Reverse Waiting)). first ≡ get_or us (length us - 1) first) c.deref-else-is_train_first.ensures.value c.in_ok-first-2.ensures.item.1 in
    let bound : IsUpperBound first_on_top first (c.args.trains.now.rows ++ c.args.run.now.items) =
    subst (λ (us : List (Reverse Waiting)). IsUpperBound first_on_top first (c.args.trains.now.rows ++ us)) c.deref.ensures.value (c.if-is_train_first.ensures.1 first (subst (λ (us : List (Reverse Waiting)). first ≡ get_or us (length us - 1) first) (sym c.deref.ensures.value) is)) in
    (refl, refl, late_rows c.args.moment first (c.args.trains.now.rows ++ c.args.run.now.items) late bound)

pub returns-else-moment-get-clause-first : goal.returns-else-moment-get-clause-first
returns-else-moment-get-clause-first c =
    let first = c.in_ok-first.field-0.now in
    let early : first.0.moment ≤ c.args.moment = omega arith in
    let bound : IsUpperBound first_on_top first (c.args.trains.now.rows ++ c.args.run.now.items) =
    subst (λ (us : List (Reverse Waiting)). IsUpperBound first_on_top first (c.args.trains.now.rows ++ us)) c.deref.ensures.value (c.if-is_train_first.ensures.1 first c.in_ok-first.ensures) in
    front_taken c.args.moment c.args.trains.now.rows c.args.run.now.items first c.pop.result c.pop.new.self.rows _ c.in_ok-first.ensures early bound c.pop.ensures

pub returns-else-moment-get-2-clause-first : goal.returns-else-moment-get-2-clause-first
returns-else-moment-get-2-clause-first c =
    let first = c.in_ok-first-2.field-0.now in
    let early : first.0.moment ≤ c.args.moment = omega arith in
    let is : first ≡ get_or c.args.run.now.items (length c.args.run.now.items - 1) first = subst (λ (us : List (Reverse Waiting)). first ≡ get_or us (length us - 1) first) c.deref-else-is_train_first.ensures.value c.in_ok-first-2.ensures.item.1 in
    let bound : IsUpperBound first_on_top first (c.args.trains.now.rows ++ c.args.run.now.items) =
    subst (λ (us : List (Reverse Waiting)). IsUpperBound first_on_top first (c.args.trains.now.rows ++ us)) c.deref.ensures.value (c.if-is_train_first.ensures.1 first (subst (λ (us : List (Reverse Waiting)). first ≡ get_or us (length us - 1) first) (sym c.deref.ensures.value) is)) in
    let there = filled (length c.deref-else-is_train_first.result.now) (sym c.in_ok-first-2.ensures.item.0) in
    run_taken c.args.moment c.args.trains.now.rows c.args.run.now.items c.pop-else-is_train_first.new.self.items first c.pop-else-is_train_first.result _
    is early bound (c.pop-else-is_train_first.ensures.variant.1 (omega (arith, there, c.deref-else-is_train_first.ensures.len))) c.pop-else-is_train_first.ensures.items

pub returns-in_err-first-2-clause-first : goal.returns-in_err-first-2-clause-first
returns-in_err-first-2-clause-first c =
    let ended : length c.deref-else-is_train_first.result.now ≡ 0 = unfilled (length c.deref-else-is_train_first.result.now) (sym c.in_err-first-2.ensures.item.0) in
    let run : length c.args.run.now.items ≡ 0 = omega (arith, ended, c.deref-else-is_train_first.ensures.len) in
    let none : length c.args.trains.now.rows ≡ 0 = c.if-is_train_first.ensures.0 (omega (arith, run, c.deref.ensures.len)) in
    rw c.from_residual-in_err-first-2.ensures (refl, refl, none_due c.args.moment c.args.trains.now.rows c.args.run.now.items none run)
