use Rattle.std.proofs.Common.{rules, ◌≡◌, ◌<◌, ◌∙◌, ◌∷◌, ◌++◌, List, [], length, ap, refl, subst, sym, arith, IsPermutation, MatchOption, None, Option, Some, heap_items}
use Rattle.std.specs.declared.cmp.Reverse.{Reverse}
use Rattle.std.proofs.lemmas.List.Sorted.{IsPermutation-refl}
use Rattle.ds_conductor_base.specs.Trains.{IsFirst, Stock, rows_in}
use Rattle.ds_conductor_base.specs.declared.waiting.Waiting.{Waiting}
use Rattle.ds_conductor_base.proofs.RunLaws.{none_there, same_at}
use Rattle.ds_conductor_base.proofs.TrainLaws.{none_held, peeked_first, popped_as, taken_rest, taken_trains}
use Rattle.ds_conductor_base.proofs.trains.Trains.pop.Goals as goal

pub returns-in_err-first : goal.returns-in_err-first
returns-in_err-first c =
    let none = none_held (heap_items c.self.inside.heap) c.self.inside.trains.items
    (omega (arith, none_there _ c.in_err-first.ensures.variant.1, c.self.inside.heap.data.ok.0)) c.self.invariant.trains in
    let rows = sym (ap (λ (s : Stock). s.rows) c.self.view_is) ∙ none in
    rw c.from_residual.ensures (rows, rows)

pub invariant_of-self : goal.invariant_of-self
invariant_of-self c =
    let heap = heap_items c.self.inside.heap in
    let left = heap_items c.pop.new.self in
    let first = c.in_ok-first.field-0.now in
    let there : 0 < length heap = omega (arith, c.in_ok-first.ensures.variant.0 refl, c.self.inside.heap.data.ok.0) in
    let popped = popped_as heap left c.pop.result first there (c.pop.ensures.variant.1 (c.in_ok-first.ensures.variant.0 refl)) c.pop.ensures.top c.pop.ensures.permutation c.in_ok-first.ensures.item.1 in
    record {
      ordered = search rules;
      trains = taken_trains heap left left c.self.inside.trains.items c.next_behind.new.trains.items first None popped.1 c.in_default.ensures (IsPermutation-refl left) c.self.invariant.trains;
    }

pub returns-in_default : goal.returns-in_default
returns-in_default c =
    let heap = heap_items c.self.inside.heap in
    let left = heap_items c.pop.new.self in
    let first = c.in_ok-first.field-0.now in
    let there : 0 < length heap = omega (arith, c.in_ok-first.ensures.variant.0 refl, c.self.inside.heap.data.ok.0) in
    let rows = ap (λ (s : Stock). s.rows) c.self.view_is in
    let popped = popped_as heap left c.pop.result first there (c.pop.ensures.variant.1 (c.in_ok-first.ensures.variant.0 refl)) c.pop.ensures.top c.pop.ensures.permutation c.in_ok-first.ensures.item.1 in
    rw popped.0 (
      subst (λ (us : List (Reverse Waiting)). IsFirst first us) rows
          (peeked_first heap c.self.inside.trains.items first there c.in_ok-first.ensures.item.1 (c.in_ok-first.ensures.greatest c.self.invariant.ordered) c.self.invariant.trains),
      subst (λ (us : List (Reverse Waiting)). IsPermutation us (first ∷ (left ++ rows_in c.next_behind.new.trains.items))) rows
          (taken_rest heap left left c.self.inside.trains.items c.next_behind.new.trains.items first None popped.1 c.in_default.ensures (IsPermutation-refl left)),
    )

pub invariant_of-self-2 : goal.invariant_of-self-2
invariant_of-self-2 c =
    let heap = heap_items c.self.inside.heap in
    let first = c.in_ok-first.field-0.now in
    let there : 0 < length heap = omega (arith, c.in_ok-first.ensures.variant.0 refl, c.self.inside.heap.data.ok.0) in
    let put = c.replace_first.ensures.replaced in
    let taken = subst (λ (r : Reverse Waiting). IsPermutation heap (r ∷ put.left)) (same_at heap 0 put.first first there put.top c.in_ok-first.ensures.item.1) put.taken in
    record {
      ordered = put.ordered c.self.invariant.ordered;
      trains = taken_trains heap put.left (heap_items c.replace_first.new.heap) c.self.inside.trains.items c.next_behind.new.trains.items first (Some c.in-Some.next) taken c.in-Some.ensures put.put
          c.self.invariant.trains;
    }

pub returns : goal.returns
returns c =
    let heap = heap_items c.self.inside.heap in
    let first = c.in_ok-first.field-0.now in
    let there : 0 < length heap = omega (arith, c.in_ok-first.ensures.variant.0 refl, c.self.inside.heap.data.ok.0) in
    let rows = ap (λ (s : Stock). s.rows) c.self.view_is in
    let put = c.replace_first.ensures.replaced in
    let after = heap_items c.replace_first.new.heap in
    let taken = subst (λ (r : Reverse Waiting). IsPermutation heap (r ∷ put.left)) (same_at heap 0 put.first first there put.top c.in_ok-first.ensures.item.1) put.taken in (
      subst (λ (us : List (Reverse Waiting)). IsFirst first us) rows
          (peeked_first heap c.self.inside.trains.items first there c.in_ok-first.ensures.item.1 (c.in_ok-first.ensures.greatest c.self.invariant.ordered) c.self.invariant.trains),
      subst (λ (us : List (Reverse Waiting)). IsPermutation us (first ∷ (after ++ rows_in c.next_behind.new.trains.items))) rows
          (taken_rest heap put.left after c.self.inside.trains.items c.next_behind.new.trains.items first (Some c.in-Some.next) taken c.in-Some.ensures put.put),
    )
