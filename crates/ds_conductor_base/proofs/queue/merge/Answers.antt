use Rattle.std.proofs.Common.{◌≡◌, ◌≤◌, ◌<◌, ◌+◌, ◌++◌, ◌∷◌, [], ◌⊎◌, inl, inr, List, true, false, length, drop, ap, subst, sym, ◌∙◌, arith, IsPermutation, IsSorted, is_lt}
use Rattle.std.specs.declared.cmp.Reverse.{Reverse}
use Rattle.ds_conductor_base.specs.Waits.{first_on_top}
use Rattle.ds_conductor_base.specs.declared.waiting.Waiting.{Waiting}
use Rattle.ds_conductor_base.proofs.RunLaws.{IsBehind, if_ok, is_later, later_strict, merged_left, merged_right, merged_sorted, other_behind, own_behind, pushed_sorted, rest_of, same_at}
use Rattle.ds_conductor_base.proofs.queue.merge.Goals as goal
use Rattle.ds_conductor_base.proofs.queue.merge.Goals.{then-loop-i-test+else-j-right, else-loop-i-test}

pub loop-i-preserved-then-is_lt : goal.loop-i-preserved-then-is_lt
loop-i-preserved-then-is_lt c =
    let all = c.args.left.now ++ c.args.right.now in
    let out = c.loop-i.out.items in
    let r = c.index-right-j.result in
    let inside : c.loop-i.j < length c.args.right.now = omega arith in
    let items : c.push.new.self.items ≡ out ++ r ∷ [] =
    if_ok c.push.result c.unwrap.result (out ++ c.index-right-j-then-is_lt.result ∷ []) out c.push.new.self.items c.unwrap.ensures c.push.ensures.items
    ∙ ap (λ (q : Reverse Waiting). out ++ q ∷ []) (same_at c.args.right.now c.loop-i.j c.index-right-j-then-is_lt.result r inside c.index-right-j-then-is_lt.is c.index-right-j.is) in
    let later : is_later r c.index-left-i.result ≡ true = sym (ap is_lt c.cmp.ensures) ∙ sym c.is_lt.ensures ∙ c.if-is_lt.true in
    record {
      left_in = c.loop-i.invariant.left_in;
      right_in = omega arith;
      room = omega arith;
      same = subst (λ (us : List (Reverse Waiting)). IsPermutation all (us ++ (drop c.loop-i.i c.args.left.now ++ drop (c.loop-i.j + 1) c.args.right.now))) (sym items)
          (merged_right all out (drop c.loop-i.i c.args.left.now) c.args.right.now c.loop-i.j r inside c.index-right-j.is c.loop-i.invariant.same);
      sorted = subst (λ (us : List (Reverse Waiting)). IsSorted first_on_top us) (sym items)
          (pushed_sorted out c.args.right.now c.loop-i.j r c.loop-i.invariant.sorted c.loop-i.invariant.right_behind inside c.index-right-j.is);
      left_behind = subst (λ (us : List (Reverse Waiting)). IsBehind us c.args.left.now c.loop-i.i) (sym items)
          (other_behind out c.args.left.now c.loop-i.i r c.index-left-i.result c.index-left-i.is (later_strict.one_way r c.index-left-i.result later));
      right_behind = subst (λ (us : List (Reverse Waiting)). IsBehind us c.args.right.now (c.loop-i.j + 1)) (sym items)
          (own_behind out c.args.right.now c.loop-i.j r c.requires.right c.index-right-j.is);
    }

pub loop-i-preserved : goal.loop-i-preserved
loop-i-preserved c =
    let all = c.args.left.now ++ c.args.right.now in
    let out = c.loop-i.out.items in
    let r = c.index-left-i.result in
    let inside : c.loop-i.i < length c.args.left.now = omega arith in
    let items : c.push-else-is_lt.new.self.items ≡ out ++ r ∷ [] =
    if_ok c.push-else-is_lt.result c.unwrap-else-is_lt.result (out ++ c.index-left-i-else-is_lt.result ∷ []) out c.push-else-is_lt.new.self.items c.unwrap-else-is_lt.ensures
    c.push-else-is_lt.ensures.items
    ∙ ap (λ (q : Reverse Waiting). out ++ q ∷ []) (same_at c.args.left.now c.loop-i.i c.index-left-i-else-is_lt.result r inside c.index-left-i-else-is_lt.is c.index-left-i.is) in
    let last : is_later c.index-right-j.result r ≡ false = sym (ap is_lt c.cmp.ensures) ∙ sym c.is_lt.ensures ∙ c.if-is_lt.false in
    record {
      left_in = omega arith;
      right_in = c.loop-i.invariant.right_in;
      room = omega arith;
      same = subst (λ (us : List (Reverse Waiting)). IsPermutation all (us ++ (drop (c.loop-i.i + 1) c.args.left.now ++ drop c.loop-i.j c.args.right.now))) (sym items)
          (merged_left all out c.args.left.now (drop c.loop-i.j c.args.right.now) c.loop-i.i r inside c.index-left-i.is c.loop-i.invariant.same);
      sorted = subst (λ (us : List (Reverse Waiting)). IsSorted first_on_top us) (sym items)
          (pushed_sorted out c.args.left.now c.loop-i.i r c.loop-i.invariant.sorted c.loop-i.invariant.left_behind inside c.index-left-i.is);
      left_behind = subst (λ (us : List (Reverse Waiting)). IsBehind us c.args.left.now (c.loop-i.i + 1)) (sym items)
          (own_behind out c.args.left.now c.loop-i.i r c.requires.left c.index-left-i.is);
      right_behind = subst (λ (us : List (Reverse Waiting)). IsBehind us c.args.right.now c.loop-i.j) (sym items)
          (other_behind out c.args.right.now c.loop-i.j r c.index-right-j.result c.index-right-j.is last);
    }

pub returns-clause-sorted : goal.returns-clause-sorted
returns-clause-sorted c =
    let out = c.loop-i.out.items in
    let first : c.extend_from_slice.new.self.items ≡ out ++ drop c.loop-i.i c.args.left.now =
    if_ok c.extend_from_slice.result c.unwrap-2.result _ out c.extend_from_slice.new.self.items c.unwrap-2.ensures c.extend_from_slice.ensures.items
    ∙ ap (λ (us : List (Reverse Waiting)). out ++ us) (rest_of c.args.left.now c.loop-i.i) in
    let next : c.extend_from_slice-2.new.self.items ≡ (out ++ drop c.loop-i.i c.args.left.now) ++ drop c.loop-i.j c.args.right.now =
    if_ok c.extend_from_slice-2.result c.unwrap-3.result _ c.extend_from_slice.new.self.items c.extend_from_slice-2.new.self.items c.unwrap-3.ensures c.extend_from_slice-2.ensures.items
    ∙ ap (λ (us : List (Reverse Waiting)). c.extend_from_slice.new.self.items ++ us) (rest_of c.args.right.now c.loop-i.j)
    ∙ ap (λ (us : List (Reverse Waiting)). us ++ drop c.loop-i.j c.args.right.now) first in
    let ended : (length c.args.left.now ≤ c.loop-i.i) ⊎ (length c.args.right.now ≤ c.loop-i.j) =
    elim c.loop-i-test.branch [ then-loop-i-test+else-j-right w ↦ inr (omega arith) | else-loop-i-test w ↦ inl (omega arith) ] in
    subst (λ (us : List (Reverse Waiting)). IsSorted first_on_top us) (sym next)
    (merged_sorted out c.args.left.now c.args.right.now c.loop-i.i c.loop-i.j c.loop-i.invariant.sorted c.requires.left c.requires.right c.loop-i.invariant.left_behind
    c.loop-i.invariant.right_behind ended)
