use Rattle.std.proofs.Common.{◌≡◌, ◌++◌, ◌∙◌, IsPermutation, List, ap, subst}
use Rattle.std.specs.declared.cmp.Reverse.{Reverse}
use Rattle.std.proofs.lemmas.List.Sorted.{IsPermutation-trans}
use Rattle.ds_conductor_base.specs.declared.waiting.Waiting.{Waiting}
use Rattle.ds_conductor_base.proofs.RunLaws.{if_ok}
use Rattle.ds_conductor_base.proofs.queue.put_in_order.Goals as goal
use Rattle.ds_conductor_base.proofs.queue.put_in_order.Goals.{then-not-are_mixed, else-not-are_mixed+else-not-arrange}

pub returns-clause-same : goal.returns-clause-same
returns-clause-same c =
    elim c.if-not-are_mixed.branch [
      | then-not-are_mixed w ↦
          let whole : w.extend_from_slice.new.self.items ≡ c.args.fresh.now =
          if_ok w.extend_from_slice.result w.unwrap.result _ w.clear.new.self.items w.extend_from_slice.new.self.items w.unwrap.ensures w.extend_from_slice.ensures.items
          ∙ ap (λ (us : List (Reverse Waiting)). us ++ c.args.fresh.now) w.clear.ensures.items in
          subst (λ (us : List (Reverse Waiting)). IsPermutation us c.sort_unstable.new.self.items) (ap (λ v. v.items) w.out-is ∙ whole) c.sort_unstable.ensures.permutation
      | else-not-are_mixed+else-not-arrange w ↦
          IsPermutation-trans c.args.fresh.now w.arrange.new.out.items c.sort_unstable.new.self.items (w.arrange.ensures.same w.if-not-arrange.false)
          (subst (λ (us : List (Reverse Waiting)). IsPermutation us c.sort_unstable.new.self.items) (ap (λ v. v.items) w.out-is) c.sort_unstable.ensures.permutation)
    ]
