use Rattle.std.proofs.Common.{rules, ap, flat_map, length, take, ◌<◌, ◌++◌, ◌∷◌, [], ◌∙◌}
use Rattle.std.proofs.lemmas.List.{length-set, take_more}
use Rattle.std.proofs.lemmas.List.Sorted.{IsPermutation-append_comm, IsPermutation-cons, IsPermutation-trans}
use Rattle.run_audit.proofs.grouping.grouped.Goals as goal
use Rattle.run_audit.proofs.GroupLaws.{group_more}

pub loop-trail-preserved : goal.loop-trail-preserved
loop-trail-preserved c =
    let trail = c.trail-item.result in
    let before = take c.loop-trail.trail-index c.args.trails.now in
    let groups = c.loop-trail.groups.items in
    let place = c.min-place.result in
    let all = flat_map (λ group. group.items) groups in
    let short : place < length groups = search rules in
    let more = group_more (λ group. group.items) groups place c.index_mut.result.now c.push.new.self trail short (c.in_ok-push.ensures.items ∙ ap (λ group. group.items ++ trail ∷ []) (c.index_mut.ensures.value)) in (
      rw (take_more c.args.trails.now c.loop-trail.trail-index trail c.loop-trail-test.true)
          (rw (← c.trail-item.is)
          (IsPermutation-trans (before ++ trail ∷ []) (trail ∷ before) _
          (IsPermutation-append_comm before (trail ∷ []))
          (IsPermutation-trans (trail ∷ before) (trail ∷ all) _ (IsPermutation-cons trail before all c.loop-trail.invariant.0) more))),
      rw (length-set groups place c.push.new.self) c.loop-trail.invariant.1,
    )
