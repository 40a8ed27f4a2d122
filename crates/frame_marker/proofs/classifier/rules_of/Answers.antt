use Rattle.std.proofs.Common.{take, ap, sym, ◌∙◌}
use Rattle.std.proofs.lemmas.List.{take_min}
use Rattle.frame_marker.proofs.ClassifierLaws.{all_taken, taken_next, taken_same}
use Rattle.frame_marker.proofs.classifier.rules_of.Goals.{then-eq+in_ok-push, else-eq}
use Rattle.frame_marker.proofs.classifier.rules_of.Goals as goal

pub loop-place-preserved : goal.loop-place-preserved
loop-place-preserved c =
    let heeded = take c.min.result c.args.contracts.now in
    elim c.if-eq.branch [
      | then-eq+in_ok-push w ↦
          rw (w.rules-is, w.in_ok-push.ensures.items)
          (taken_next c.args.port c.loop-place.rules.items heeded c.loop-place.place c.contract-contract.result.now
          c.loop-place-test.true (rw c.contract-contract.ensures c.index-heeded-place.is) (sym c.eq.ensures ∙ w.if-eq.true) c.loop-place.invariant)
      | else-eq w ↦
          rw (w.rules-is)
          (taken_same c.args.port c.loop-place.rules.items heeded c.loop-place.place c.contract-contract.result.now
          c.loop-place-test.true (rw c.contract-contract.ensures c.index-heeded-place.is) (sym c.eq.ensures ∙ w.if-eq.false) c.loop-place.invariant)
    ]

pub returns : goal.returns
returns c =
    all_taken c.loop-place.rules.items (take c.min.result c.args.contracts.now) c.args.contracts.now c.args.port c.loop-place.place
    (ap (λ n. take n c.args.contracts.now) c.min.ensures ∙ take_min 4294966272 c.args.contracts.now)
    c.loop-place-test.false c.loop-place.invariant
