use Rattle.std.proofs.Common.{◌≡◌, true, false, ap, sym, ◌∙◌}
use Rattle.flow_classifier.specs.Tuples.{same_lengths}
use Rattle.flow_classifier.proofs.TupleLaws.{no_more_next}
use Rattle.flow_classifier.proofs.tuples.ask_no_more.Goals as goal
use Rattle.flow_classifier.proofs.tuples.ask_no_more.Goals.{else-eq-via-then-eq+else-not-asks_no_more, else-eq-via-else-eq}

pub loop-row-preserved : goal.loop-row-preserved
loop-row-preserved c =
    no_more_next c.args.lengths c.args.rules.now c.loop-row.row-index c.row-item.result c.loop-row-test.true c.row-item.is
    (λ same. elim c.else-eq.branch [
      | else-eq-via-then-eq+else-not-asks_no_more w ↦ (c.of.ensures.target, sym w.asks_no_more.ensures ∙ w.if-not-asks_no_more.false)
      | else-eq-via-else-eq w ↦ absurd (wrong (sym w.if-eq.false ∙ c.eq.ensures ∙ ap (λ m. same_lengths m c.args.lengths) c.of.ensures.value ∙ same))
    ]) c.loop-row.invariant
  where
    wrong : false ≡ true → ⊥
    wrong e = absurd cc
