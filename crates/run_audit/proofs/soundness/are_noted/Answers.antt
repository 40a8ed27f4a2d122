use Rattle.std.proofs.Common.{refl, ap, length, arith, take_all}
use Rattle.std.proofs.lemmas.Bool.{false≢true}
use Rattle.std.proofs.lemmas.List.Elements.{All-more}
use Rattle.run_audit.specs.Assembling.{IsNoted}
use Rattle.run_audit.proofs.soundness.are_noted.Goals as goal

pub returns-then-not-is_noted : goal.returns-then-not-is_noted
returns-then-not-is_noted c = (
  λ passed. absurd (false≢true passed),
  λ all.
      let here = all c.loop-receipt.receipt-index c.receipt-item.result (rw c.as_slice-receipt-items.ensures.value at c.loop-receipt-test.true) in
      absurd (false≢true (c.if-not-is_noted.ensures.1 (rw (← (rw c.as_slice-receipt-items.ensures.value at c.receipt-item.is)) at here))),
)

pub loop-receipt-preserved : goal.loop-receipt-preserved
loop-receipt-preserved c =
    All-more (IsNoted c.args.journals.now) c.args.trail.now.receipts.items c.loop-receipt.receipt-index c.receipt-item.result (rw c.as_slice-receipt-items.ensures.value at c.loop-receipt-test.true) c.loop-receipt.invariant
    (rw (← (rw c.as_slice-receipt-items.ensures.value at c.receipt-item.is)) (c.if-not-is_noted.ensures.0 refl))

pub returns : goal.returns
returns c = (
  λ passed. rw (take_all c.loop-receipt.receipt-index c.args.trail.now.receipts.items (omega (arith, ap length c.as_slice-receipt-items.ensures.value, c.loop-receipt-test.false))) at c.loop-receipt.invariant,
  λ all. refl,
)
