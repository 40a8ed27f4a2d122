use Rattle.std.proofs.Common.{refl, sym, ◌∙◌, None}
use Rattle.std.proofs.lemmas.Slice.Zip.{Zip-more, either_empty_from_Zip}
use Rattle.run_audit.proofs.HopLaws.{leg_here, leg_on, legs_ended}
use Rattle.run_audit.proofs.links.untimely_on.Goals as goal

pub returns-then-not-is_over : goal.returns-then-not-is_over
returns-then-not-is_over c =
    let s = c.loop-leg.leg-iterator in
    let moved = Zip-more s c.next.new.self _ (c.in-Some.leg, c.in-Some.receipt) refl c.in-Some.ensures.steps in
    sym (leg_here _ _ c.in-Some.leg.now c.loop-leg.moment c.in-Some.receipt.now _ _ c.is_over.result
    moved.0 moved.1 c.is_over.ensures c.if-not-is_over.true)
    ∙ c.loop-leg.invariant

pub loop-leg-preserved : goal.loop-leg-preserved
loop-leg-preserved c =
    let s = c.loop-leg.leg-iterator in
    let moved = Zip-more s c.next.new.self _ (c.in-Some.leg, c.in-Some.receipt) refl c.in-Some.ensures.steps in
    sym (leg_on _ _ c.in-Some.leg.now c.loop-leg.moment c.in-Some.receipt.now _ _ c.is_over.result
    moved.0 moved.1 c.is_over.ensures c.if-not-is_over.false)
    ∙ c.loop-leg.invariant

pub returns : goal.returns
returns c =
    let s = c.loop-leg.leg-iterator in
    let ended = either_empty_from_Zip s c.next.new.self None refl c.in-None.ensures.steps in
    sym (legs_ended _ c.loop-leg.moment _ ended) ∙ c.loop-leg.invariant
