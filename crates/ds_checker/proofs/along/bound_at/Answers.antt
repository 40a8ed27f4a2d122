use Rattle.std.proofs.Common.{sym, ◌∙◌, eq-eqb, ne_eqb}
use Rattle.std.proofs.lemmas.Slice.Zip.{Zip-more, either_empty_from_Zip}
use Rattle.ds_checker.proofs.WalkLaws.{at-behind, at-leg, at-none}
use Rattle.ds_checker.proofs.along.bound_at.Goals as goal

pub returns-then-place-leg : goal.returns-then-place-leg
returns-then-place-leg c =
    let more = Zip-more c.loop-leg.leg-iterator c.next.new.self c.next.result _ c.in-Some.is c.next.ensures.steps in
    at-leg c.args.place _ _ c.in-Some.leg.now _ _ c.in-Some.bound.now _ c.loop-leg.invariant more.0 more.1 (eq-eqb c.args.place c.in-Some.leg.now.place c.if-place-leg.true)

pub loop-leg-preserved : goal.loop-leg-preserved
loop-leg-preserved c =
    let more = Zip-more c.loop-leg.leg-iterator c.next.new.self c.next.result _ c.in-Some.is c.next.ensures.steps in
    at-behind c.args.place _ _ c.in-Some.leg.now _ _ c.in-Some.bound.now _ c.loop-leg.invariant more.0 more.1 (ne_eqb c.args.place c.in-Some.leg.now.place c.if-place-leg.false)

pub returns : goal.returns
returns c =
    let ended = either_empty_from_Zip c.loop-leg.leg-iterator c.next.new.self c.next.result c.in-None.is c.next.ensures.steps in
    sym (c.loop-leg.invariant ∙ at-none c.args.place _ _ ended)
