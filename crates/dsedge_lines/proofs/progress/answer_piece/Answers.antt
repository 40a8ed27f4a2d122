use Rattle.std.proofs.Common.{Some, ◌++◌, append_assoc}
use Rattle.std.proofs.lemmas.Result.{err_from_is_err_and}
use Rattle.line_text.proofs.LineLemmas.{has_byte-append}
use Rattle.dsedge_lines.specs.Underway.{lines_with}
use Rattle.dsedge_lines.proofs.CourseLaws.{stays_then}
use Rattle.dsedge_lines.proofs.progress.answer_piece.Goals as goal

pub returns-clause-carried : goal.returns-clause-carried
returns-clause-carried g c =
    let carried = rw c.in_default.is at c.in_ok-ended.ensures.carried in
    let unended = rw c.in_default.is at c.in_ok-ended.ensures.unended in
    rw c.in_ok-extend_from_slice.ensures.items (has_byte-append 10 c.answer_front.new.progress.carry.items c.loop-ended.rest.now carried unended)

pub returns-in_err-ended-clause-stands : goal.returns-in_err-ended-clause-stands
returns-in_err-ended-clause-stands g c = λ later.
    let p = err_from_is_err_and c.from_residual.result c.from_residual.ensures.1 in
    rw p.1 (stays_then g.C.Command.stands _ _ _ _ _ _ _ _ _ (c.loop-ended.invariant.stands later) (c.in_err-ended.ensures.stands later))

pub returns-in-Some-ended-clause-stands : goal.returns-in-Some-ended-clause-stands
returns-in-Some-ended-clause-stands g c = λ later.
    stays_then g.C.Command.stands _ _ _ _ _ _ _ _ _ (c.loop-ended.invariant.stands later) (rw (c.in-Some.is, c.in-Some-ended.is) at (c.in_ok-ended.ensures.stands later))

pub returns-in_err-extend_from_slice-clause-stands : goal.returns-in_err-extend_from_slice-clause-stands
returns-in_err-extend_from_slice-clause-stands g c = λ later start whole front it.
    let p = err_from_is_err_and c.from_residual-in_err-extend_from_slice.result c.from_residual-in_err-extend_from_slice.ensures.1 in
    let same = rw c.in_default.is at (c.in_ok-ended.ensures.stands later) in
    rw p.1 (g.met.C.Command.stops start whole (Some (lines_with c.answer_front.new.progress (c.loop-ended.rest.now ++ later))) (front ++ c.answer_front.new.progress.out.items)
    c.answer_front.new.command (same start whole front (c.loop-ended.invariant.stands later start whole front it)))

pub returns-clause-stands : goal.returns-clause-stands
returns-clause-stands g c = λ later.
    let same = rw c.in_default.is at (c.in_ok-ended.ensures.stands later) in
    rw (c.in_ok-extend_from_slice.ensures.items, append_assoc c.answer_front.new.progress.carry.items c.loop-ended.rest.now later)
    (stays_then g.C.Command.stands _ _ _ _ _ _ _ _ _ (c.loop-ended.invariant.stands later) same)
