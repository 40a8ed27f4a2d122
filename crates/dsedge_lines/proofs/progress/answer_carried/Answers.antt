use Rattle.std.proofs.Common.{sym, ap, ◌∷◌, ◌∙◌}
use Rattle.line_text.specs.Lines.{lines_of}
use Rattle.line_text.proofs.LineLemmas.{lines_of-cut}
use Rattle.dsedge_lines.proofs.progress.answer_carried.Goals as goal

pub returns-clause-answer : goal.returns-clause-answer
returns-clause-answer g c = λ later.
    let carry = c.args.progress.now.carry.items in
    let lines = lines_of-cut carry later c.requires.carried ∙ ap (λ line. line ∷ lines_of later) (sym c.as_slice.ensures.value) in
    rw (lines, c.clear.ensures.items) (c.line-answered.ensures.answer (lines_of later))

pub returns-clause-stands : goal.returns-clause-stands
returns-clause-stands g c = λ later.
    let carry = c.args.progress.now.carry.items in
    let lines = lines_of-cut carry later c.requires.carried ∙ ap (λ line. line ∷ lines_of later) (sym c.as_slice.ensures.value) in
    rw (lines, c.clear.ensures.items) (c.line-answered.ensures.stands (lines_of later))
