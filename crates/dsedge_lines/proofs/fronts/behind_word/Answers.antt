use Rattle.std.proofs.Common.{◌++◌, ap, length, sym, take, take-append-drop, ◌∙◌}
use Rattle.std.proofs.Math.Seq.{take-append_seam}
use Rattle.std.proofs.lemmas.Bool.{false≢true}
use Rattle.std.proofs.lemmas.Slice.Eq.{bytes_eq-Decides}
use Rattle.std.specs.Cmp.Lexicographic.{same_text}
use Rattle.dsedge_lines.proofs.fronts.behind_word.Goals as goal

pub returns-then-eq-clause-behind : goal.returns-then-eq-clause-behind
returns-then-eq-clause-behind c =
    let parts = c.in_ok-front.ensures.cases in
    sym (take-append-drop (length c.args.word.now) c.args.text.now)
    ∙ ap (λ later. take (length c.args.word.now) c.args.text.now ++ later) (sym parts.2)
    ∙ ap (λ before. before ++ c.in_ok-front.rest.now) (sym parts.1 ∙ same_text c.in_ok-front.front.now c.args.word.now c.if-eq.ensures)

pub returns-else-eq-clause-other : goal.returns-else-eq-clause-other
returns-else-eq-clause-other c rest is =
    let parts = c.in_ok-front.ensures.cases in
    false≢true (c.if-eq.ensures ∙ (bytes_eq-Decides c.in_ok-front.front.now c.args.word.now).1
    (parts.1 ∙ ap (take (length c.args.word.now)) is ∙ take-append_seam c.args.word.now rest))
