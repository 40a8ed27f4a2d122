use Rattle.std.proofs.Common.{◌≡◌, ◌-◌, ◌∷◌, [], ◌∙◌, take, drop, length, ap, sym, arith}
use Rattle.std.proofs.lemmas.Bool.Decides.{nat_tests}
use Rattle.line_text.specs.Lines.{lines_of}
use Rattle.line_text.proofs.LineLemmas.{lines_of-cut}
use Rattle.ds_certificate.proofs.ReadingLaws.{empty_end, lines_of-empty, one_line_left}
use Rattle.ds_certificate.proofs.reading.next_line.Goals as goal

pub returns-then-is_empty : goal.returns-then-is_empty
returns-then-is_empty c = lines_of-empty c.args.text.now (grind (arith, nat_tests))

pub returns-in-Some : goal.returns-in-Some
returns-in-Some c = ap lines_of c.in-Some.ensures.1 ∙ lines_of-cut c.in-Some.line.now c.in-Some.rest.now c.in-Some.ensures.0

pub returns-in-None : goal.returns-in-None
returns-in-None c =
    let ended : take (length c.args.text.now - length c.args.text.now) (drop (length c.args.text.now) c.args.text.now) ≡ [] = empty_end c.args.text.now in
    one_line_left c.args.text.now (grind (arith, nat_tests)) c.in-None.ensures ∙ ap (λ rest. c.args.text.now ∷ lines_of rest) (sym ended)
