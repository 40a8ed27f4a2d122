use Rattle.std.proofs.Common.{◌≡◌, [], length, arith}
use Rattle.std.proofs.lemmas.Bool.Decides.{nat_tests}
use Rattle.line_text.specs.Lines.{lines_of}
use Rattle.line_text.proofs.LineLemmas.{has_byte-append, lines_of-cut}
use Rattle.dsedge_lines.proofs.UnderwayLemmas.{nil-from_length}
use Rattle.dsedge_lines.proofs.progress.answer_line.Goals as goal

pub returns-clause-answer : goal.returns-clause-answer
returns-clause-answer g c = λ later.
    let carry = c.args.progress.now.carry in
    let counted = carry.ok.0 in
    let none : length carry.items ≡ 0 = grind (arith, nat_tests) in
    let nothing : carry.items ≡ [] = nil-from_length carry.items none in
    rw (nothing, lines_of-cut c.args.rest.now later c.requires.one_line) (c.line-answered.ensures.answer (lines_of later))

pub returns-clause-stands : goal.returns-clause-stands
returns-clause-stands g c = λ later.
    let carry = c.args.progress.now.carry in
    let counted = carry.ok.0 in
    let none : length carry.items ≡ 0 = grind (arith, nat_tests) in
    let nothing : carry.items ≡ [] = nil-from_length carry.items none in
    rw (nothing, lines_of-cut c.args.rest.now later c.requires.one_line) (c.line-answered.ensures.stands (lines_of later))

pub answer_carried-requires-clause-carried : goal.answer_carried-requires-clause-carried
answer_carried-requires-clause-carried g c =
    rw c.in_ok-extend_from_slice.ensures.items (has_byte-append 10 c.args.progress.now.carry.items c.args.rest.now c.requires.carried c.requires.one_line)
