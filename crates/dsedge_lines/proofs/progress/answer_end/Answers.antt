use Rattle.std.proofs.Common.{◌≡◌, ◌≢◌, [], length, arith}
use Rattle.std.proofs.lemmas.Bool.Decides.{nat_tests}
use Rattle.std.proofs.lemmas.Result.{err_from_is_err_and}
use Rattle.line_text.proofs.LineLemmas.{lines_of-nil, has_byte-nil}
use Rattle.dsedge_lines.proofs.UnderwayLemmas.{nil-from_length, lines_of-last}
use Rattle.dsedge_lines.proofs.CourseLaws.{stays_then}
use Rattle.dsedge_lines.proofs.progress.answer_end.Goals as goal

pub returns-then-is_empty : goal.returns-then-is_empty
returns-then-is_empty g c =
    let carry = c.args.progress.now.carry in
    let counted = carry.ok.0 in
    let none : length carry.items ≡ 0 = grind (arith, nat_tests) in
    let nothing : carry.items ≡ [] = nil-from_length carry.items none in
    rw (nothing, lines_of-nil) c.end.ensures

pub answer_line-requires-clause-one_line : goal.answer_line-requires-clause-one_line
answer_line-requires-clause-one_line g c = has_byte-nil 10

pub returns-in_err-ending-clause-answer : goal.returns-in_err-ending-clause-answer
returns-in_err-ending-clause-answer g c =
    let carry = c.args.progress.now.carry in
    let counted = carry.ok.0 in
    let some : length carry.items ≢ 0 = grind (arith, nat_tests) in
    let p = err_from_is_err_and c.from_residual.result c.from_residual.ensures.1 in
    rw (p.1, lines_of-last carry.items c.requires.carried some) (c.in_err-ending.ensures.answer [])

pub returns-in-Some-clause-answer : goal.returns-in-Some-clause-answer
returns-in-Some-clause-answer g c =
    let carry = c.args.progress.now.carry in
    let counted = carry.ok.0 in
    let some : length carry.items ≢ 0 = grind (arith, nat_tests) in
    rw (lines_of-last carry.items c.requires.carried some) (rw c.in-Some.is at (c.in_ok-ending.ensures.answer []))

pub returns-in-None-clause-answer : goal.returns-in-None-clause-answer
returns-in-None-clause-answer g c =
    let carry = c.args.progress.now.carry in
    let counted = carry.ok.0 in
    let some : length carry.items ≢ 0 = grind (arith, nat_tests) in
    let none = rw c.in-None.is at c.in_ok-ending.ensures.carried in
    let on = rw (none, lines_of-nil) at (rw c.in-None.is at (c.in_ok-ending.ensures.answer [])) in
    rw (lines_of-last carry.items c.requires.carried some, ← on) c.end-in-None.ensures.answer

pub returns-in_err-ending-clause-stands : goal.returns-in_err-ending-clause-stands
returns-in_err-ending-clause-stands g c =
    let carry = c.args.progress.now.carry in
    let counted = carry.ok.0 in
    let some : length carry.items ≢ 0 = grind (arith, nat_tests) in
    rw (lines_of-last carry.items c.requires.carried some) (c.in_err-ending.ensures.stands [])

pub returns-in-Some-clause-stands : goal.returns-in-Some-clause-stands
returns-in-Some-clause-stands g c =
    let carry = c.args.progress.now.carry in
    let counted = carry.ok.0 in
    let some : length carry.items ≢ 0 = grind (arith, nat_tests) in
    rw (lines_of-last carry.items c.requires.carried some) (rw c.in-Some.is at (c.in_ok-ending.ensures.stands []))

pub returns-in-None-clause-stands : goal.returns-in-None-clause-stands
returns-in-None-clause-stands g c =
    let carry = c.args.progress.now.carry in
    let counted = carry.ok.0 in
    let some : length carry.items ≢ 0 = grind (arith, nat_tests) in
    let none = rw c.in-None.is at c.in_ok-ending.ensures.carried in
    let on = rw (none, lines_of-nil) at (rw c.in-None.is at (c.in_ok-ending.ensures.stands [])) in
    stays_then g.C.Command.stands _ _ _ _ _ _ _ _ _ (rw (lines_of-last carry.items c.requires.carried some) on) c.end-in-None.ensures.stands
