use Rattle.std.proofs.Common.{arith, sym}
use Rattle.dsedge_lines.proofs.FrontLemmas.{further_digit}
use Rattle.dsedge_lines.proofs.fronts.one_more.Goals as goal

pub returns : goal.returns
returns c =
    further_digit c.args.value c.in-Some.digit.now c.in_ok-checked_add.field-0 c.args.text.now c.in-Some.rest.now c.in-Some.ensures.cases.0
    (sym c.if-not-is_ascii_digit.ensures.value)
    (omega (arith, c.in_ok-checked_mul.ensures.1, c.in_ok-checked_add.ensures.1, c.from-ones.ensures))
