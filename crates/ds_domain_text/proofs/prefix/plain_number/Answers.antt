use Rattle.std.proofs.Common.{◌≡◌, Some, arith}
use Rattle.line_text.specs.Numbers.{number_of}
use Rattle.ds_domain_text.proofs.PrefixLemmas.{number_of-most}
use Rattle.ds_domain_text.proofs.prefix.plain_number.Goals as goal

pub overflow_cast-result : goal.overflow_cast-result
overflow_cast-result c =
    let read : number_of c.from.result c.args.text.now ≡ Some c.in_ok-value.value = cc (c.number.ensures, c.in_ok-value.was) in
    omega (arith, number_of-most c.from.result c.in_ok-value.value c.args.text.now read, c.from.ensures)

pub returns-clause-range : goal.returns-clause-range
returns-clause-range c =
    let read : number_of c.from.result c.args.text.now ≡ Some c.in_ok-value.value = cc (c.number.ensures, c.in_ok-value.was) in
    omega (arith, number_of-most c.from.result c.in_ok-value.value c.args.text.now read, c.from.ensures)
