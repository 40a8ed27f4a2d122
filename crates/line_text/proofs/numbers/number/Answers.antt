use Rattle.std.proofs.Common.{◌≡◌, ◌+◌, ◌*◌, ◌-◌, ◌<◌, ◌≤◌, ◌^◌, true, drop, fold, length, get_or, ap, sym, ◌∙◌, arith}
use Rattle.std.proofs.lemmas.Bool.Decides.{nat_tests}
use Rattle.std.proofs.lemmas.List.{at_drop_all}
use Rattle.std.specs.List.{list_all}
use Rattle.std.specs.Char.{is_ascii_digit}
use Rattle.line_text.specs.Numbers.{with_digit}
use Rattle.line_text.proofs.NumberLemmas.{number_of-empty, number_of-long, number_of-other, number_of-over, number_of-value, digits-first, digits-other, value-first, value-over}
use Rattle.line_text.proofs.numbers.number.Goals as goal

pub returns-then-is_empty : goal.returns-then-is_empty
returns-then-is_empty c = grind (arith, nat_tests, number_of-empty, number_of-long)

pub loop-place-init : goal.loop-place-init
loop-place-init c =
    let first = c.first_digits-value.ensures in
    record {
      value = ap (λ value. fold with_digit value (drop c.first_digits-value.result.1 c.args.text.now)) first.value ∙ value-first c.first_digits-value.result.1 c.args.text.now;
      digits = digits-first c.first_digits-value.result.1 c.args.text.now first.digits;
    }

pub returns-then-not-is_ascii_digit : goal.returns-then-not-is_ascii_digit
returns-then-not-is_ascii_digit c =
    sym (number_of-other c.args.most c.args.text.now (sym c.loop-place.invariant.digits ∙ digits-other c.args.text.now c.loop-place.place c.loop-place-test.true (sym c.is_ascii_digit.ensures.value ∙ c.if-not-is_ascii_digit.true)))

pub returns-in_err-value : goal.returns-in_err-value
returns-in_err-value c =
    let text = c.args.text.now in
    let i = c.loop-place.place in
    let wide : 2 ^ 64 ≤ 10 * c.loop-place.value + (get_or text i 0 - 48) = omega (arith, c.in_err-value.ensures) in
    let over = value-over c.args.most c.loop-place.value text i c.loop-place-test.true (omega arith) in
    c.from_residual.ensures ∙ sym (number_of-over c.args.most text (omega (arith, over, c.loop-place.invariant.value)))

pub returns-then-value-most : goal.returns-then-value-most
returns-then-value-most c =
    let text = c.args.text.now in
    let i = c.loop-place.place in
    let value : fold with_digit c.loop-place.value (drop i text) ≡ c.loop-place.value = at_drop_all (fold with_digit c.loop-place.value) text i (omega arith) in
    let digits : list_all is_ascii_digit (drop i text) ≡ true = at_drop_all (list_all is_ascii_digit) text i (omega arith) in
    let some : 0 < length text = grind (arith, nat_tests) in
    grind (arith, number_of-value, c.loop-place.invariant.value, c.loop-place.invariant.digits)

pub returns-else-value-most : goal.returns-else-value-most
returns-else-value-most c =
    let text = c.args.text.now in
    let i = c.loop-place.place in
    let value : fold with_digit c.loop-place.value (drop i text) ≡ c.loop-place.value = at_drop_all (fold with_digit c.loop-place.value) text i (omega arith) in
    sym (number_of-over c.args.most text (omega (arith, value, c.loop-place.invariant.value)))
