use Rattle.std.proofs.Common.{◌≡◌, ◌≤◌, ◌*◌, ◌+◌, ◌-◌, ◌^◌, drop, get_or, false, true, ap, sym, ◌∙◌, arith}
use Rattle.std.specs.Char.{is_ascii_digit}
use Rattle.std.proofs.lemmas.Bool.{false≢true}
use Rattle.std.proofs.lemmas.List.{take_rest}
use Rattle.line_text.specs.Lines.{fields_of}
use Rattle.line_text.proofs.LeadingLemmas.{digits_on, digits_on-first, digits_on-first_digits, digits_on-over, next-digit, next-none, next-other, next-space}
use Rattle.line_text.proofs.leading.leading_number.Goals as goal

pub loop-place-init : goal.loop-place-init
loop-place-init c =
    let line = c.args.line.now in
    let begin = c.first_digits-value.result.1 in
    ap (λ value. digits_on c.args.most begin value (fields_of (drop begin line))) c.first_digits-value.ensures.value
    ∙ digits_on-first_digits c.args.most begin line c.first_digits-value.ensures.within c.first_digits-value.ensures.digits

pub returns-then-ends_number : goal.returns-then-ends_number
returns-then-ends_number c =
    let ends = c.ends_number.ensures.0 c.if-ends_number.true in
    let here = next-space c.args.most c.loop-place.place c.loop-place.value c.args.line.now c.loop-place-test.true ends.0 ends.1 ends.2 ends.3 in
    rw take_rest (sym here ∙ c.loop-place.invariant ∙ digits_on-first c.args.most (fields_of c.args.line.now))

pub returns-then-not-is_ascii_digit : goal.returns-then-not-is_ascii_digit
returns-then-not-is_ascii_digit c =
    let line = c.args.line.now in
    let i = c.loop-place.place in
    let other : is_ascii_digit (get_or line i 0) ≡ false = sym c.is_ascii_digit.ensures.value ∙ c.if-not-is_ascii_digit.true in
    let none = next-other c.args.most i c.loop-place.value line c.loop-place-test.true other
    (λ space some short small. false≢true (sym c.if-ends_number.false ∙ c.ends_number.ensures.1 (space, some, short, small))) in
    sym none ∙ c.loop-place.invariant ∙ digits_on-first c.args.most (fields_of line)

pub returns-in_err-value : goal.returns-in_err-value
returns-in_err-value c =
    let line = c.args.line.now in
    let i = c.loop-place.place in
    let digit : is_ascii_digit (get_or line i 0) ≡ true = sym c.is_ascii_digit.ensures.value ∙ c.if-not-is_ascii_digit.false in
    let wide : 2 ^ 64 ≤ 10 * c.loop-place.value + (get_or line i 0 - 48) = omega (arith, c.in_err-value.ensures) in
    let over = next-digit c.args.most i c.loop-place.value line c.loop-place-test.true digit ∙ digits_on-over c.args.most (i + 1) (10 * c.loop-place.value + (get_or line i 0 - 48)) _ (omega (arith, wide)) in
    rw c.from_residual.ensures (sym over ∙ c.loop-place.invariant ∙ digits_on-first c.args.most (fields_of line))

pub loop-place-preserved : goal.loop-place-preserved
loop-place-preserved c =
    let line = c.args.line.now in
    let i = c.loop-place.place in
    let digit : is_ascii_digit (get_or line i 0) ≡ true = sym c.is_ascii_digit.ensures.value ∙ c.if-not-is_ascii_digit.false in
    let value : c.in_ok-value.value ≡ 10 * c.loop-place.value + (get_or line i 0 - 48) = omega (arith, c.in_ok-value.ensures) in
    rw value (sym (next-digit c.args.most i c.loop-place.value line c.loop-place-test.true digit) ∙ c.loop-place.invariant)

pub returns : goal.returns
returns c =
    let none = next-none c.args.most c.loop-place.place c.loop-place.value c.args.line.now (omega arith) in
    sym none ∙ c.loop-place.invariant ∙ digits_on-first c.args.most (fields_of c.args.line.now)
