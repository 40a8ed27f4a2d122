-- What stands at the front of a text of lines, where its numbers are read at once.
use Rattle.std.proofs.Common.{◌≡◌, ◌≢◌, ℕ, ◌+◌, ◌<◌, ◌≤◌, true, false, List, [], ◌∷◌, ◌++◌, fold, take, drop, Some, refl, sym, ap, ◌∙◌, arith, append_assoc, take-append-drop}
use Rattle.std.specs.Char.{is_ascii_digit}
use Rattle.std.proofs.lemmas.Bool.{ne_eqb}
use Rattle.std.specs.List.{list_all}
use Rattle.std.proofs.lemmas.List.{length-append, length-take-le}
use Rattle.std.proofs.lemmas.List.Folds.{list_all-append}
use Rattle.std.proofs.lemmas.List.Sums.{fold-append}
use Rattle.line_text.specs.Lines.{fields_of, has_byte, lines_of}
use Rattle.line_text.specs.Numbers.{front_count, number_of, value_of, with_digit}
use Rattle.line_text.proofs.LeadingLemmas.{digits-no_byte, front_count-digits, front_count-most, number_of_some}
use Rattle.line_text.proofs.NumberLemmas.{number_of-value}
use Rattle.line_text.proofs.LineLemmas.{fields_of-cut, fields_of-uncut, has_byte-append, lines_of-cut}
use Rattle.dsedge_lines.specs.Fronts.{IsFirstLine, IsFurther, IsNumberFront}
use Rattle.dsedge_lines.specs.Quantities.{size_in}

-- one digit, and none
pub further_digit : (value digit whole : ℕ) (text rest : List ℕ) → text ≡ digit ∷ rest → is_ascii_digit digit ≡ true → whole ≡ with_digit value digit
    → IsFurther 1 value text whole rest
further_digit value digit whole text rest is test says = record { digits = digit ∷ []; stands = is; few = omega arith; all = rw test refl; says = says }

pub further_none : (most value : ℕ) (text : List ℕ) → IsFurther most value text value text
further_none most value text = record { digits = []; stands = refl; few = omega arith; all = refl; says = refl }

all_append : (xs ys : List ℕ) → list_all is_ascii_digit xs ≡ true → list_all is_ascii_digit ys ≡ true → list_all is_ascii_digit (xs ++ ys) ≡ true
all_append xs ys front back = rw (list_all-append is_ascii_digit xs ys, front) back

-- digits behind digits
pub further_then : {most later value first whole : ℕ} {text rest end : List ℕ} → IsFurther most value text first rest → IsFurther later first rest whole end
    → IsFurther (most + later) value text whole end
further_then {most} {later} {value} {first} {whole} {text} {rest} {end} one two = record {
  digits = one.digits ++ two.digits;
  stands = one.stands ∙ ap (λ more. one.digits ++ more) two.stands ∙ sym (append_assoc one.digits two.digits end);
  few = omega (arith, one.few, two.few, length-append one.digits two.digits);
  all = all_append one.digits two.digits one.all two.all;
  says = two.says ∙ ap (λ n. fold with_digit n two.digits) one.says ∙ sym (fold-append with_digit value one.digits two.digits);
}

-- a number that is read at once, and the digits behind it, if there are any
pub front_further : {text rest after : List ℕ} {value whole : ℕ} → 0 < front_count text → value ≡ value_of (take (front_count text) text)
    → rest ≡ drop (front_count text) text → IsFurther 4 value rest whole after → IsNumberFront text whole after
unfolding value_of
front_further {text} {rest} {after} {value} {whole} some is is_rest more =
    let front = take (front_count text) text in
    let within = front_count-most text in
    let many = length-take-le (front_count text) text within.0 in
    let says : whole ≡ fold with_digit 0 (front ++ more.digits) =
    more.says ∙ ap (λ n. fold with_digit n more.digits) is ∙ sym (fold-append with_digit 0 front more.digits) in
    record {
      front = front ++ more.digits;
      whole =
          sym (take-append-drop (front_count text) text) ∙ ap (λ later. front ++ later) (sym is_rest ∙ more.stands)
          ∙ sym (append_assoc front more.digits after);
      says = λ most small.
          number_of-value most (front ++ more.digits) (omega (arith, some, many, length-append front more.digits))
          (omega (arith, within.1, many, more.few, length-append front more.digits))
          (all_append front more.digits (front_count-digits text) more.all) (omega (arith, says, small))
          ∙ ap Some (sym says);
    }

-- no byte that is no digit stands in a number
number-no_byte : (mark : ℕ) {text rest : List ℕ} {value : ℕ} (number : IsNumberFront text value rest) → is_ascii_digit mark ≡ false
    → has_byte mark number.front ≡ false
number-no_byte mark {text} {rest} {value} number other =
    digits-no_byte mark number.front other (number_of_some value value number.front (number.says value (omega arith))).0

-- a byte that is not the mark
pub one-no_byte : (mark byte : ℕ) → byte ≢ mark → has_byte mark (byte ∷ []) ≡ false
unfolding has_byte
one-no_byte mark byte differs = rw (ne_eqb byte mark differs) refl

-- a field and a space in front of the first line
pub first_behind : {text after line rest : List ℕ} (field : List ℕ) → has_byte 10 field ≡ false → text ≡ field ++ 32 ∷ after → IsFirstLine after line rest
    → IsFirstLine text (field ++ 32 ∷ line) rest
first_behind {text} {after} {line} {rest} field none is first = record {
  whole = is ∙ ap (λ later. field ++ 32 ∷ later) first.whole ∙ sym (append_assoc field (32 ∷ line) (10 ∷ rest));
  unended = has_byte-append 10 field (32 ∷ line) none (has_byte-append 10 (32 ∷ []) line (one-no_byte 10 32 (omega arith)) first.unended);
}

-- a number, and the end of the line behind it
pub number_last : {text rest : List ℕ} {value : ℕ} (number : IsNumberFront text value (10 ∷ rest)) → IsFirstLine text number.front rest
number_last number = record { whole = number.whole; unended = number-no_byte 10 number refl }

-- or what stands in the line behind it and a space
pub number_then : {text more line rest : List ℕ} {value : ℕ} (number : IsNumberFront text value (32 ∷ more)) → IsFirstLine more line rest
    → IsFirstLine text (number.front ++ 32 ∷ line) rest
number_then number first = first_behind number.front (number-no_byte 10 number refl) number.whole first

-- the fields of such lines
pub number_last_fields : {text rest : List ℕ} {value : ℕ} (number : IsNumberFront text value rest) → fields_of number.front ≡ number.front ∷ []
number_last_fields number = fields_of-uncut number.front (number-no_byte 32 number refl)

pub number_then_fields : {text rest : List ℕ} {value : ℕ} (number : IsNumberFront text value rest) (line : List ℕ)
    → fields_of (number.front ++ 32 ∷ line) ≡ number.front ∷ fields_of line
number_then_fields number line = fields_of-cut number.front line (number-no_byte 32 number refl)

-- the size that a number is
pub size_as : (size : ℕ) (field : List ℕ) → number_of 65535 field ≡ Some size → 1 ≤ size → size_in field ≡ Some size
size_as size field says least =
    let positive : size ≢ 0 = omega (arith, least) in
    rw (says, ne_eqb size 0 positive) refl

-- the line at the front is the first of the lines
pub first_of_lines : {text line rest : List ℕ} → IsFirstLine text line rest → (later : List ℕ) → lines_of (text ++ later) ≡ line ∷ lines_of (rest ++ later)
first_of_lines {text} {line} {rest} first later =
    ap (λ whole. lines_of (whole ++ later)) first.whole ∙ ap lines_of (append_assoc line (10 ∷ rest) later) ∙ lines_of-cut line (rest ++ later) first.unended
