-- The number that the first field of a line is, read digit by digit.
use Rattle.std.proofs.Common.{◌≡◌, ◌≢◌, ℕ, ◌+◌, ◌<◌, ◌≤◌, zero, suc, Bool, true, false, ◌&&◌, eqb, leb, cond, List, [], ◌∷◌, ◌++◌, length, get_or, take, drop, fold, Option, None, Some, refl, sym, ap, ◌∙◌, arith, inl, inr, take-append-drop}
use Rattle.std.specs.List.{list_all, onto_first, prefix_len}
use Rattle.std.specs.Option.{option_map}
use Rattle.std.specs.Char.{is_ascii_digit}
use Rattle.std.proofs.lemmas.Bool.{cases_eq, eq-eqb, false_from_ne_true, false≢true, leb-true, ne_eqb}
use Rattle.std.proofs.lemmas.Bool.Decides.{nat_tests}
use Rattle.std.proofs.lemmas.List.{at_drop_more, at_drop_all, length-take, length-take-le}
use Rattle.std.proofs.lemmas.List.Sums.{prefix_len-le-length}
use Rattle.std.proofs.lemmas.Option.{cond_some}
use Rattle.line_text.specs.Lines.{fields_of, has_byte}
use Rattle.line_text.specs.Numbers.{front_count, is_number, leading_number_of, number_of, value_of, with_digit}
use Rattle.line_text.proofs.LineLemmas.{fields_of-some}
use Rattle.line_text.proofs.NumberLemmas.{number_of-value, value-grows}

-- the number of the first field and the other fields, where digits of that field were read before
abbrev pub digits_on : ℕ → ℕ → ℕ → List (List ℕ) → Option (ℕ × List (List ℕ))
digits_on most count value (field ∷ next ∷ more) =
    cond ((leb 1 (count + length field) && leb (count + length field) 20 && list_all is_ascii_digit field) && leb (fold with_digit value field) most)
    (Some (fold with_digit value field, next ∷ more)) None
digits_on most count value _ = None

map_of_cond : (b : Bool) (number : ℕ) (more : List (List ℕ)) → cond {A = Option (ℕ × List (List ℕ))} b (Some (number, more)) None ≡ option_map (λ n. (n, more)) (cond b (Some number) None)
map_of_cond true number more = refl
map_of_cond false number more = refl

-- where none was read before
pub digits_on-first : (most : ℕ) (fields : List (List ℕ)) → digits_on most 0 0 fields ≡ leading_number_of most fields
unfolding number_of is_number value_of
digits_on-first most [] = refl
digits_on-first most (field ∷ []) = refl
digits_on-first most (field ∷ next ∷ more) =
    let none : 0 + length field ≡ length field = omega arith in
    rw none (map_of_cond ((leb 1 (length field) && leb (length field) 20 && list_all is_ascii_digit field) && leb (fold with_digit 0 field) most) (fold with_digit 0 field) (next ∷ more))

digits_on-onto : (most count value byte : ℕ) (fields : List (List ℕ)) → is_ascii_digit byte ≡ true
    → digits_on most count value (onto_first byte fields) ≡ digits_on most (count + 1) (with_digit value byte) fields
digits_on-onto most count value byte [] digit = refl
digits_on-onto most count value byte (field ∷ []) digit = refl
digits_on-onto most count value byte (field ∷ next ∷ more) digit =
    let longer : count + length (byte ∷ field) ≡ count + 1 + length field = omega arith in
    rw (longer, digit) refl

no_space : (byte : ℕ) → is_ascii_digit byte ≡ true → eqb byte 32 ≡ false
no_space byte digit = grind (arith, nat_tests)

-- one digit more
digits_on-digit : (most count value byte : ℕ) (line : List ℕ) → is_ascii_digit byte ≡ true
    → digits_on most count value (fields_of (byte ∷ line)) ≡ digits_on most (count + 1) (with_digit value byte) (fields_of line)
unfolding fields_of
digits_on-digit most count value byte line digit = rw (no_space byte digit) (digits_on-onto most count value byte (fields_of line) digit)

fails_third : (a b c d : Bool) (x : Option (ℕ × List (List ℕ))) → c ≡ false → cond ((a && b && c) && d) x None ≡ None
fails_third true true c d x e = rw e refl
fails_third true false c d x e = refl
fails_third false b c d x e = refl

fails_last : (a d : Bool) (x : Option (ℕ × List (List ℕ))) → d ≡ false → cond (a && d) x None ≡ None
fails_last true d x e = rw e refl
fails_last false d x e = refl

digits_on-onto_other : (most count value byte : ℕ) (fields : List (List ℕ)) → is_ascii_digit byte ≡ false → digits_on most count value (onto_first byte fields) ≡ None
digits_on-onto_other most count value byte [] other = refl
digits_on-onto_other most count value byte (field ∷ []) other = refl
digits_on-onto_other most count value byte (field ∷ next ∷ more) other =
    fails_third (leb 1 (count + length (byte ∷ field))) (leb (count + length (byte ∷ field)) 20) (is_ascii_digit byte && list_all is_ascii_digit field)
    (leb (fold with_digit value (byte ∷ field)) most) _ (rw other refl)

-- a space behind digits
digits_on-space : (most count value : ℕ) (fields : List (List ℕ)) → length fields ≢ 0 → digits_on most count value ([] ∷ fields)
    ≡ cond ((leb 1 count && leb count 20 && true) && leb value most) (Some (value, fields)) None
digits_on-space most count value [] some = absurd (some refl)
digits_on-space most count value (field ∷ more) some =
    let none : count + 0 ≡ count = omega arith in
    rw none refl

within : (most count value : ℕ) (x : Option (ℕ × List (List ℕ))) → 1 ≤ count → count ≤ 20 → value ≤ most
    → cond ((leb 1 count && leb count 20 && true) && leb value most) x None ≡ x
within most count value x some short small = grind (arith, nat_tests)

outside : (most count value : ℕ) (x : Option (ℕ × List (List ℕ))) → (1 ≤ count → count ≤ 20 → value ≤ most → ⊥)
    → cond ((leb 1 count && leb count 20 && true) && leb value most) x None ≡ None
outside most count value x other = grind (arith, nat_tests)

-- more than the most stays so
pub digits_on-over : (most count value : ℕ) (fields : List (List ℕ)) → most < value → digits_on most count value fields ≡ None
digits_on-over most count value [] over = refl
digits_on-over most count value (field ∷ []) over = refl
digits_on-over most count value (field ∷ next ∷ more) over =
    fails_last _ (leb (fold with_digit value field) most) _
    (false_from_ne_true _ (λ small. absurd (omega (arith, over, value-grows value field, leb-true (fold with_digit value field) most small))))

-- what stands from the next byte on: a digit
pub next-digit : (most count value : ℕ) (line : List ℕ) → count < length line → is_ascii_digit (get_or line count 0) ≡ true
    → digits_on most count value (fields_of (drop count line)) ≡ digits_on most (count + 1) (with_digit value (get_or line count 0)) (fields_of (drop (count + 1) line))
next-digit most count value line below digit =
    at_drop_more (λ rest. digits_on most count value (fields_of rest)) line count 0 below
    ∙ digits_on-digit most count value (get_or line count 0) (drop (count + 1) line) digit

-- a space, behind a number that is in its bounds
pub next-space : (most count value : ℕ) (line : List ℕ) → count < length line → get_or line count 0 ≡ 32 → 1 ≤ count → count ≤ 20 → value ≤ most
    → digits_on most count value (fields_of (drop count line)) ≡ Some (value, fields_of (drop (count + 1) line))
unfolding fields_of
next-space most count value line below space some short small =
    at_drop_more (λ rest. digits_on most count value (fields_of rest)) line count 0 below
    ∙ rw space (digits_on-space most count value (fields_of (drop (count + 1) line)) (fields_of-some (drop (count + 1) line)) ∙ within most count value _ some short small)

other_byte : (most count value byte : ℕ) (line : List ℕ) → is_ascii_digit byte ≡ false → (byte ≡ 32 → 1 ≤ count → count ≤ 20 → value ≤ most → ⊥)
    → digits_on most count value (fields_of (byte ∷ line)) ≡ None
unfolding fields_of
other_byte most count value byte line other ends =
    elim (cases_eq byte 32) [
      | inl space ↦ rw (eq-eqb byte 32 space) (digits_on-space most count value (fields_of line) (fields_of-some line) ∙ outside most count value _ (ends space))
      | inr differs ↦ rw (ne_eqb byte 32 differs) (digits_on-onto_other most count value byte (fields_of line) other)
    ]

-- any other byte
pub next-other : (most count value : ℕ) (line : List ℕ) → count < length line → is_ascii_digit (get_or line count 0) ≡ false
    → (get_or line count 0 ≡ 32 → 1 ≤ count → count ≤ 20 → value ≤ most → ⊥) → digits_on most count value (fields_of (drop count line)) ≡ None
next-other most count value line below other ends =
    at_drop_more (λ rest. digits_on most count value (fields_of rest)) line count 0 below
    ∙ other_byte most count value (get_or line count 0) (drop (count + 1) line) other ends

-- the end of the line
pub next-none : (most count value : ℕ) (line : List ℕ) → length line ≤ count → digits_on most count value (fields_of (drop count line)) ≡ None
unfolding fields_of
next-none most count value line all = at_drop_all (λ rest. digits_on most count value (fields_of rest)) line count all

-- ---- digits that were read at once

both_true : (a b : Bool) → a && b ≡ true → (a ≡ true) × (b ≡ true)
both_true true b h = (refl, h)
both_true false b h = absurd cc

-- digits in front of a line
digits_on-front : (most count value : ℕ) (front line : List ℕ) → list_all is_ascii_digit front ≡ true
    → digits_on most count value (fields_of (front ++ line)) ≡ digits_on most (count + length front) (fold with_digit value front) (fields_of line)
digits_on-front most count value [] line digits =
    let none : count + 0 ≡ count = omega arith in
    rw none refl
digits_on-front most count value (byte ∷ front) line digits =
    let parts = both_true (is_ascii_digit byte) (list_all is_ascii_digit front) digits in
    let longer : count + 1 + length front ≡ count + length (byte ∷ front) = omega arith in
    digits_on-digit most count value byte (front ++ line) parts.0
    ∙ digits_on-front most (count + 1) (with_digit value byte) front line parts.1
    ∙ ap (λ n. digits_on most n (fold with_digit value (byte ∷ front)) (fields_of line)) longer

-- the digits at the front of a line, of which there are so many
pub digits_on-first_digits : (most count : ℕ) (line : List ℕ) → count ≤ length line → list_all is_ascii_digit (take count line) ≡ true
    → digits_on most count (value_of (take count line)) (fields_of (drop count line)) ≡ digits_on most 0 0 (fields_of line)
unfolding value_of
digits_on-first_digits most count line within digits =
    let many : 0 + length (take count line) ≡ count = omega (arith, length-take-le count line within) in
    ap (λ n. digits_on most n (fold with_digit 0 (take count line)) (fields_of (drop count line))) (sym many)
    ∙ sym (digits_on-front most 0 0 (take count line) (drop count line) digits)
    ∙ ap (λ whole. digits_on most 0 0 (fields_of whole)) (take-append-drop count line)

-- ---- digits at the front of a text

front_all : (test : Bool) (byte : ℕ) (bytes text : List ℕ) → is_ascii_digit byte ≡ test
    → list_all is_ascii_digit (take (prefix_len is_ascii_digit bytes) text) ≡ true
    → list_all is_ascii_digit (take (cond test (1 + prefix_len is_ascii_digit bytes) 0) (byte ∷ text)) ≡ true
front_all false byte bytes text other later = refl
front_all true byte bytes text digit later =
    let one : 1 + prefix_len is_ascii_digit bytes ≡ suc (prefix_len is_ascii_digit bytes) = omega arith in
    rw (one, digit) later

front_within : (count : ℕ) (text : List ℕ) → list_all is_ascii_digit (take (prefix_len is_ascii_digit (take count text)) text) ≡ true
front_within zero text = refl
front_within (suc count) [] = refl
front_within (suc count) (byte ∷ text) = front_all (is_ascii_digit byte) byte (take count text) text refl (front_within count text)

-- they are digits
pub front_count-digits : (text : List ℕ) → list_all is_ascii_digit (take (front_count text) text) ≡ true
front_count-digits text = front_within 16 text

-- there are no more than the text has, nor more than 16
pub front_count-most : (text : List ℕ) → (front_count text ≤ length text) × (front_count text ≤ 16)
front_count-most text =
    let least = prefix_len-le-length is_ascii_digit (take 16 text) in
    (omega (arith, least, length-take 16 text), omega (arith, least, length-take 16 text))

-- and where there are any, they are a number
pub front_count-number : (most : ℕ) (text : List ℕ) → 0 < front_count text → value_of (take (front_count text) text) ≤ most
    → number_of most (take (front_count text) text) ≡ Some (value_of (take (front_count text) text))
unfolding value_of
front_count-number most text some small =
    let within = front_count-most text in
    let many = length-take-le (front_count text) text within.0 in
    number_of-value most (take (front_count text) text) (omega (arith, many, some)) (omega (arith, many, within.1)) (front_count-digits text) small

-- digits have no other byte
pub digits-no_byte : (mark : ℕ) (digits : List ℕ) → is_ascii_digit mark ≡ false → list_all is_ascii_digit digits ≡ true → has_byte mark digits ≡ false
unfolding has_byte
digits-no_byte mark [] other all = refl
digits-no_byte mark (byte ∷ digits) other all =
    let parts = both_true (is_ascii_digit byte) (list_all is_ascii_digit digits) all in
    elim (cases_eq byte mark) [
      | inl same ↦ absurd (false≢true (sym other ∙ ap is_ascii_digit (sym same) ∙ parts.0))
      | inr differs ↦ rw (ne_eqb byte mark differs) (digits-no_byte mark digits other parts.1)
    ]

third_true : (a b c d : Bool) → (a && b && c) && d ≡ true → c ≡ true
third_true a b true d h = refl
third_true true true false d h = absurd cc
third_true true false false d h = absurd cc
third_true false b false d h = absurd cc

-- a number that is read is made of digits
pub number_of_some : (most value : ℕ) (text : List ℕ) → number_of most text ≡ Some value → (list_all is_ascii_digit text ≡ true) × (value ≡ value_of text)
unfolding number_of is_number
number_of_some most value text is =
    let read = cond_some _ (value_of text) value is in
    (third_true (leb 1 (length text)) (leb (length text) 20) (list_all is_ascii_digit text) (leb (value_of text) most) read.0, sym read.1)
