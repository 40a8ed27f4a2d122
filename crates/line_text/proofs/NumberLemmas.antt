-- What the digits of a number say.
use Rattle.std.proofs.Common.{◌≡◌, ℕ, ◌+◌, ◌<◌, ◌≤◌, Bool, true, false, ◌&&◌, List, [], ◌∷◌, length, get_or, take, drop, fold, None, Some, refl, sym, ap, ◌∙◌, arith, take-append-drop}
use Rattle.std.specs.List.{list_all}
use Rattle.std.specs.Char.{is_ascii_digit}
use Rattle.std.proofs.lemmas.Bool.Decides.{nat_tests}
use Rattle.std.proofs.lemmas.List.{at_drop_more}
use Rattle.std.proofs.lemmas.List.Folds.{list_all-append}
use Rattle.std.proofs.lemmas.List.Sums.{fold-append}
use Rattle.line_text.specs.Numbers.{with_digit, value_of, is_number, number_of}

-- a test that fails makes the whole fail
and_false : (x y : Bool) → x ≡ false → x && y ≡ false
and_false x y h = rw h refl

-- more digits make no smaller number
pub value-grows : (value : ℕ) (text : List ℕ) → value ≤ fold with_digit value text
value-grows value [] = omega arith
value-grows value (byte ∷ text) = omega (arith, value-grows (with_digit value byte) text)

-- an empty text is no number
pub number_of-empty : (most : ℕ) (text : List ℕ) → length text ≡ 0 → number_of most text ≡ None
unfolding number_of is_number
number_of-empty most text h = grind (arith, nat_tests)

-- nor is one of more than 20 bytes
pub number_of-long : (most : ℕ) (text : List ℕ) → 20 < length text → number_of most text ≡ None
unfolding number_of is_number
number_of-long most text h = grind (arith, nat_tests)

-- nor is one with another byte than digits
pub number_of-other : (most : ℕ) (text : List ℕ) → list_all is_ascii_digit text ≡ false → number_of most text ≡ None
unfolding number_of is_number
number_of-other most text h = grind (arith, nat_tests)

-- nor is one that says more than the most
pub number_of-over : (most : ℕ) (text : List ℕ) → most < fold with_digit 0 text → number_of most text ≡ None
unfolding number_of is_number value_of
number_of-over most text h = grind (arith, nat_tests)

-- any other text is a number
pub number_of-value : (most : ℕ) (text : List ℕ) → 0 < length text → length text ≤ 20 → list_all is_ascii_digit text ≡ true → fold with_digit 0 text ≤ most → number_of most text ≡ Some (fold with_digit 0 text)
unfolding number_of is_number value_of
number_of-value most text some short digits bound = grind (arith, nat_tests)

-- a byte that is no digit, among those that are left
pub digits-other : (text : List ℕ) (i : ℕ) → i < length text → is_ascii_digit (get_or text i 0) ≡ false → list_all is_ascii_digit (drop i text) ≡ false
digits-other text i h other = at_drop_more (list_all is_ascii_digit) text i 0 h ∙ and_false (is_ascii_digit (get_or text i 0)) (list_all is_ascii_digit (drop (i + 1) text)) other

-- a number that is too large after a digit stays so
pub value-over : (most value : ℕ) (text : List ℕ) (i : ℕ) → i < length text → most < with_digit value (get_or text i 0) → most < fold with_digit value (drop i text)
value-over most value text i h over =
    let step : fold with_digit value (drop i text) ≡ fold with_digit (with_digit value (get_or text i 0)) (drop (i + 1) text) = at_drop_more (fold with_digit value) text i 0 h in
    omega (arith, step, value-grows (with_digit value (get_or text i 0)) (drop (i + 1) text))

-- digits that were read before, and those that are left
pub value-first : (count : ℕ) (text : List ℕ) → fold with_digit (value_of (take count text)) (drop count text) ≡ fold with_digit 0 text
unfolding value_of
value-first count text = sym (fold-append with_digit 0 (take count text) (drop count text)) ∙ ap (fold with_digit 0) (take-append-drop count text)

pub digits-first : (count : ℕ) (text : List ℕ) → list_all is_ascii_digit (take count text) ≡ true
    → list_all is_ascii_digit (drop count text) ≡ list_all is_ascii_digit text
digits-first count text digits =
    ap (λ front. front && list_all is_ascii_digit (drop count text)) (sym digits)
    ∙ sym (list_all-append is_ascii_digit (take count text) (drop count text)) ∙ ap (list_all is_ascii_digit) (take-append-drop count text)
