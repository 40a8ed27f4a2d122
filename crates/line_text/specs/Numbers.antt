-- Numbers in a text.
use Rattle.std.specs.Prelude.{ℕ, ◌+◌, ◌-◌, ◌*◌, Bool, ◌&&◌, nat_le, List, length, fold, Option, None, Some, option_map}
use Rattle.std.specs.Prelude.{◌∷◌, if◌then◌else◌, take}
use Rattle.std.specs.List.{list_all, prefix_len}
use Rattle.std.specs.Char.{is_ascii_digit}

-- a number with one more decimal digit, an ASCII byte ('0' is 48)
abbrev pub with_digit : ℕ → ℕ → ℕ
with_digit value byte = 10 * value + (byte - 48)

-- what decimal digits say
unfoldable pub value_of : List ℕ → ℕ
value_of text = fold with_digit 0 text

-- 1 to 20 decimal digits, and nothing else
unfoldable pub is_number : List ℕ → Bool
is_number text = nat_le 1 (length text) && nat_le (length text) 20 && list_all is_ascii_digit text

-- the number that a text is, where it is one of at most `most`
unfoldable pub number_of : ℕ → List ℕ → Option ℕ
number_of most text = if is_number text && nat_le (value_of text) most then Some (value_of text) else None

-- the number that the first of some fields is, and the other fields, where there are others
abbrev pub leading_number_of : ℕ → List (List ℕ) → Option (ℕ × List (List ℕ))
leading_number_of most (field ∷ next ∷ more) = option_map (λ number. (number, next ∷ more)) (number_of most field)
leading_number_of most _ = None

-- how many digits stand at the front of a text, among its first 16 bytes
abbrev pub front_count : List ℕ → ℕ
front_count text = prefix_len is_ascii_digit (take 16 text)
