-- What stands at the front of a text of lines.
use Rattle.std.specs.Prelude.{◌≡◌, ℕ, ◌<◌, ◌≤◌, false, true, List, ◌∷◌, ◌++◌, length, fold, drop, Some}
use Rattle.std.specs.Char.{is_ascii_digit}
use Rattle.std.specs.List.{list_all}
use Rattle.line_text.specs.Lines.{has_byte}
use Rattle.line_text.specs.Numbers.{front_count, number_of, with_digit}

-- the first line of a text, which ends with LF (10), and what stands behind that
pub record IsFirstLine (text line rest : List ℕ) : Type 0 where
  pub whole : text ≡ line ++ 10 ∷ rest
  pub unended : has_byte 10 line ≡ false

-- a field that says a number, and what stands behind it
pub record IsNumberFront (text : List ℕ) (value : ℕ) (rest : List ℕ) : Type 0 where
  pub front : List ℕ
  pub whole : text ≡ front ++ rest
  pub says : (most : ℕ) → value ≤ most → number_of most front ≡ Some value

-- a number that goes on with so many digits at most at the front of a text, and what stands behind them
pub record IsFurther (most value : ℕ) (text : List ℕ) (whole : ℕ) (rest : List ℕ) : Type 0 where
  pub digits : List ℕ
  pub stands : text ≡ digits ++ rest
  pub few : length digits ≤ most
  pub all : list_all is_ascii_digit digits ≡ true
  pub says : whole ≡ fold with_digit value digits

-- a number at the front of a text of at least 16 bytes that has at most 16 digits, with a byte behind it
pub record IsAtOnce (end : ℕ) (text : List ℕ) : Type 0 where
  pub long : 16 ≤ length text
  pub some : 0 < front_count text
  pub behind : List ℕ
  pub ends : drop (front_count text) text ≡ end ∷ behind
