-- What a name may be.
use Rattle.std.specs.Prelude.{◌≡◌, ℕ, Bool, ◌-◌, List, ◌++◌, ◌&&◌, ◌||◌, nat_eq, nat_le, length, take, replicate, IsTrue}
use Rattle.std.specs.List.{list_all}

-- a to z, 0 to 9, - and _
abbrev pub is_name_character : ℕ → Bool
is_name_character c = (nat_le 97 c && nat_le c 122) || (nat_le 48 c && nat_le c 57) || nat_eq c 45 || nat_eq c 95

-- 1 to 32 such characters
unfoldable pub is_name : List ℕ → Bool
is_name text = nat_le 1 (length text) && nat_le (length text) 32 && list_all is_name_character text

-- A name in the first places of 32, the others being 0.
pub record IsPadded (count : ℕ) (characters : List ℕ) : Type 0 where
  pub name : IsTrue (is_name (take count characters))
  pub counted : length (take count characters) ≡ count
  pub padded : take count characters ++ replicate (32 - length (take count characters)) 0 ≡ characters
