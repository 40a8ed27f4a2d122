-- What is sought in a TOML text.
use Rattle.std.specs.Prelude.{ℕ, Bool, List, [], ◌∷◌, Option, None, Some}
use Rattle.toml_parser.specs.Strings.{Key}

-- a key of an entry of an array of tables, or of the table at the top: the first of one of these names, or of none of them
pub record Aim : Type 0 where
  pub section : Option (List ℕ)
  pub index : ℕ
  pub names : List (List ℕ)
  pub is_named : Bool

-- the first part of a key
abbrev pub first_part : Key → List ℕ
first_part ([], last) = last
first_part (part ∷ path, last) = part

-- the second part, if there is one
abbrev pub second_part : Key → Option (List ℕ)
second_part ([], last) = None
second_part (part ∷ [], last) = Some last
second_part (part ∷ second ∷ path, last) = Some second
