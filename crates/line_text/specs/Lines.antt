-- Lines of a text, and fields of a line.
use Rattle.std.specs.Prelude.{ℕ, Bool, ◌==◌, List, [], ◌∷◌, Option, None, Some, if◌then◌else◌}
use Rattle.std.specs.List.{list_any, onto_first}

-- the lines of a text: LF (10) ends a line, the last may lack it, and nothing after the last LF is no line
unfoldable pub lines_of : List ℕ → List (List ℕ)
lines_of [] = []
lines_of (byte ∷ text) = if byte == 10 then [] ∷ lines_of text else onto_first byte (lines_of text)

-- the fields of a line, which stand one space (32) apart: two spaces make an empty field
unfoldable pub fields_of : List ℕ → List (List ℕ)
fields_of [] = [] ∷ []
fields_of (byte ∷ line) = if byte == 32 then [] ∷ fields_of line else onto_first byte (fields_of line)

-- the fields of what is left of a line, if anything is
abbrev pub fields_left : Option (List ℕ) → List (List ℕ)
fields_left None = []
fields_left (Some line) = fields_of line

-- whether a byte stands in a text
unfoldable pub has_byte : ℕ → List ℕ → Bool
has_byte mark text = list_any (λ byte. byte == mark) text
