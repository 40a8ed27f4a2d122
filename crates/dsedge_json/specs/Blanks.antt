-- What may be told or not: null stands in an object where a line has `-`.
use Rattle.std.specs.Prelude.{ℕ, List, [], ◌∷◌, ◌++◌, codes, Option, None, Some}
use Rattle.serde_json.specs.Data.{Data, null, string}
use Rattle.json_lines.specs.JsonLines.{word_in}
use Rattle.dsedge_texts.specs.Wording.{text_or_dash}

-- a text, and null where it is empty
abbrev pub text_or_null : List ℕ → Data
text_or_null [] = null
text_or_null (letter ∷ letters) = string (letter ∷ letters)

-- what a value says, behind a space, and `-` where that is nothing, before what follows; nothing where there is no value
abbrev pub dash_before : Option Data → List ℕ → List ℕ
dash_before None rest = rest
dash_before (Some found) rest = codes " " ++ text_or_dash (word_in found) ++ rest
