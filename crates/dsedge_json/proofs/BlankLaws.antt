-- A text or null is no float, nests nothing, and says the text.
use Rattle.std.proofs.Common.{◌≡◌, ℕ, false, List, [], ◌∷◌, refl}
use Rattle.serde_json.specs.Data.{depth}
use Rattle.serde_json.specs.Written.{has_float}
use Rattle.json_lines.specs.JsonLines.{word_in}
use Rattle.dsedge_json.specs.Blanks.{text_or_null}

pub text_plain : (text : List ℕ) → has_float (text_or_null text) ≡ false
text_plain [] = refl
text_plain (letter ∷ letters) = refl

pub text_flat : (text : List ℕ) → depth (text_or_null text) ≡ 0
text_flat [] = refl
text_flat (letter ∷ letters) = refl

pub text_said : (text : List ℕ) → word_in (text_or_null text) ≡ text
text_said [] = refl
text_said (letter ∷ letters) = refl
