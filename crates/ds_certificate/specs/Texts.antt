-- The text of a certificate, in two forms.
use Rattle.std.specs.Prelude.{ℕ, suc, Bool, true, false, ◌≡◌, ◌&&◌, nat_eq, ⊤, List, [], ◌∷◌, ◌++◌, length, codes, decimal, Option, None, Some, if◌then◌else◌, bytes_eq}
use Rattle.std.specs.List.{list_all}
use Rattle.ds_domain_base.specs.declared.contract.Contract.{Contract}
use Rattle.ds_certificate.specs.Columns.{Bound}
use Rattle.ds_certificate.specs.declared.form.Form.{Form}
use Rattle.ds_certificate.specs.declared.form.Form.TheVariants.{Short, Long}

-- the first line
abbrev pub heading : Form → List ℕ
heading Short = codes "dscert 1"
heading Long = codes "dscert 2"

-- the form whose texts begin with a line
abbrev pub form_headed : List ℕ → Option Form
form_headed line =
    if bytes_eq line (heading Short) then Some Short else if bytes_eq line (heading Long) then Some Long else None

-- the short form says nothing of an excess: it is the all
abbrev pub Says : Form → Bound → Type 0
Says Short b = b.excess ≡ b.all
Says Long b = ⊤

abbrev pub is_short : Bound → Bool
is_short b = nat_eq b.excess b.all

-- the short form wherever it says enough
abbrev pub form_of : List (List Bound) → Form
form_of rows = if list_all (list_all is_short) rows then Short else Long

abbrev pub excess_text : Form → Bound → List ℕ
excess_text Short b = []
excess_text Long b = codes " " ++ decimal b.excess

-- the line of a bound: name, hop, green and all, and in the long form excess
abbrev pub line_of : Form → List ℕ → ℕ → Bound → List ℕ
line_of form name hop b =
    name ++ codes " " ++ decimal hop ++ codes " " ++ decimal b.green ++ codes " " ++ decimal b.all ++ excess_text form b

-- the lines of the bounds of a contract from a hop on
unfoldable pub lines_from : Form → List ℕ → ℕ → List Bound → List (List ℕ)
lines_from form name hop [] = []
lines_from form name hop (bound ∷ bounds) = line_of form name hop bound ∷ lines_from form name (suc hop) bounds

-- the lines of contracts in order
unfoldable pub lines_for : Form → List Contract → List (List Bound) → List (List ℕ)
lines_for form (c ∷ contracts) (bounds ∷ rows) = lines_from form c.name 0 bounds ++ lines_for form contracts rows
lines_for form contracts rows = []

-- each line ends with LF (10)
unfoldable pub ended : List (List ℕ) → List ℕ
ended [] = []
ended (line ∷ lines) = line ++ 10 ∷ ended lines

-- the canonical text, in a form
abbrev pub text_in : Form → List Contract → List (List Bound) → List ℕ
text_in form contracts rows = ended (heading form ∷ lines_for form contracts rows)

abbrev pub text_of : List Contract → List (List Bound) → List ℕ
text_of contracts rows = text_in (form_of rows) contracts rows

-- whether bounds are those of contracts: of each contract one more than its path has meters
unfoldable pub is_shaped : List Contract → List (List Bound) → Bool
is_shaped [] [] = true
is_shaped [] (bounds ∷ rows) = false
is_shaped (c ∷ contracts) [] = false
is_shaped (c ∷ contracts) (bounds ∷ rows) = nat_eq (length bounds) (suc (length c.path)) && is_shaped contracts rows
