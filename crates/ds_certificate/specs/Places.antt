-- Where a certificate's text is at fault.
use Rattle.std.specs.Prelude.{ℕ, zero, suc, ◌+◌, nat_lt, is_ok, List, [], ◌∷◌, drop, length, Option, None, Some, if◌then◌else◌}
use Rattle.line_text.specs.Lines.{lines_of}
use Rattle.ds_domain_base.specs.declared.contract.Contract.{Contract}
use Rattle.ds_certificate.specs.Readings.{bound_in}
use Rattle.ds_certificate.specs.Texts.{form_headed}
use Rattle.ds_certificate.specs.declared.form.Form.{Form}

-- how many lines, up to the first that does not, say the bounds of a name at so many hops from a hop on
unfoldable pub bounds_said : Form → List ℕ → ℕ → ℕ → List (List ℕ) → ℕ
bounds_said form name hop zero lines = 0
bounds_said form name hop (suc count) [] = 0
bounds_said form name hop (suc count) (line ∷ lines) =
    if is_ok (bound_in form name hop line) then suc (bounds_said form name (suc hop) count lines) else 0

-- the lines of a contract, and where all that it wants are there, those of the next
abbrev pub and_said : ℕ → ℕ → ℕ → ℕ
and_said wanted said later = if nat_lt said wanted then said else said + later

-- how many lines, up to the first that does not, say the bounds of contracts in order
unfoldable pub rows_said : Form → List Contract → List (List ℕ) → ℕ
rows_said form [] lines = 0
rows_said form (c ∷ contracts) lines =
    let said = bounds_said form c.name 0 (length c.path + 1) lines in
    and_said (length c.path + 1) said (rows_said form contracts (drop said lines))

-- the heading is the first line, and the bounds begin in the second
abbrev pub line_behind : Option Form → List Contract → List (List ℕ) → ℕ
line_behind None contracts lines = 1
line_behind (Some form) contracts lines = rows_said form contracts lines + 2

abbrev pub line_of : List Contract → List (List ℕ) → ℕ
line_of contracts [] = 1
line_of contracts (line ∷ lines) = line_behind (form_headed line) contracts lines

-- the first line that is not what its turn wants, from 1
unfoldable pub fault_line : List Contract → List ℕ → ℕ
fault_line contracts text = line_of contracts (lines_of text)
