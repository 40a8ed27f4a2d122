-- What a certificate's text says of contracts, or its first fault.
use Rattle.std.specs.Prelude.{ℕ, Bool, zero, suc, ◌+◌, ◌^◌, ◌&&◌, nat_eq, is_some, List, [], ◌∷◌, length, Option, None, Some, Result, Ok, Err, if◌then◌else◌, bytes_eq}
use Rattle.line_text.specs.Lines.{fields_of, lines_of}
use Rattle.line_text.specs.Numbers.{is_number, number_of, value_of}
use Rattle.ds_domain_base.specs.Names.{is_name}
use Rattle.ds_domain_base.specs.declared.contract.Contract.{Contract}
use Rattle.ds_certificate.specs.Columns.{Bound}
use Rattle.ds_certificate.specs.Texts.{form_headed}
use Rattle.ds_certificate.specs.declared.fault.CertificateFault.{CertificateFault}
use Rattle.ds_certificate.specs.declared.fault.CertificateFault.TheVariants.{Text, Shape, Range}
use Rattle.ds_certificate.specs.declared.form.Form.{Form}
use Rattle.ds_certificate.specs.declared.form.Form.TheVariants.{Short, Long}

-- the fields of a line of a bound
pub record Entry : Type 0 where
  pub name : List ℕ
  pub hop : List ℕ
  pub green : List ℕ
  pub all : List ℕ
  pub excess : List ℕ

abbrev pub entry_of_fields : List ℕ → List ℕ → List ℕ → List ℕ → List ℕ → Entry
entry_of_fields name hop green all excess =
    record { name = name; hop = hop; green = green; all = all; excess = excess }

-- a name and numbers
abbrev pub has_form : Entry → Bool
has_form e = is_name e.name && is_number e.hop && is_number e.green && is_number e.all && is_number e.excess

abbrev pub if_formed : Entry → Option Entry
if_formed e = if has_form e then Some e else None

-- four fields in the short form, whose excess is its all, and five in the long one
abbrev pub entry_of : Form → List (List ℕ) → Option Entry
entry_of Short (name ∷ hop ∷ green ∷ all ∷ []) = if_formed (entry_of_fields name hop green all all)
entry_of Long (name ∷ hop ∷ green ∷ all ∷ excess ∷ []) = if_formed (entry_of_fields name hop green all excess)
entry_of form fields = None

unfoldable pub entry_in : Form → List ℕ → Option Entry
entry_in form line = entry_of form (fields_of line)

-- bounds go up to 10^15
abbrev pub bound_of : Option ℕ → Option ℕ → Option ℕ → Result Bound CertificateFault
bound_of (Some green) (Some all) (Some excess) = Ok (record { green = green; all = all; excess = excess })
bound_of (Some green) (Some all) None = Err Range
bound_of (Some green) None excess = Err Range
bound_of None all excess = Err Range

-- what an entry says of a name and a hop
abbrev pub said_of : List ℕ → ℕ → Option Entry → Result Bound CertificateFault
said_of name hop None = Err Text
said_of name hop (Some e) =
    if bytes_eq e.name name && nat_eq (value_of e.hop) hop then
    bound_of (number_of (10 ^ 15) e.green) (number_of (10 ^ 15) e.all) (number_of (10 ^ 15) e.excess)
    else
    Err Shape

unfoldable pub bound_in : Form → List ℕ → ℕ → List ℕ → Result Bound CertificateFault
bound_in form name hop line = said_of name hop (entry_in form line)

-- bounds, and the lines that are left behind them
abbrev pub Read : Type 0
Read = List Bound × List (List ℕ)

abbrev pub onto : Result Bound CertificateFault → Result Read CertificateFault → Result Read CertificateFault
onto (Err fault) later = Err fault
onto (Ok bound) (Err fault) = Err fault
onto (Ok bound) (Ok read) = Ok (bound ∷ read.0, read.1)

-- the bounds of a name at so many hops from a hop on, a line each
unfoldable pub bounds_in : Form → List ℕ → ℕ → ℕ → List (List ℕ) → Result Read CertificateFault
bounds_in form name hop zero lines = Ok ([], lines)
bounds_in form name hop (suc count) [] = Err Shape
bounds_in form name hop (suc count) (line ∷ lines) =
    onto (bound_in form name hop line) (bounds_in form name (suc hop) count lines)

-- the lines that are left, or what is wrong with those before them
abbrev pub left_of : Result Read CertificateFault → Result (List (List ℕ)) CertificateFault
left_of (Err fault) = Err fault
left_of (Ok read) = Ok read.1

-- what stands behind the last bound is too much
abbrev pub ending_in : Form → List (List ℕ) → Result (List (List Bound)) CertificateFault
ending_in form [] = Ok []
ending_in form (line ∷ lines) = Err (if is_some (entry_in form line) then Shape else Text)

abbrev pub row_onto : List Bound → Result (List (List Bound)) CertificateFault
    → Result (List (List Bound)) CertificateFault
row_onto bounds (Err fault) = Err fault
row_onto bounds (Ok rows) = Ok (bounds ∷ rows)

abbrev pub and_then : Result Read CertificateFault → (List (List ℕ) → Result (List (List Bound)) CertificateFault)
    → Result (List (List Bound)) CertificateFault
and_then (Err fault) later = Err fault
and_then (Ok read) later = row_onto read.0 (later read.1)

-- the bounds of contracts in order
unfoldable pub rows_in : Form → List Contract → List (List ℕ) → Result (List (List Bound)) CertificateFault
rows_in form [] lines = ending_in form lines
rows_in form (c ∷ contracts) lines =
    and_then (bounds_in form c.name 0 (length c.path + 1) lines) (λ left. rows_in form contracts left)

abbrev pub behind : Option Form → List Contract → List (List ℕ) → Result (List (List Bound)) CertificateFault
behind None contracts lines = Err Text
behind (Some form) contracts lines = rows_in form contracts lines

-- the first line says the form
abbrev pub headed : List Contract → List (List ℕ) → Result (List (List Bound)) CertificateFault
headed contracts [] = Err Shape
headed contracts (line ∷ lines) = behind (form_headed line) contracts lines

-- the certificate that a text says, judged line by line
unfoldable pub certificate_in : List Contract → List ℕ → Result (List (List Bound)) CertificateFault
certificate_in contracts text = headed contracts (lines_of text)
