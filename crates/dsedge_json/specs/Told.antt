-- What is answered of texts as an object, and whether that answers with yes.
use Rattle.std.specs.Prelude.{ℕ, Bool, true, false, List, Option, None, Some, Result, Ok, Err}
use Rattle.serde_json.specs.Data.{Data}
use Rattle.json_lines.specs.JsonLines.{line_of}
use Rattle.ds_checker.specs.Acceptance.{Table, refusal_of}
use Rattle.ds_checker.specs.declared.refusal.Refusal.{Refusal}
use Rattle.dsedge_texts.specs.Accepted.{table_in}
use Rattle.dsedge_texts.specs.Headed.{least_in}
use Rattle.dsedge_texts.specs.declared.accepting.TableFault.{TableFault}
use Rattle.dsedge_json.specs.Certificates.{certificate_data}
use Rattle.dsedge_json.specs.Objects.{accepted_data, headroom_data, refusal_data}

-- a line, and whether it answers with yes
abbrev pub Told : Type 0
Told = List ℕ × Bool

-- the line of an object
abbrev pub line_told : Data → Bool → Result Told TableFault
line_told content is_yes = Ok (line_of content, is_yes)

-- an object that a table is answered with, or that of the first test which fails
abbrev pub told_by : Table → Data → Option Refusal → Result Told TableFault
told_by t accepted None = line_told accepted true
told_by t accepted (Some refusal) = line_told (refusal_data t.contracts refusal) false

abbrev pub check_by : Result Table TableFault → Result Told TableFault
check_by (Ok t) = told_by t accepted_data (refusal_of t)
check_by (Err fault) = Err fault

-- whether the table that two texts say is acceptable
abbrev pub checked_in : List ℕ → List ℕ → Result Told TableFault
checked_in domain certificate = check_by (table_in domain certificate)

abbrev pub headroom_by : Result Table TableFault → Result Told TableFault
headroom_by (Ok t) = told_by t (headroom_data t) (refusal_of t)
headroom_by (Err fault) = Err fault

-- what is taken and what there is at the meters of a domain text
abbrev pub headed_in : List ℕ → Result Told TableFault
headed_in text = headroom_by (least_in text)

abbrev pub certified_by : Result Table TableFault → Result Told TableFault
certified_by (Ok t) = line_told (certificate_data t.contracts t.certificate) true
certified_by (Err fault) = Err fault

-- the least certificate of a domain text
abbrev pub certified_in : List ℕ → Result Told TableFault
certified_in text = certified_by (least_in text)
