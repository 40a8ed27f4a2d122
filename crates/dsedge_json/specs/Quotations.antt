-- The object of JSON that says what is answered to a quote, and how its lines are made of it.
use Rattle.std.specs.Prelude.{◌≢◌, ℕ, Bool, true, false, List, [], ◌∷◌, ◌++◌, codes, Option, None, Some, Result, Ok, Err}
use Rattle.std.specs.Option.{option_map_or}
use Rattle.serde_json.specs.Data.{Data, member, no_members, object, string}
use Rattle.serde_json.specs.Find.{get}
use Rattle.json_lines.specs.JsonLines.{figure_data, line_of, words_line}
use Rattle.ds_checker.specs.declared.refusal.Refusal.{Refusal}
use Rattle.ds_checker.specs.declared.refusal.Refusal.TheVariants as refusals
use Rattle.ds_domain_base.specs.declared.contract.Contract.{Contract}
use Rattle.ds_quotes.specs.Words.{field_text}
use Rattle.dsedge_texts.specs.Quoted.{Fitting, Greatest, Nothing, Quote, lines_of_quote}
use Rattle.dsedge_texts.specs.declared.quoting.QuoteFault.{QuoteFault}
use Rattle.dsedge_json.specs.Objects.{answer_key, check_line_in, refusal_data}
use Rattle.dsedge_json.specs.Told.{Told}

-- the greatest value of a field
abbrev pub greatest_data : List ℕ → ℕ → Data
greatest_data field value = object
    (member answer_key (string (codes "quote"))
    (member (codes "field") (string field)
    (member (codes "value") (figure_data value) no_members)))

-- how many fit
abbrev pub fitting_data : ℕ → Data
fitting_data n = object (member answer_key (string (codes "count")) (member (codes "count") (figure_data n) no_members))

-- no value is, with what the checker says, if anything
abbrev pub nothing_data : List Contract → Option Refusal → Data
nothing_data contracts None = object (member answer_key (string (codes "none")) no_members)
nothing_data contracts (Some refusal) = object
    (member answer_key (string (codes "none")) (member (codes "refusal") (refusal_data contracts refusal) no_members))

abbrev pub quote_data : Quote → Data
quote_data (Greatest field value) = greatest_data (field_text field) value
quote_data (Fitting n) = fitting_data n
quote_data (Nothing contracts refusal) = nothing_data contracts refusal

-- whether it answers with yes
abbrev pub is_quoted : Quote → Bool
is_quoted (Greatest field value) = true
is_quoted (Fitting n) = true
is_quoted (Nothing contracts refusal) = false

-- a value stands behind its field, anything else behind the answer
abbrev pub quote_lines_by : Option Data → Data → List ℕ
quote_lines_by None content =
    words_line (answer_key ∷ codes "count" ∷ []) content ++ option_map_or check_line_in (get (codes "refusal") content) []
quote_lines_by (Some field) content = words_line (codes "field" ∷ codes "value" ∷ []) content

-- the lines that the object of what is answered to a quote is made of
abbrev pub quote_lines_in : Data → List ℕ
quote_lines_in content = quote_lines_by (get (codes "field") content) content

-- what is answered does not tell want of memory
abbrev pub IsTold : Quote → Type 0
IsTold (Greatest field value) = Unit {0}
IsTold (Fitting n) = Unit {0}
IsTold (Nothing contracts None) = Unit {0}
IsTold (Nothing contracts (Some refusal)) = refusal ≢ refusals.NoMemory

-- what is answered, as lines or as an object, and whether it answers with yes
abbrev pub quote_told : Bool → Quote → Told
quote_told false quote = lines_of_quote quote
quote_told true quote = (line_of (quote_data quote), is_quoted quote)

-- the same of what is answered, or what stands against it
abbrev pub quote_said : Bool → Result Quote QuoteFault → Result Told QuoteFault
quote_said in_json (Ok quote) = Ok (quote_told in_json quote)
quote_said in_json (Err fault) = Err fault
