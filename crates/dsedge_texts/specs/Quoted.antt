-- The greatest value of a contract's rate or burst beside the other contracts of a domain text, or how many contracts like
-- it fit, and how it is written.
use Rattle.std.specs.Prelude.{ℕ, Bool, true, false, List, [], ◌++◌, codes, insert, slice_get, Option, None, Some, Result, Ok, Err, remove}
use Rattle.std.specs.Option.{option_map_or}
use Rattle.ds_checker.specs.Acceptance.{Table, refusal_of}
use Rattle.ds_checker.specs.Changes.{on_terms}
use Rattle.ds_checker.specs.declared.refusal.Refusal.{Refusal}
use Rattle.ds_checker.specs.declared.refusal.Refusal.TheVariants as refusals
use Rattle.ds_domain.specs.DomainTexts.{parse_of}
use Rattle.ds_domain_base.specs.Domains.{Domain}
use Rattle.ds_domain_base.specs.declared.contract.Contract.{Contract}
use Rattle.ds_domain_base.specs.declared.fault.DomainFault.{DomainFault}
use Rattle.ds_domain_base.specs.declared.terms.Terms.{Terms}
use Rattle.ds_quotes.specs.Quotes.{least_refusal, least_terms, quote_of, with_least}
use Rattle.ds_quotes.specs.Counts.{count_of}
use Rattle.ds_quotes.specs.Words.{field_text}
use Rattle.ds_quotes.specs.declared.asked.Asked.{Asked}
use Rattle.ds_quotes.specs.declared.asked.Asked.TheVariants as asks
use Rattle.ds_quotes.specs.declared.field.Field.{Field}
use Rattle.dsedge_texts.specs.Refused.{refusal_line}
use Rattle.dsedge_texts.specs.Wording.{figure, place_named}
use Rattle.dsedge_texts.specs.declared.quoting.QuoteFault.{QuoteFault}
use Rattle.dsedge_texts.specs.declared.quoting.QuoteFault.TheVariants as faults

-- What is answered to a quote: the greatest value of a field, how many contracts fit, or that no value is, with what the
-- checker says against contracts, if anything.
pub data Quote : Type 0 where
  Greatest : Field → ℕ → Quote
  Fitting : ℕ → Quote
  Nothing : List Contract → Option Refusal → Quote

-- lines, and whether they tell a value
abbrev pub Told : Type 0
Told = List ℕ × Bool

-- FIELD VALUE
abbrev pub value_line : Field → ℕ → List ℕ
value_line field value = field_text field ++ figure value ++ codes "\n"

-- `none`, and the checker's line for the least value
abbrev pub none_lines : List Contract → Option Refusal → List ℕ
none_lines contracts refusal = codes "none\n" ++ option_map_or (refusal_line contracts) refusal []

abbrev pub told_by : List Contract → Field → Option Refusal → Option ℕ → Told
told_by contracts field refusal (Some value) = (value_line field value, true)
told_by contracts field refusal None = (none_lines contracts refusal, false)

-- beside a table that is acceptable
abbrev pub told_beside : Table → Contract → Field → Told
told_beside t c field = told_by t.contracts field (least_refusal t c field) (quote_of t c field)

-- count N
abbrev pub count_line : ℕ → List ℕ
count_line number = codes "count" ++ figure number ++ codes "\n"

abbrev pub told_count : Table → Contract → Told
told_count t c = (count_line (count_of t c), true)

-- what is asked for of a contract, beside a table that is acceptable
abbrev pub told_of : Table → Contract → Asked → Told
told_of t c (asks.Most field) = told_beside t c field
told_of t c asks.Count = told_count t c

-- the others with the contract in its place again, on some terms
abbrev pub whole_on : List Contract → ℕ → Contract → Terms → List Contract
whole_on others place c terms = insert others place (on_terms terms c)

-- the lines of what is answered
abbrev pub lines_of_quote : Quote → Told
lines_of_quote (Greatest field value) = (value_line field value, true)
lines_of_quote (Fitting n) = (count_line n, true)
lines_of_quote (Nothing contracts refusal) = (none_lines contracts refusal, false)

-- the contracts that a refusal speaks of: none where it names none
abbrev pub named_in : List Contract → Option Refusal → List Contract
named_in contracts None = []
named_in contracts (Some (refusals.Shape place)) = []
named_in contracts (Some (refusals.FirstBound place column needed given)) = contracts
named_in contracts (Some (refusals.HopBound place hop column needed given)) = contracts
named_in contracts (Some (refusals.GreenRate meter needed available)) = []
named_in contracts (Some (refusals.GreenBurst meter needed available)) = []
named_in contracts (Some (refusals.AllRate meter needed available)) = []
named_in contracts (Some (refusals.AllBurst meter needed available)) = []
named_in contracts (Some refusals.NoMemory) = []

-- no value is, with what the checker says against contracts
abbrev pub nothing_told : List Contract → Option Refusal → Quote
nothing_told contracts refusal = Nothing (named_in contracts refusal) refusal

abbrev pub quote_by_value : List Contract → Field → Option Refusal → Option ℕ → Quote
quote_by_value contracts field refusal (Some value) = Greatest field value
quote_by_value contracts field refusal None = nothing_told contracts refusal

-- beside a table that is acceptable
abbrev pub quote_beside : Table → Contract → Field → Quote
quote_beside t c field = quote_by_value t.contracts field (least_refusal t c field) (quote_of t c field)

-- where the others are refused without it, no value is
abbrev pub quote_none : Domain → List Contract → ℕ → Contract → Terms → Quote
quote_none d others place c terms =
    nothing_told (whole_on others place c terms) (refusal_of (with_least d (whole_on others place c terms)))

abbrev pub quote_with : Domain → List Contract → ℕ → Contract → Field → Terms → Option Refusal → Quote
quote_with d others place c field terms None = quote_beside (with_least d others) c field
quote_with d others place c field terms (Some refusal) = quote_none d others place c terms

-- a contract that has the field, beside the others
abbrev pub quote_on : Domain → List Contract → ℕ → Contract → Field → Option Terms → Result Quote QuoteFault
quote_on d others place c field None = Err faults.NoField
quote_on d others place c field (Some terms) = Ok (quote_with d others place c field terms (refusal_of (with_least d others)))

-- how many contracts like one fit beside the others; where these are refused without it, none
abbrev pub count_beside : Domain → List Contract → Contract → Option Refusal → Quote
count_beside d others c None = Fitting (count_of (with_least d others) c)
count_beside d others c (Some refusal) = nothing_told others (Some refusal)

abbrev pub count_on : Domain → List Contract → Contract → Result Quote QuoteFault
count_on d others c = Ok (count_beside d others c (refusal_of (with_least d others)))

-- what is asked for of a contract, beside the others
abbrev pub asked_on : Domain → List Contract → ℕ → Contract → Asked → Result Quote QuoteFault
asked_on d others place c (asks.Most field) = quote_on d others place c field (least_terms field c.terms)
asked_on d others place c asks.Count = count_on d others c

-- the contract of a place
abbrev pub quote_of_contract : Domain → List Contract → ℕ → Asked → Option Contract → Result Quote QuoteFault
quote_of_contract d contracts place asked None = Err faults.Unnamed
quote_of_contract d contracts place asked (Some c) = asked_on d (remove contracts place) place c asked

abbrev pub quote_at : Domain → List Contract → Asked → Option ℕ → Result Quote QuoteFault
quote_at d contracts asked None = Err faults.Unnamed
quote_at d contracts asked (Some place) = quote_of_contract d contracts place asked (slice_get contracts place)

abbrev pub quote_by : List ℕ → Asked → Result (Domain × List Contract) DomainFault → Result Quote QuoteFault
quote_by name asked (Err fault) = Err (faults.Domain fault)
quote_by name asked (Ok parsed) = quote_at parsed.0 parsed.1 asked (place_named parsed.1 name)

-- of the contract of a name in a domain text
abbrev pub quote_in : List ℕ → List ℕ → Asked → Result Quote QuoteFault
quote_in text name asked = quote_by name asked (parse_of text)
