-- What a broker answers, by its line, or by the line of its object: both say the same answer.
use Rattle.std.specs.Prelude.{ℕ, Bool, true, false, List}
use Rattle.serde_json.specs.Data.{Data}
use Rattle.json_lines.specs.JsonLines.{line_of}
use Rattle.ds_broker.specs.declared.entry.Entry.{Entry}
use Rattle.ds_broker.specs.declared.entry.Grant.{Grant}
use Rattle.ds_broker.specs.declared.refusal.BrokerRefusal.{BrokerRefusal}
use Rattle.ds_checker.specs.Acceptance.{Table}
use Rattle.ds_domain_base.specs.declared.contract.Contract.{Contract}
use Rattle.ds_domain_base.specs.declared.fault.DomainFault.{DomainFault}
use Rattle.ds_quotes.specs.Counts.{count_of}
use Rattle.ds_quotes.specs.declared.asked.Asked.{Asked}
use Rattle.ds_quotes.specs.declared.asked.Asked.TheVariants as asks
use Rattle.dsedge_json.specs.Objects.{headroom_data}
use Rattle.dsedge_json.specs.Quotations.{quote_data}
use Rattle.dsedge_texts.specs.Headed.{headroom_text}
use Rattle.dsedge_texts.specs.Quoted.{Fitting, Quote, quote_beside, told_of}
use Rattle.dsedge_sold.specs.Sold.{done_line, fault_line, granted_line, list_text, offered_line, refused_line, sight_line, unoffered_line}
use Rattle.dsedge_sold.specs.SoldObjects.{done_data, granted_data, kind_data, list_data, offered_data, refused_data, sight_data, unoffered_data}

-- lines, or an object's line
abbrev pub said_as : Bool → List ℕ → Data → List ℕ
said_as false lines content = lines
said_as true lines content = line_of content

abbrev pub granted_said : Bool → Grant → List ℕ
granted_said in_json g = said_as in_json (granted_line g) (granted_data g)

abbrev pub done_said : Bool → List ℕ → ℕ → ℕ → List ℕ
done_said in_json done id serial = said_as in_json (done_line done id serial) (done_data done id serial)

abbrev pub fault_said : Bool → List ℕ → List ℕ
fault_said in_json kind = said_as in_json (fault_line kind) (kind_data 1 kind)

abbrev pub offered_said : Bool → List ℕ → List ℕ
offered_said in_json name = said_as in_json (offered_line name) (offered_data name)

abbrev pub unoffered_said : Bool → DomainFault → List ℕ
unoffered_said in_json fault = said_as in_json (unoffered_line fault) (unoffered_data fault)

abbrev pub refused_said : Bool → List Contract → BrokerRefusal → List ℕ
refused_said in_json held refusal = said_as in_json (refused_line held refusal) (refused_data held refusal)

abbrev pub list_said : Bool → List Entry → List ℕ
list_said in_json entries = said_as in_json (list_text entries) (list_data entries)

abbrev pub sight_said : Bool → ℕ → ℕ → List ℕ
sight_said in_json serial contracts = said_as in_json (sight_line serial contracts) (sight_data serial contracts)

abbrev pub headroom_said : Bool → Table → List ℕ
headroom_said in_json t = said_as in_json (headroom_text t) (headroom_data t)

-- what is asked for of a contract, beside a table that is acceptable
abbrev pub asked_beside : Table → Contract → Asked → Quote
asked_beside t c (asks.Most field) = quote_beside t c field
asked_beside t c asks.Count = Fitting (count_of t c)

abbrev pub asked_said : Bool → Table → Contract → Asked → List ℕ
asked_said in_json t c asked = said_as in_json (told_of t c asked).0 (quote_data (asked_beside t c asked))
