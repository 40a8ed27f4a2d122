-- The objects of JSON that say what a broker answers, and how its lines are made of them. Members stand in the order of
-- their keys.
use Rattle.std.specs.Prelude.{◌≡◌, ℕ, List, [], ◌∷◌, ◌++◌, codes, drop, map, Option, None, Some}
use Rattle.serde_json.specs.Data.{Data, Items, array, boolean, item, member, no_items, no_members, null, number, object, string, unsigned}
use Rattle.serde_json.specs.Find.{get}
use Rattle.serde_json.specs.Read.{read}
use Rattle.serde_json.specs.View.{items_of}
use Rattle.serde_json.specs.Written.{compact_text}
use Rattle.json_lines.specs.JsonLines.{digits_of, figure_data, line_of, word_before, words_before}
use Rattle.ds_broker.specs.declared.entry.Entry.{Entry}
use Rattle.ds_broker.specs.declared.entry.Grant.{Grant}
use Rattle.ds_broker.specs.declared.refusal.BrokerRefusal.{BrokerRefusal}
use Rattle.ds_broker.specs.declared.refusal.BrokerRefusal.TheVariants as refusals
use Rattle.ds_domain_base.specs.Faults.{field_text}
use Rattle.ds_domain_base.specs.declared.contract.Contract.{Contract}
use Rattle.ds_domain_base.specs.declared.fault.DomainFault.{DomainFault}
use Rattle.dsedge_json.specs.Blanks.{dash_before, text_or_null}
use Rattle.dsedge_json.specs.Objects.{answer_key, refusal_data}
use Rattle.dsedge_texts.specs.Wording.{kind_text}

-- a contract is granted
abbrev pub granted_data : Grant → Data
granted_data g = object
    (member answer_key (string (codes "granted"))
    (member (codes "id") (number (unsigned g.id))
    (member (codes "serial") (number (unsigned g.serial))
    (member (codes "since") (number (unsigned g.since)) no_members))))

-- something was done with the contract of an id
abbrev pub done_data : List ℕ → ℕ → ℕ → Data
done_data done id serial = object
    (member answer_key (string done)
    (member (codes "id") (number (unsigned id))
    (member (codes "serial") (number (unsigned serial)) no_members)))

-- a contract of a name is offered
abbrev pub offered_data : List ℕ → Data
offered_data name = object
    (member answer_key (string (codes "offered"))
    (member (codes "name") (string name) no_members))

-- a refusal that its number and its kind tell
abbrev pub kind_data : ℕ → List ℕ → Data
kind_data code kind = object
    (member answer_key (string (codes "refused"))
    (member (codes "code") (number (unsigned code))
    (member (codes "kind") (string kind) no_members)))

-- a contract is not offered, for the kind of its fault and its field, if one is named
abbrev pub unoffered_data : DomainFault → Data
unoffered_data fault = object
    (member answer_key (string (codes "refused"))
    (member (codes "code") (number (unsigned 1))
    (member (codes "field") (text_or_null (field_text fault.field))
    (member (codes "kind") (string (kind_text fault.kind)) no_members))))

-- so many nanoseconds of a hold are left
abbrev pub hold_data : ℕ → Data
hold_data nanoseconds = object
    (member answer_key (string (codes "refused"))
    (member (codes "code") (number (unsigned 9))
    (member (codes "kind") (string (codes "HoldLeft"))
    (member (codes "left") (figure_data nanoseconds) no_members))))

-- why a command is refused; or what the checker says, for these contracts
abbrev pub refused_data : List Contract → BrokerRefusal → Data
refused_data held (refusals.Contract fault) = kind_data 1 (kind_text fault.kind)
refused_data held refusals.TableFull = kind_data 2 (codes "TableFull")
refused_data held (refusals.Checker refusal) = refusal_data held refusal
refused_data held refusals.UnknownId = kind_data 4 (codes "UnknownId")
refused_data held refusals.AlreadyReleased = kind_data 5 (codes "AlreadyReleased")
refused_data held refusals.HistoryFull = kind_data 6 (codes "HistoryFull")
refused_data held refusals.NoMemory = kind_data 7 (codes "NoMemory")
refused_data held refusals.NotReleased = kind_data 8 (codes "NotReleased")
refused_data held (refusals.HoldLeft nanoseconds) = hold_data nanoseconds

-- the end of a contract, and null where it has none
abbrev pub until_data : Option ℕ → Data
until_data None = null
until_data (Some until) = number (unsigned until)

-- a contract that is held
abbrev pub entry_data : Entry → Data
entry_data e = object
    (member (codes "id") (number (unsigned e.id))
    (member (codes "name") (string e.name)
    (member (codes "since") (number (unsigned e.since))
    (member (codes "until") (until_data e.until) no_members))))

-- the contracts that are held, in order of admission
abbrev pub list_data : List Entry → Data
list_data entries = object
    (member answer_key (string (codes "list"))
    (member (codes "contracts") (array (items_of (map entry_data entries))) no_members))

-- how many commands were accepted, and how many contracts are held
abbrev pub sight_data : ℕ → ℕ → Data
sight_data serial contracts = object
    (member answer_key (string (codes "look"))
    (member (codes "contracts") (number (unsigned contracts))
    (member (codes "serial") (number (unsigned serial)) no_members)))

-- a text is another one with the line of a value behind it, which reads back as the value
pub record IsLineBehind (content : Data) (before after : List ℕ) : Type 0 where
  pub line : after ≡ before ++ line_of content
  pub reads_back : read (compact_text content) ≡ Some content

-- ---- the lines that they say

-- the keys of what is answered to a command or an offer, in the order of its line
abbrev pub sold_keys : List (List ℕ)
sold_keys =
    answer_key ∷ codes "id" ∷ codes "serial" ∷ codes "since" ∷ codes "name" ∷ codes "code" ∷ codes "kind"
    ∷ codes "contract" ∷ codes "hop" ∷ codes "column" ∷ codes "place" ∷ codes "meter" ∷ codes "needed" ∷ codes "given"
    ∷ codes "available" ∷ codes "left" ∷ []

-- the line of a grant, of what was done, of an offer, or of a refusal, whose field, if any, ends it
abbrev pub sold_line_in : Data → List ℕ
sold_line_in content =
    drop 1 (words_before sold_keys content (dash_before (get (codes "field") content) (codes "\n")))

-- the line of what a feed sees
abbrev pub sight_line_in : Data → List ℕ
sight_line_in content =
    codes "serial" ++ word_before (get (codes "serial") content)
    (codes " contracts" ++ word_before (get (codes "contracts") content) (codes "\n"))

-- the end of a contract, and `-` where it has none
abbrev pub until_word : Data → List ℕ
until_word null = codes "-"
until_word (boolean b) = []
until_word (number n) = digits_of n
until_word (string text) = []
until_word (array elements) = []
until_word (object entries) = []

abbrev pub until_before : Option Data → List ℕ → List ℕ
until_before None rest = rest
until_before (Some found) rest = codes " " ++ until_word found ++ rest

-- the line of a contract that is held
abbrev pub entry_line_in : Data → List ℕ
entry_line_in content =
    drop 1 (words_before (codes "id" ∷ codes "name" ∷ codes "since" ∷ []) content
    (until_before (get (codes "until") content) (codes "\n")))

abbrev pub entries_lines : Items → List ℕ
entries_lines no_items = []
entries_lines (item entry entries) = entry_line_in entry ++ entries_lines entries

-- a line for each of them, or `none`
abbrev pub held_lines : Items → List ℕ
held_lines no_items = codes "none\n"
held_lines (item entry entries) = entries_lines (item entry entries)

abbrev pub lines_of_list : Option Data → List ℕ
lines_of_list None = []
lines_of_list (Some null) = []
lines_of_list (Some (boolean b)) = []
lines_of_list (Some (number n)) = []
lines_of_list (Some (string text)) = []
lines_of_list (Some (array entries)) = held_lines entries
lines_of_list (Some (object entries)) = []

abbrev pub list_lines_in : Data → List ℕ
list_lines_in content = lines_of_list (get (codes "contracts") content)
