-- How a broker's answers are written, a line each.
use Rattle.std.specs.Prelude.{ℕ, List, [], ◌∷◌, ◌++◌, codes, decimal, flat_map, Option, None, Some}
use Rattle.ds_domain_base.specs.Faults.{field_text}
use Rattle.ds_domain_base.specs.declared.contract.Contract.{Contract}
use Rattle.ds_domain_base.specs.declared.fault.DomainFault.{DomainFault}
use Rattle.ds_broker.specs.declared.entry.Entry.{Entry}
use Rattle.ds_broker.specs.declared.entry.Grant.{Grant}
use Rattle.ds_broker.specs.declared.refusal.BrokerRefusal.{BrokerRefusal}
use Rattle.ds_broker.specs.declared.refusal.BrokerRefusal.TheVariants as refusals
use Rattle.dsedge_texts.specs.Refused.{refusal_line}
use Rattle.dsedge_texts.specs.Wording.{figure, kind_text, text_or_dash}

-- ID SERIAL SINCE
abbrev pub granted_line : Grant → List ℕ
granted_line g = codes "granted" ++ figure g.id ++ figure g.serial ++ figure g.since ++ codes "\n"

-- ID SERIAL, behind what was done
abbrev pub done_line : List ℕ → ℕ → ℕ → List ℕ
done_line done id serial = done ++ figure id ++ figure serial ++ codes "\n"

-- why a contract is refused: the kind of its fault
abbrev pub fault_line : List ℕ → List ℕ
fault_line kind = codes "refused 1 " ++ kind ++ codes "\n"

-- NAME, of a contract that is offered
abbrev pub offered_line : List ℕ → List ℕ
offered_line name = codes "offered " ++ name ++ codes "\n"

-- why a contract is not offered: the kind of its fault, and the field
abbrev pub unoffered_line : DomainFault → List ℕ
unoffered_line fault = fault_line (kind_text fault.kind ++ codes " " ++ text_or_dash (field_text fault.field))

-- how much of a hold is left, in nanoseconds
abbrev pub hold_line : ℕ → List ℕ
hold_line nanoseconds = codes "refused 9 HoldLeft" ++ figure nanoseconds ++ codes "\n"

-- Why a command is refused: the refusal's number and name; or the checker's line, for these contracts.
abbrev pub refused_line : List Contract → BrokerRefusal → List ℕ
refused_line held (refusals.Contract fault) = fault_line (kind_text fault.kind)
refused_line held refusals.TableFull = codes "refused 2 TableFull\n"
refused_line held (refusals.Checker refusal) = refusal_line held refusal
refused_line held refusals.UnknownId = codes "refused 4 UnknownId\n"
refused_line held refusals.AlreadyReleased = codes "refused 5 AlreadyReleased\n"
refused_line held refusals.HistoryFull = codes "refused 6 HistoryFull\n"
refused_line held refusals.NoMemory = codes "refused 7 NoMemory\n"
refused_line held refusals.NotReleased = codes "refused 8 NotReleased\n"
refused_line held (refusals.HoldLeft nanoseconds) = hold_line nanoseconds

-- the end of a contract, or `-` where it has none
abbrev pub until_text : Option ℕ → List ℕ
until_text None = codes " -"
until_text (Some until) = figure until

-- ID NAME SINCE UNTIL
abbrev pub entry_line : Entry → List ℕ
entry_line e =
    decimal e.id ++ codes " " ++ e.name ++ figure e.since ++ until_text e.until ++ codes "\n"

-- a line for each contract in order of admission, or `none`
abbrev pub list_text : List Entry → List ℕ
list_text [] = codes "none\n"
list_text (e ∷ entries) = flat_map entry_line (e ∷ entries)

-- how many commands were accepted, and how many contracts are held
abbrev pub sight_line : ℕ → ℕ → List ℕ
sight_line serial contracts = codes "serial" ++ figure serial ++ codes " contracts" ++ figure contracts ++ codes "\n"
