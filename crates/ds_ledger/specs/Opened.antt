-- Why no ledger is had of a database.
use Rattle.std.specs.Prelude.{◌≡◌, ◌⊎◌, true, false, List, [], ⊤}
use Rattle.sqlite.specs.declared.error.Error.{Error}
use Rattle.sqlite.specs.Held.{Held, state}
use Rattle.sqlite.specs.State.{State, HasCleanDisk, Survives}
use Rattle.sqlite.specs.Store.{Ghosts}
use Rattle.ds_broker.specs.declared.command.Command.{Command}
use Rattle.ds_ledger_base.specs.declared.fault.LedgerFault.{LedgerFault}
use Rattle.ds_ledger_base.specs.declared.fault.LedgerFault.TheVariants as faults
use Rattle.ds_ledger_table.specs.Form.{no_schema}
use Rattle.ds_ledger_table.specs.Rows.{FailsToTellForm, IsMade, TellsForm, rows_in}
use Rattle.ds_ledger.specs.Faults.{fault_of_read, fault_of_write}
use Rattle.ds_ledger.specs.Kept.{AreFound, IsTold, Keeps, Outlasts, WasFound}
use Rattle.ds_ledger.specs.declared.ledger.End.{End}
use Rattle.ds_ledger.specs.declared.reading.Stop.{Stop}
use Rattle.ds_ledger.specs.declared.reading.Stop.TheVariants as stops

-- a row is that of no command in its turn, or memory ran out
abbrev pub IsMisread : LedgerFault → Type 0
IsMisread fault = (fault ≡ faults.Damaged) ⊎ (fault ≡ faults.NoMemory)

-- the database fails or refuses, or a row is misread
abbrev pub IsStop : Stop → Type 0
IsStop (stops.Database e) = ⊤
IsStop (stops.Row fault) = IsMisread fault

-- what that is told as
abbrev pub fault_of : Stop → LedgerFault
fault_of (stops.Database e) = fault_of_read e
fault_of (stops.Row fault) = fault

-- its form is another, or cannot be found out
abbrev pub IsFormless : State → State → LedgerFault → Type 0
IsFormless old new fault =
    (TellsForm old.now false × (fault ≡ faults.Form))
    ⊎ ((e : Error) × FailsToTellForm old new e × (fault ≡ fault_of_read e))

-- its rows are not all those of commands, or a transaction is open
abbrev pub IsUnread : State → LedgerFault → Type 0
IsUnread new fault =
    ((stop : Stop) × IsStop stop × (fault ≡ fault_of stop)) ⊎ ((new.in_transaction ≡ true) × (fault ≡ faults.Form))

-- there was nothing in it, and it could not be given the form
abbrev pub IsUnmade : State → LedgerFault → Type 0
IsUnmade first fault = (first.now.schema ≡ no_schema) × (e : Error) × (fault ≡ fault_of_write e)

-- Why no ledger is had of a database, in this order. A crash on the way leaves what it left before, or the form with no
-- row.
abbrev pub IsUnopened : {S : Type 0} → Ghosts S → Held S → LedgerFault → Type 0
IsUnopened {S} g first fault = (last : Held S) × Survives (state g first) (state g last) (λ db. rows_in db ≡ [])
    × (HasCleanDisk (state g last) → IsUnmade (state g first) fault
    ⊎ ((made : Held S) × ((made ≡ first) ⊎ IsMade (state g first) (state g made))
    × (IsFormless (state g made) (state g last) fault
    ⊎ (TellsForm (state g made).now true × IsUnread (state g last) fault))))

-- a ledger in a database keeps the commands that were found there, and whatever a crash leaves from then on has them
pub record IsLedgerOver {S : Type 0} (g : Ghosts S) (first last : Held S) (end : End) (commands : List Command)
    : Type 0 where
  pub kept : IsTold (state g last) → Keeps (state g last) end commands
  pub found : IsTold (state g last) → WasFound (state g first).committed commands
  pub lasting : HasCleanDisk (state g last) → Outlasts (state g last) commands
  pub crash : Survives (state g first) (state g last) (λ db. rows_in db ≡ [])

-- the commands of a database in the form of a ledger's were read, and nothing was changed
abbrev pub IsReadOver : {S : Type 0} → Ghosts S → Held S → List Command → Type 0
IsReadOver {S} g first commands = (last : Held S) × Survives (state g first) (state g last) (λ _. ⊥)
    × (HasCleanDisk (state g last) → TellsForm (state g first).now true × AreFound (state g first).now.trees commands)

-- Why they were not: its form is another, or cannot be found out, or not all its rows are those of commands.
abbrev pub IsUnreadOver : {S : Type 0} → Ghosts S → Held S → LedgerFault → Type 0
IsUnreadOver {S} g first fault = (last : Held S) × Survives (state g first) (state g last) (λ _. ⊥)
    × (HasCleanDisk (state g last) → IsFormless (state g first) (state g last) fault
    ⊎ (TellsForm (state g first).now true × (stop : Stop) × IsStop stop × (fault ≡ fault_of stop)))
