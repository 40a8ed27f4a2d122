-- The rows of a ledger's table.
use Rattle.std.specs.Prelude.{◌≡◌, ◌≢◌, ◌⊎◌, ◌&&◌, ◌++◌, ℤ, pos, Bool, true, false, List, [], ◌∷◌, map, Contains, IsTrue, IsPermutation, Ok, Err}
use Rattle.std.specs.List.{range_with_len}
use Rattle.sqlite.specs.declared.types.Value.{Value}
use Rattle.sqlite.specs.declared.types.Value.TheVariants as value
use Rattle.sqlite.specs.Order.{Row, column}
use Rattle.sqlite.specs.Kind.{Kind}
use Rattle.sqlite.specs.Kind.TheVariants.{Integer, Text, Any}
use Rattle.sqlite_schema.specs.declared.schema.Column.{Column}
use Rattle.sqlite.specs.Tree.{Trees}
use Rattle.sqlite.specs.View.{is_int}
use Rattle.sqlite.specs.Effect.{Database}
use Rattle.sqlite.specs.State.{State, HasCleanDisk, KeepsCommit, QueriesRow}
use Rattle.sqlite.specs.declared.error.Error.{Error}
use Rattle.sqlite.specs.Reading.{IsReadError}
use Rattle.ds_ledger_table.specs.Form.{no_schema, ledger_schema, command_columns, version_query}

-- a row of the table as a query shows it: the rowid in place of the column that it stands for
abbrev pub shown : Row → Row
shown r = column r 0 ∷ map (column r) (range_with_len 2 27)

-- the rows of the table in a database
abbrev pub rows_in : Trees → List Row
rows_in db = map shown (db 0)

-- NULL, a number or a text, as its column takes it
abbrev pub is_cell : Kind → Value → Bool
is_cell Integer value.Null = true
is_cell Integer (value.Int n) = true
is_cell Text value.Null = true
is_cell Text (value.Text t) = true
is_cell Any value.Null = true
is_cell Any (value.Int n) = true
is_cell Any (value.Text t) = true
is_cell kind other = false

abbrev pub are_cells : List Column → Row → Bool
are_cells [] [] = true
are_cells [] (v ∷ vs) = false
are_cells (c ∷ cs) [] = false
are_cells (c ∷ cs) (v ∷ vs) = is_cell c.kind v && are_cells cs vs

-- a row that the table takes: a number, and then a cell for each other column
abbrev pub IsRow : Row → Type 0
IsRow row = IsTrue (is_int (column row 0)) × IsTrue (are_cells command_columns row)

-- a database in the form of a ledger's, whose table has exactly these rows, in some order
pub record Holds (db : Database) (rows : List Row) : Type 0 where
  pub schema : db.schema ≡ ledger_schema
  pub rows_are : IsPermutation rows (rows_in db.trees)

-- Rows came to the table within a transaction. The last commit stands.
pub record Adds (old new : State) (rows : List Row) : Type 0 where
  pub committed : new.committed ≡ old.committed
  pub mode : new.in_transaction ≡ true
  pub schema : new.now.schema ≡ ledger_schema
  pub added : IsPermutation (rows_in old.now.trees ++ rows) (rows_in new.now.trees)

-- rows were committed behind all others
pub record IsAppended (old new : State) (rows : List Row) : Type 0 where
  pub was_open : IsTrue new.is_open → IsTrue old.is_open
  pub is_open : IsTrue old.is_open → IsTrue new.is_open
  pub kept : (before : List Row) → IsTrue new.is_open → Holds old.committed before → Holds new.committed (before ++ rows)

-- what a crash on the way leaves, if it leaves anything new: the rows behind all others
pub record MayAppend (old : State) (rows : List Row) (db : Trees) : Type 0 where
  pub was_open : IsTrue old.is_open
  pub whole : (before : List Row) → Holds old.committed before → IsPermutation (before ++ rows) (rows_in db)

-- the form of a ledger's was made within a transaction, where there was nothing, and its table has no row
pub record Makes (old new : State) : Type 0 where
  pub was_open : IsTrue old.is_open
  pub committed : new.committed ≡ old.committed
  pub mode : new.in_transaction ≡ true
  pub made : old.now.schema ≡ no_schema → (new.now.schema ≡ ledger_schema) × (new.now.trees 0 ≡ [])

-- the form of a ledger's was committed, where there was nothing, and its table has no row
pub record IsMade (old new : State) : Type 0 where
  pub was_open : IsTrue old.is_open
  pub is_open : IsTrue new.is_open
  pub blank : old.committed.schema ≡ no_schema
  pub made : Holds new.committed []

-- what is so of the states before and behind a step within a transaction, where the disk told the truth
abbrev pub AddsWithin : State → State → List Row → Type 0
AddsWithin old new rows =
    HasCleanDisk new → IsTrue old.in_transaction → old.now.schema ≡ ledger_schema → Adds old new rows

abbrev pub KeepsWithin : State → State → Type 0
KeepsWithin old new = HasCleanDisk new → IsTrue old.in_transaction → KeepsCommit old new

abbrev pub WasOpenWithin : State → State → Type 0
WasOpenWithin old new = HasCleanDisk new → IsTrue old.in_transaction → IsTrue old.is_open

-- the form's versions in a database, as a query shows them: there is to be one
abbrev pub versions_in : Trees → List Row
versions_in db = map (λ r. column r 0 ∷ []) (db 1)

abbrev pub TellsVersion : Trees → ℤ → Type 0
TellsVersion db version = (row : Row) × Contains (versions_in db) row × (column row 0 ≡ value.Int version)

-- whether a database has the form of a ledger's, in version 1
abbrev pub TellsForm : Database → Bool → Type 0
TellsForm db true = (db.schema ≡ ledger_schema) × TellsVersion db.trees (pos 1)
TellsForm db false =
    (db.schema ≢ ledger_schema)
    ⊎ ((db.schema ≡ ledger_schema) × (version : ℤ) × (version ≢ pos 1) × TellsVersion db.trees version)

-- Why that is not found out: the query of the version fails, or it shows none, or no number.
abbrev pub FailsToTellForm : State → State → Error → Type 0
FailsToTellForm old new e =
    QueriesRow version_query [] old new (Err e)
    ⊎ ((row : Row) × QueriesRow version_query [] old new (Ok row) × IsReadError 0 (column row 0) e)
