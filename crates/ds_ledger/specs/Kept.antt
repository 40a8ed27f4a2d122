-- What a ledger in a database keeps.
use Rattle.std.specs.Prelude.{◌≡◌, ◌⊎◌, ◌+◌, ℕ, List, [], ◌∷◌, ◌++◌, fold, length, All, IsTrue, IsPermutation}
use Rattle.sqlite_value.specs.Order.{Row}
use Rattle.sqlite_trees.specs.Tree.{Trees}
use Rattle.sqlite.specs.Effect.{Database}
use Rattle.sqlite.specs.Recovery.{Image}
use Rattle.sqlite.specs.Files.{AreFoundIn, HoldsDatabase}
use Rattle.sqlite.specs.State.{State, HasCleanDisk}
use Rattle.ds_broker.specs.Histories.{standing_of}
use Rattle.ds_broker.specs.declared.command.Command.{Command}
use Rattle.ds_broker.specs.declared.command.Command.TheVariants.{Reserve, Release, Retire}
use Rattle.ds_ledger_base.specs.Numbers.{id_for}
use Rattle.ds_ledger_rows.specs.Cells.{cells_of, id_of}
use Rattle.ds_ledger_rows.specs.Sound.{IsSound}
use Rattle.ds_ledger_table.specs.Form.{no_schema}
use Rattle.ds_ledger_table.specs.Rows.{Holds, rows_in}
use Rattle.ds_ledger.specs.declared.ledger.End.{End}

-- the rows of commands that were accepted behind these, with their serials and their ids
abbrev pub rows_behind : List Command → List Command → List Row
rows_behind before [] = []
rows_behind before (command ∷ commands) =
    cells_of (length before + 1) (id_for before command) command ∷ rows_behind (before ++ command ∷ []) commands

-- the rows of all commands
abbrev pub rows_of : List Command → List Row
rows_of history = rows_behind [] history

-- how many commands there are, and how many contracts they granted
abbrev pub end_of : List Command → End
end_of history = record { serial = length history; granted = (standing_of history).granted }

-- how many contracts a command grants
abbrev pub granted_by : Command → ℕ
granted_by (Reserve contract) = 1
granted_by (Release id at) = 0
granted_by (Retire id moment) = 0

-- how far commands go with one more, and with these
abbrev pub next_end : End → Command → End
next_end end command = record { serial = end.serial + 1; granted = end.granted + granted_by command }

abbrev pub end_after : End → List Command → End
end_after = fold next_end

-- the row of the next command, and of these
abbrev pub row_at : End → Command → Row
row_at end command = cells_of (end.serial + 1) (id_of (end.granted + 1) command) command

abbrev pub rows_from : End → List Command → List Row
rows_from end [] = []
rows_from end (command ∷ commands) = row_at end command ∷ rows_from (next_end end command) commands

-- a row was read behind commands, as that of one more
pub record IsRead (old new : List Command) (end next : End) (row : Row) : Type 0 where
  pub command : Command
  pub read : new ≡ old ++ command ∷ []
  pub next_is : next ≡ next_end end command
  pub row_is : row ≡ row_at end command
  pub sound : IsSound command

-- so far the disk has told the truth, and no failure has shut the database
abbrev pub IsTold : State → Type 0
IsTold s = HasCleanDisk s × IsTrue s.is_open

-- the last commit is in the form of a ledger's, with exactly the rows of these commands, and this is how far they go
pub record Keeps (s : State) (end : End) (history : List Command) : Type 0 where
  pub rows : Holds s.committed (rows_of history)
  pub counted : end ≡ end_of history
  pub sound : All IsSound history

-- What a crash on the way of an appending may leave anew: the rows of all commands, where the database was open.
pub record MayKeep (s : State) (end : End) (commands : List Command) (db : Trees) : Type 0 where
  pub was_open : IsTrue s.is_open
  pub sound : All IsSound commands
  pub rows : (history : List Command) → Keeps s end history → IsPermutation (rows_of (history ++ commands)) (rows_in db)

-- a database had the rows of these commands, or there was nothing in it and there are none
abbrev pub WasFound : Database → List Command → Type 0
WasFound db history = Holds db (rows_of history) ⊎ ((db.schema ≡ no_schema) × (history ≡ []))

-- commands that have exactly the rows of a database
pub record AreFound (db : Trees) (found : List Command) : Type 0 where
  pub rows : IsPermutation (rows_of found) (rows_in db)
  pub sound : All IsSound found

-- what a crash at this moment may leave has the rows of these commands
abbrev pub MayLeave : State → List Command → Type 0
MayLeave s found = (db : Trees) × s.may_leave db × AreFound db found

-- whatever a crash at this moment leaves has the rows of commands
abbrev pub Recovers : State → Type 0
Recovers s = (db : Trees) → s.may_leave db → (found : List Command) × AreFound db found

-- whatever a crash at this moment leaves has the rows of these commands
abbrev pub Outlasts : State → List Command → Type 0
Outlasts s history = (db : Trees) → s.may_leave db → AreFound db history

-- What an open finds that begins with these contents of the two files: the database that they hold.
pub record IsFound (image : Image) (found : Trees) : Type 0 where
  pub holds : (db : Trees) → HoldsDatabase image db → found ≡ db
  pub reads : AreFoundIn image found

-- the files held a database with the rows of these commands, or there was nothing in it and there are none
pub record WasFoundIn (image : Image) (history : List Command) : Type 0 where
  pub db : Database
  pub finds : IsFound image db.trees
  pub was : WasFound db history
  pub are : AreFound db.trees history
