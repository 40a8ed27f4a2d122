-- What rows tell.
use Rattle.std.specs.Prelude.{◌≡◌, List, All, IsPermutation}
use Rattle.ds_broker.specs.declared.command.Command.{Command}
use Rattle.ds_ledger_rows.specs.Sound.{IsSound}
use Rattle.ds_ledger.specs.Kept.{rows_of}

-- commands with the same rows, in whatever order a table has them, are the same
abbrev pub RowsTellCommands : Type 0
RowsTellCommands = (a b : List Command) → All IsSound a → All IsSound b → IsPermutation (rows_of a) (rows_of b) → a ≡ b
