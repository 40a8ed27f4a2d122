use Rattle.std.proofs.Common.{◌≡◌, drop}
use Rattle.clap.specs.Words.{app_of}
use Rattle.dsedge_base.specs.CommandTable.{with_commands}
use Rattle.dsedge_base.proofs.command_line.with_each.Given as goal

-- with the commands that are left it is the program with all of them
abbrev pub invariant-loop-entry : goal.invariant-loop-entry
invariant-loop-entry l =
    with_commands (app_of l.command) (drop l.entry-index l.entries) ≡ with_commands (app_of l.initial.command) l.entries
