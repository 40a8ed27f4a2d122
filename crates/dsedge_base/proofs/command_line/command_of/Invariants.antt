use Rattle.std.proofs.Common.{drop}
use Rattle.dsedge_base.specs.CommandTable.{app_in}
use Rattle.dsedge_base.proofs.CommandLemmas.{Lacks}
use Rattle.dsedge_base.proofs.command_line.command_of.Given as goal

-- it lacks the arguments that are left
abbrev pub invariant-loop-argument : goal.invariant-loop-argument
invariant-loop-argument l = Lacks (app_in l.entry) (drop l.argument-index l.argument-items) l.command
