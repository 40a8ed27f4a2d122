use Rattle.std.proofs.Common.{refl}
use Rattle.std.proofs.lemmas.Result.{IfOk-weaker}
use Rattle.dsedge_base.proofs.CommandLemmas.{with_command}
use Rattle.dsedge_base.proofs.command_line.with_one.Goals as goal

pub returns : goal.returns
returns c = IfOk-weaker c.subcommand.result _ _
    (λ command adds. with_command _ c.args.entry.now _ _ _ refl c.in_ok-command.ensures.shape c.in_ok-command.ensures.local adds) c.subcommand.ensures
