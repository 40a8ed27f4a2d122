use Rattle.std.proofs.Common.{ap, ◌∙◌}
use Rattle.std.proofs.lemmas.Result.{IfOk-weaker}
use Rattle.dsedge_base.specs.CommandTable.{with_commands}
use Rattle.dsedge_base.proofs.command_line.command_line.Goals as goal

pub returns : goal.returns
returns c = IfOk-weaker c.with_each.result _ _
    (λ command all. all ∙ (ap (λ app. with_commands app c.commands.result.now) c.in_ok-program.ensures ∙ c.commands.ensures)) c.with_each.ensures
