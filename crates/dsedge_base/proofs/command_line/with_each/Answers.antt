use Rattle.dsedge_base.proofs.CommandLemmas.{left_from, with_next_command, with_every_command}
use Rattle.dsedge_base.proofs.command_line.with_each.Goals as goal

pub loop-entry-preserved : goal.loop-entry-preserved
loop-entry-preserved c =
    with_next_command _ _ _ _ _ _ c.loop-entry.invariant (left_from c.args.entries.now c.loop-entry.entry-index _ c.loop-entry-test.true)
    c.in_ok-command.ensures

pub returns : goal.returns
returns c = with_every_command _ c.args.entries.now c.loop-entry.entry-index _ c.loop-entry.invariant c.loop-entry-test.false
