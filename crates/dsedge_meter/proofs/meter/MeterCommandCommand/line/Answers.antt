use Rattle.std.proofs.Common.{sym, ◌∙◌}
use Rattle.dsedge_lines.specs.declared.command.Ending.TheVariants.{BadLine}
use Rattle.dsedge_meter.proofs.MeteredLaws.{answer_of-bad, behind-nothing}
use Rattle.dsedge_meter.proofs.meter.MeterCommandCommand.line.Goals as goal

pub returns-in-None-clause-answer : goal.returns-in-None-clause-answer
returns-in-None-clause-answer c later =
    rw (answer_of-bad c.args.self.now c.args.number c.args.line.now later (sym c.arrival.ensures ∙ c.in-None.is))
    (behind-nothing c.args.out.now.items (BadLine c.args.number))
