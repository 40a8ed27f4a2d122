use Rattle.std.proofs.Common.{◌≡◌, ◌++◌, Some, subst}
use Rattle.line_text.specs.Lines.{lines_of}
use Rattle.dsedge_lines.proofs.FrontLemmas.{first_of_lines}
use Rattle.dsedge_audit.specs.Audited.{Auditing}
use Rattle.dsedge_audit.specs.StepLines.{step_in}
use Rattle.dsedge_audit.proofs.command.AuditCommandCommand.front_line.Goals as goal

pub returns-clause-answer : goal.returns-clause-answer
returns-clause-answer c later =
    let first = c.in-Some.ensures in
    let says = subst (λ (auditing : Auditing). step_in auditing.table.contracts first.0 ≡ Some c.in-Some.step) c.self.view_is first.2 in
    rw (first_of_lines first.1 later) (c.in_ok-ended.ensures first.0 (lines_of (c.in-Some.rest.now ++ later)) c.args._out.now.items says)
