use Rattle.std.proofs.Common.{◌++◌, None, Some, sym, subst, append-nil}
use Rattle.line_text.specs.Lines.{lines_of}
use Rattle.dsedge_lines.proofs.CourseLaws.{none_handed}
use Rattle.dsedge_lines.proofs.engine.pump.Goals as goal

pub returns-in_default-clause-stands : goal.returns-in_default-clause-stands
returns-in_default-clause-stands g c = λ tells tells_outlet start whole front it.
    let stops = g.met.C.Command.stops start whole (Some (lines_of (g.I.Intake.left c.args.intake.now))) front c.args.command.now it in
    none_handed (λ text. g.C.Command.stands start whole None (front ++ text) c.args.command.now) (g.O.Outlet.held c.args.outlet.now)
    (subst (λ text. g.C.Command.stands start whole None text c.args.command.now) (sym (append-nil front)) stops)
