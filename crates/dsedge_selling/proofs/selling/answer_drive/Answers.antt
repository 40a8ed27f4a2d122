use Rattle.line_text.specs.Lines.{lines_of}
use Rattle.dsedge_drive.specs.Driven.{opening_book}
use Rattle.dsedge_selling.proofs.SaleLemmas.{unledgered_served}
use Rattle.dsedge_selling.proofs.selling.answer_drive.Goals as goal

pub returns-in-Ok-clause-served : goal.returns-in-Ok-clause-served
returns-in-Ok-clause-served g c tells told =
    let lines = lines_of (g.I.Intake.left c.args.intake.now) in
    rw (c.in-Ok.ensures.ok, c.unledgered.ensures)
    (unledgered_served c.args.manner.in_json (opening_book c.in-Ok.domain c.args.manner.limits) c.in-Ok.contracts.items lines c.sell-sold.result
    (g.O.Outlet.held c.args.output.now) (g.O.Outlet.held c.sell-sold.new.output)
    (rw c.new.ensures.items at (c.sell-sold.ensures.served tells told)))
