use Rattle.line_text.specs.Lines.{lines_of}
use Rattle.ds_domain.specs.DomainTexts.{parse_of}
use Rattle.dsedge_selling.proofs.SaleLemmas.{starved_from}
use Rattle.dsedge_selling.proofs.selling.answer_kept.Goals as goal

pub returns-in-Err-NoMemory-clause-served : goal.returns-in-Err-NoMemory-clause-served
returns-in-Err-NoMemory-clause-served g c tells told =
    starved_from (g.S.Shelf.stands c.args.place.now.shelf.now c.args.place.now.name.now) c.args.place.now.manner.in_json c.args.place.now.manner.limits (parse_of c.args.text.now)
    (lines_of (g.I.Intake.left c.args.intake.now)) (g.O.Outlet.held c.args.output.now)
