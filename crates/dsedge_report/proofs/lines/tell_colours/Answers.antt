use Rattle.dsedge_report.specs.Reports.{colours_text}
use Rattle.dsedge_faults.proofs.FrontLemmas.{given_as}
use Rattle.dsedge_report.proofs.ReportLemmas.{colours_line_of}
use Rattle.dsedge_report.proofs.lines.tell_colours.Goals as goal

pub returns-clause-line : goal.returns-clause-line
returns-clause-line g c told =
    given_as c.give_parts.result (g.F.Outlet.held c.args.faults.now) (g.F.Outlet.held c.give_parts.new.outlet) _ (colours_text c.args.report.now)
    (colours_line_of c.args.report.now c.format.result.now c.format-2.result.now c.format-3.result.now c.format-4.result.now c.format-5.result.now c.format-6.result.now
    c.format.ensures.text c.format-2.ensures.text c.format-3.ensures.text c.format-4.ensures.text c.format-5.ensures.text c.format-6.ensures.text)
    (c.give_parts.ensures.bytes told)
