use Rattle.std.proofs.lemmas.Result.{err_from_is_err_and}
use Rattle.dsedge_report.specs.Reports.{colours_text, counts_text}
use Rattle.pcap_capture.proofs.FrontLaws.{IsFrontOf-first}
use Rattle.dsedge_faults.proofs.FrontLemmas.{behind_told}
use Rattle.dsedge_report.proofs.lines.tell_report.Goals as goal

pub returns-clause-line : goal.returns-clause-line
returns-clause-line g c told =
    behind_told c.tell_colours.result (g.F.Outlet.held c.args.faults.now) (g.F.Outlet.held c.tell_counts.new.faults) (g.F.Outlet.held c.tell_colours.new.faults)
    (counts_text c.args.report.now) (colours_text c.args.report.now) (c.in_ok-tell_counts.ensures.line told) (c.tell_colours.ensures.line (c.in_ok-tell_counts.ensures.told told))

pub returns-in_err-tell_counts-clause-line : goal.returns-in_err-tell_counts-clause-line
returns-in_err-tell_counts-clause-line g c told =
    let p = err_from_is_err_and c.from_residual.result c.from_residual.ensures.1 in
    rw p.1 (IsFrontOf-first (g.F.Outlet.held c.args.faults.now) (g.F.Outlet.held c.tell_counts.new.faults) (counts_text c.args.report.now) (colours_text c.args.report.now) (c.in_err-tell_counts.ensures.line told))
