use Rattle.std.proofs.Common.{[], unwrap_or}
use Rattle.std.proofs.lemmas.Result.{err_from_is_err_and}
use Rattle.dsedge_report.specs.Reports.{report_text}
use Rattle.pcap_capture.proofs.FrontLaws.{IsFrontOf-first}
use Rattle.dsedge_faults.proofs.FrontLemmas.{behind_told}
use Rattle.dsedge_serve.proofs.marking.tell_judged.Goals as goal

pub returns-clause-line : goal.returns-clause-line
returns-clause-line g c told =
    behind_told c.tell_line.result (g.F.Outlet.held c.args.faults.now) (g.F.Outlet.held c.tell_report.new.faults) (g.F.Outlet.held c.tell_line.new.faults)
    (report_text c.args.report.now) (unwrap_or c.args.line.now []) (c.in_ok-tell_report.ensures.line told) (c.tell_line.ensures.line (c.in_ok-tell_report.ensures.told told))

pub returns-in_err-tell_report-clause-line : goal.returns-in_err-tell_report-clause-line
returns-in_err-tell_report-clause-line g c told =
    let p = err_from_is_err_and c.from_residual.result c.from_residual.ensures.1 in
    rw p.1 (IsFrontOf-first (g.F.Outlet.held c.args.faults.now) (g.F.Outlet.held c.tell_report.new.faults) (report_text c.args.report.now) (unwrap_or c.args.line.now []) (c.in_err-tell_report.ensures.line told))
