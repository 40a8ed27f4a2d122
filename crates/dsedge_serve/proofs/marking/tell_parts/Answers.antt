use Rattle.std.proofs.lemmas.Result.{err_from_is_err_and}
use Rattle.dsedge_serve.specs.Marked.{judged_text, marking_fault_text}
use Rattle.pcap_capture.proofs.FrontLaws.{IsFrontOf-first}
use Rattle.dsedge_faults.proofs.FrontLemmas.{behind_told}
use Rattle.dsedge_serve.proofs.marking.tell_parts.Goals as goal

pub returns-clause-line : goal.returns-clause-line
returns-clause-line g c told =
    behind_told c.tell_fault.result (g.F.Outlet.held c.args.faults.now) (g.F.Outlet.held c.tell_judged.new.faults) (g.F.Outlet.held c.tell_fault.new.faults)
    (judged_text c.args.report.now c.args.line.now) (marking_fault_text c.args.port.now c.args.fault) (c.in_ok-tell_judged.ensures.line told) (c.tell_fault.ensures.line (c.in_ok-tell_judged.ensures.told told))

pub returns-in_err-tell_judged-clause-line : goal.returns-in_err-tell_judged-clause-line
returns-in_err-tell_judged-clause-line g c told =
    let p = err_from_is_err_and c.from_residual.result c.from_residual.ensures.1 in
    rw p.1 (IsFrontOf-first (g.F.Outlet.held c.args.faults.now) (g.F.Outlet.held c.tell_judged.new.faults) (judged_text c.args.report.now c.args.line.now) (marking_fault_text c.args.port.now c.args.fault) (c.in_err-tell_judged.ensures.line told))
