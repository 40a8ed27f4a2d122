use Rattle.std.proofs.Common.{[]}
use Rattle.line_text.specs.Lines.{lines_of}
use Rattle.dsedge_drive.specs.Driven.{drive_from}
use Rattle.dsedge_drive.proofs.AgainLaws.{stands_first, written_again}
use Rattle.dsedge_selling.proofs.SaleLemmas.{concluded_faults, concluded_served}
use Rattle.dsedge_selling.proofs.selling.sell_by.Goals as goal

pub returns-clause-served : goal.returns-clause-served
returns-clause-served g c tells told =
    let answer = drive_from c.args.command.in_json c.args.command.offered c.args.command.book 1 (lines_of (g.I.Intake.left c.args.intake.now)) in
    let written = c.pump_saying-answered.ensures.written tells told in
    rw c.concluded.ensures
    (concluded_served answer c.args.command.unsaid c.pump_saying-answered.result c.fault-fault.result (g.O.Outlet.held c.args.output.now)
    (g.O.Outlet.held c.pump_saying-answered.new.outlet) c.requires.said written.whole_text written.front)

pub returns-clause-writes : goal.returns-clause-writes
returns-clause-writes g c =
    rw (c.concluded.ensures, (concluded_faults c.pump_saying-answered.result c.fault-fault.result).0) c.pump_saying-answered.ensures.write

pub returns-clause-reads : goal.returns-clause-reads
returns-clause-reads g c =
    rw (c.concluded.ensures, (concluded_faults c.pump_saying-answered.result c.fault-fault.result).1) c.pump_saying-answered.ensures.reads

pub returns-clause-again : goal.returns-clause-again
returns-clause-again g c tells told honest found left =
    let lines = lines_of (g.I.Intake.left c.args.intake.now) in
    written_again c.args.command c.pump_saying-answered.new.command lines found (g.O.Outlet.held c.args.output.now) (g.O.Outlet.held c.pump_saying-answered.new.outlet)
    (c.into_ledger.ensures honest found left)
    (c.pump_saying-answered.ensures.stands tells told c.args.command lines [] (stands_first c.args.command lines c.requires))
