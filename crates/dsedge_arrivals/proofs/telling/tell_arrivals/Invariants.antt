use Rattle.std.proofs.Common.{◌≡◌, ◌≤◌}
use Rattle.capture_reader.specs.declared.opening.Opening.{Opening}
use Rattle.dsedge_arrivals.specs.Tellings.{IsIdle}
use Rattle.dsedge_arrivals.proofs.ArrivalLaws.{IsToldSince}
use Rattle.dsedge_arrivals.proofs.telling.tell_arrivals.Given as goal

-- what was read is told, and no call failed
abbrev pub invariant-loop-fault : goal.invariant-loop-fault
invariant-loop-fault g l = record {
  idle : IsIdle l.lines;
  missing : l.progress.missing ≤ 24;
  told : g.I.Intake.tells l.fn.intake → g.I.Intake.tells l.intake;
  still : g.O.Outlet.tells l.fn.output → g.O.Outlet.tells l.output;
  unfailed : g.I.Intake.failed l.intake ≡ g.I.Intake.failed l.fn.intake;
  unbroken : g.O.Outlet.failed l.output ≡ g.O.Outlet.failed l.fn.output;
  since : g.I.Intake.tells l.fn.intake → g.O.Outlet.tells l.fn.output
      → (opening : Opening) × IsToldSince l.filter opening (g.I.Intake.left l.fn.intake) (g.I.Intake.left l.intake) l.progress l.lines.newest
      (g.O.Outlet.held l.fn.output) (g.O.Outlet.held l.output);
}

abbrev pub decreases-loop-fault : goal.decreases-loop-fault
decreases-loop-fault g l = g.I.Intake.calls l.intake
