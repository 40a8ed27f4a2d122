use Rattle.std.proofs.Common.{◌≡◌, List, ℕ}
use Rattle.ds_marking.specs.Passings.{IsPassing, IsReady}
use Rattle.ds_marking.proofs.marking.turn_all.Given as goal

-- more may come
abbrev pub invariant-loop-fault : goal.invariant-loop-fault
invariant-loop-fault g l = record {
  ready : IsReady l.passage;
  port : l.passage.port ≡ l.initial.passage.port;
  given : g.I.Intake.tells l.initial.intake → g.I.Intake.tells l.intake;
  told : g.O.Outlet.tells l.initial.outlet → g.O.Outlet.tells l.outlet;
  failures : g.O.Outlet.failed l.outlet ≡ g.O.Outlet.failed l.initial.outlet;
  unfailed : g.I.Intake.failed l.intake ≡ g.I.Intake.failed l.initial.intake;
  passing : g.I.Intake.tells l.initial.intake → g.O.Outlet.tells l.initial.outlet → (bytes before : List ℕ)
      → IsPassing bytes (g.I.Intake.left l.initial.intake) before (g.O.Outlet.held l.initial.outlet) l.initial.passage
      → IsPassing bytes (g.I.Intake.left l.intake) before (g.O.Outlet.held l.outlet) l.passage;
}

abbrev pub decreases-loop-fault : goal.decreases-loop-fault
decreases-loop-fault g l = g.I.Intake.calls l.intake
