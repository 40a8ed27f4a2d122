use Rattle.std.proofs.Common.{◌≡◌, ◌+◌, ◌≤◌, ◌++◌, List, ℕ, Some, length}
use Rattle.pcap_capture.specs.Frames.{FrameValue}
use Rattle.capture_reader.specs.declared.opening.Opening.{Opening}
use Rattle.ds_conductor.specs.Lanings.{AreRight, count_of, frames_of, joined}
use Rattle.capture_reader.specs.Readings.{IsUnderway}
use Rattle.ds_conductor.proofs.feeding.feed.Given as goal

-- lots were read and put, and texts of them are written
abbrev pub invariant-loop : goal.invariant-loop
invariant-loop g l = record {
  next : (goal.iterator-loop g).can_next l.iterator';
  finite : (goal.iterator-loop g).is_finite l.iterator';
  to : l.between.to.lane ≡ l.fn.between.to.lane;
  from : l.between.from.lane ≡ l.fn.between.from.lane;
  missing : l.progress.missing ≤ l.fn.progress.missing;
  pieces : l.pieces ≤ 4;
  calls : g.I.Intake.calls l.intake ≤ g.I.Intake.calls l.fn.intake;
  even : length l.between.from.taken + l.way ≡ count_of l.between.to.put;
  most : l.way ≤ 8;
  right : AreRight l.shift.port.now l.between.to.put;
  read : (gone : List FrameValue) (bytes : List ℕ) → g.I.Intake.tells l.fn.intake → IsUnderway gone bytes (g.I.Intake.left l.fn.intake) l.fn.progress
      → IsUnderway (gone ++ frames_of l.between.to.put) bytes (g.I.Intake.left l.intake) l.progress;
  stays : (opening : Opening) (gone : List FrameValue) (bytes : List ℕ) → g.I.Intake.tells l.fn.intake → IsUnderway gone bytes (g.I.Intake.left l.fn.intake) l.fn.progress
      → l.fn.progress.opening ≡ Some opening → l.progress.opening ≡ Some opening;
  given : g.I.Intake.tells l.fn.intake → g.I.Intake.tells l.intake;
  told : g.O.Outlet.tells l.fn.outlet → g.O.Outlet.tells l.outlet;
  written : g.O.Outlet.tells l.fn.outlet → g.O.Outlet.held l.outlet ≡ g.O.Outlet.held l.fn.outlet ++ joined l.between.from.taken;
  unfailed : g.I.Intake.failed l.intake ≡ g.I.Intake.failed l.fn.intake;
  failures : g.O.Outlet.failed l.outlet ≡ g.O.Outlet.failed l.fn.outlet;
}
