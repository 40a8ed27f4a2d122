use Rattle.std.proofs.Common.{◌≡◌, ◌++◌, take}
use Rattle.dsedge_faults.specs.Faults.{shown}
use Rattle.dsedge_faults.proofs.shown.give_each_shown.Given as goal

-- the bytes up to here are given
abbrev pub invariant-loop-byte : goal.invariant-loop-byte
invariant-loop-byte g l = record {
  told : g.F.Outlet.tells l.initial.faults → g.F.Outlet.tells l.faults;
  bytes : g.F.Outlet.tells l.initial.faults → g.F.Outlet.held l.faults ≡ g.F.Outlet.held l.initial.faults ++ shown (take l.byte-index l.bytes);
  failures : g.F.Outlet.failed l.faults ≡ g.F.Outlet.failed l.initial.faults;
}
