use Rattle.std.proofs.Common.{◌≡◌, ◌-◌, ◌≤◌, ◌++◌, length, take}
use Rattle.pcap_capture.proofs.pieces.give_all.Given as goal

-- a front of the text is given
abbrev pub invariant-loop-given : goal.invariant-loop-given
invariant-loop-given g l = record {
  within : l.given ≤ length l.text;
  told : g.O.Outlet.tells l.initial.outlet → g.O.Outlet.tells l.outlet;
  bytes : g.O.Outlet.tells l.initial.outlet → g.O.Outlet.held l.outlet ≡ g.O.Outlet.held l.initial.outlet ++ take l.given l.text;
  failures : g.O.Outlet.failed l.outlet ≡ g.O.Outlet.failed l.initial.outlet;
}

abbrev pub decreases-loop-given : goal.decreases-loop-given
decreases-loop-given g l = length l.text - l.given
