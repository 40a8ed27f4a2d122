use Rattle.std.proofs.Common.{◌≡◌, ◌++◌, flat_map, take}
use Rattle.dsedge_faults.proofs.parts.give_parts.Given as goal

-- the parts up to here are given
abbrev pub invariant-loop-part : goal.invariant-loop-part
invariant-loop-part g l = record {
  told : g.O.Outlet.tells l.initial.outlet → g.O.Outlet.tells l.outlet;
  bytes : g.O.Outlet.tells l.initial.outlet → g.O.Outlet.held l.outlet ≡ g.O.Outlet.held l.initial.outlet ++ flat_map (λ part. part.now) (take l.part-index l.parts);
  failures : g.O.Outlet.failed l.outlet ≡ g.O.Outlet.failed l.initial.outlet;
}
