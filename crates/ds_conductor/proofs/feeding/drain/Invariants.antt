use Rattle.std.proofs.Common.{◌≡◌, ◌+◌, ◌++◌, List, ℕ, length}
use Rattle.ds_conductor.specs.Lanings.{joined}
use Rattle.ds_conductor.proofs.feeding.drain.Given as goal

-- texts were taken and written
abbrev pub invariant-loop-left : goal.invariant-loop-left
invariant-loop-left g l = record {
  lane : l.taking.lane ≡ l.fn.taking.lane;
  told : g.O.Outlet.tells l.fn.outlet → g.O.Outlet.tells l.outlet;
  count : length l.taking.taken + l.left ≡ length l.fn.taking.taken + l.fn.way;
  written : g.O.Outlet.tells l.fn.outlet → (first : List ℕ) → g.O.Outlet.held l.fn.outlet ≡ first ++ joined l.fn.taking.taken
      → g.O.Outlet.held l.outlet ≡ first ++ joined l.taking.taken;
  failures : g.O.Outlet.failed l.outlet ≡ g.O.Outlet.failed l.fn.outlet;
}

abbrev pub decreases-loop-left : goal.decreases-loop-left
decreases-loop-left g l = l.left
