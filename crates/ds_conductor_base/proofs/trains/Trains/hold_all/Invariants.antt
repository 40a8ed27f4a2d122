use Rattle.std.proofs.Common.{◌≤◌, ◌+◌, ◌++◌, length, take, IsPermutation}
use Rattle.ds_conductor_base.proofs.trains.Trains.hold_all.Given as goal

-- there is room for the visits that are left, and the others are there
abbrev pub invariant-loop-visit : goal.invariant-loop-visit
invariant-loop-visit l = record {
  room : length l.visits ≤ l.self.room + l.visit-index;
  same : IsPermutation (l.fn.self.rows ++ take l.visit-index l.visits) l.self.rows;
}
