use Rattle.std.proofs.Common.{◌≡◌, ◌++◌, take}
use Rattle.dsedge_arrivals.specs.Arrivals.{lines_from, newest_in}
use Rattle.dsedge_arrivals.proofs.filter.ArrivalFilter.push_piece.Given as goal

-- the lines of the frames so far stand there
abbrev pub invariant-loop-place : goal.invariant-loop-place
invariant-loop-place l = record {
  now : l.now ≡ newest_in l.fn.newest (take l.place l.piece);
  lines : l.out.items ≡ l.fn.out.items ++ lines_from l.self l.fn.newest (take l.place l.piece);
}
