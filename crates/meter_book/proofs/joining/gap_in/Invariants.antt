use Rattle.std.proofs.Common.{ℕ, ◌<◌, ◌≤◌}
use Rattle.meter_book.specs.Chapters.{Follows}
use Rattle.meter_book.proofs.joining.gap_in.Given as goal

-- the chapters so far go on from one another
abbrev pub invariant-loop-index : goal.invariant-loop-index
invariant-loop-index l = (1 ≤ l.index) × ((i : ℕ) → i < l.index → Follows l.chapters i)
