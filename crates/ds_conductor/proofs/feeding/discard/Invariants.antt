use Rattle.std.proofs.Common.{◌≡◌, ◌+◌, ◌++◌, List, ℕ, length}
use Rattle.ds_conductor.proofs.feeding.discard.Given as goal

-- texts were taken
abbrev pub invariant-loop-left : goal.invariant-loop-left
invariant-loop-left g l = record {
  lane : l.taking.lane ≡ l.fn.taking.lane;
  more : (texts : List (List ℕ)) × (l.taking.taken ≡ l.fn.taking.taken ++ texts) × (length texts + l.left ≡ l.fn.way);
}

abbrev pub decreases-loop-left : goal.decreases-loop-left
decreases-loop-left g l = l.left
