use Rattle.std.proofs.Common.{◌≡◌, take}
use Rattle.ds_ledger.proofs.reading.copied.Given as goal

-- the cells so far
abbrev pub invariant-loop-at : goal.invariant-loop-at
invariant-loop-at l = l.row ≡ take l.at l.shown
