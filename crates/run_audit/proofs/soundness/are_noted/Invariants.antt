use Rattle.std.proofs.Common.{take, All}
use Rattle.run_audit.specs.Assembling.{IsNoted}
use Rattle.run_audit.proofs.soundness.are_noted.Given as goal

-- the receipts so far are noted
abbrev pub invariant-loop-receipt : goal.invariant-loop-receipt
invariant-loop-receipt l = All (IsNoted l.journals) (take l.receipt-index l.trail.receipts.items)
