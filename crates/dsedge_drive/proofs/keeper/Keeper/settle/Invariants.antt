use Rattle.std.proofs.Common.{length, ◌-◌, ◌≡◌, ◌<◌, ◌≤◌}
use Rattle.dsedge_drive.specs.Kept.{IsKept}
use Rattle.dsedge_drive.proofs.keeper.Keeper.settle.Given as goal

-- it keeps a beginning, no less than it did, no fault came, and where it keeps more it was located since
abbrev pub invariant-loop-self : goal.invariant-loop-self
invariant-loop-self g l =
    IsKept g.L.Ledger l.self.ledger l.self.kept l.history × (l.self.fault ≡ l.initial.self.fault) × (l.initial.self.kept ≤ l.self.kept)
    × (l.initial.self.kept < l.self.kept → g.L.Ledger.located l.self.ledger)

abbrev pub decreases-loop-self : goal.decreases-loop-self
decreases-loop-self g l = length l.history - l.self.kept
