use Rattle.std.proofs.Common.{◌≡◌, ◌≤◌, ◌*◌, ◌^◌, length, take, sum_by}
use Rattle.run_audit.proofs.assembling.receipts_of.Given as goal

-- those of the trails so far
abbrev pub invariant-loop-trail : goal.invariant-loop-trail
invariant-loop-trail l = record {
  value : l.sum ≡ sum_by (λ trail. length trail.receipts.items) (take l.trail-index l.trails);
  range : l.sum ≤ l.trail-index * 2 ^ 64;
}
