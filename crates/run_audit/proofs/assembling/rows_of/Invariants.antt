use Rattle.std.proofs.Common.{◌≡◌, ◌≤◌, ◌*◌, ◌^◌, length, take, sum_by}
use Rattle.run_audit.proofs.assembling.rows_of.Given as goal

-- those of the journals so far
abbrev pub invariant-loop-journal : goal.invariant-loop-journal
invariant-loop-journal l = record {
  value : l.sum ≡ sum_by (λ j. length j.arrivals) (take l.journal-index l.journals);
  range : l.sum ≤ l.journal-index * 2 ^ 64;
}
