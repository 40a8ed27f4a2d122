use Rattle.std.proofs.Common.{◌≡◌, ◌≤◌, ◌*◌, ◌^◌, take, sum_by, slice_index}
use Rattle.meter_fabric.proofs.columns.visits_of.Given as goal

-- those of the passes so far
abbrev pub invariant-loop-pass : goal.invariant-loop-pass
invariant-loop-pass g l = record {
  value : l.sum ≡ sum_by (λ counts. slice_index counts l.site) (take l.pass-index l.passes);
  range : l.sum ≤ l.pass-index * 2 ^ 64;
}
