use Rattle.std.proofs.Common.{◌≡◌, replicate, vec_len, All}
use Rattle.meter_fabric.proofs.making.counts_of.Given as goal

-- those of the passes so far
abbrev pub invariant-loop-pass : goal.invariant-loop-pass
invariant-loop-pass l = record {
  count : vec_len l.all ≡ l._pass;
  none : All (λ counts. counts.items ≡ replicate l.sites 0) l.all.items;
}
