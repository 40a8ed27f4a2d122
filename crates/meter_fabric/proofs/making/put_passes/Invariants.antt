use Rattle.std.proofs.Common.{◌≡◌, ◌+◌, length, replicate, vec_capacity, ◌≤◌}
use Rattle.meter_fabric.specs.Fabrics.{sites_of}
use Rattle.meter_fabric.proofs.making.put_passes.Given as goal

-- each pass so far has a part
abbrev pub invariant-loop-own : goal.invariant-loop-own
invariant-loop-own g l = record {
  parts : l.over.parts + length l.yielded ≡ l.initial.over.parts;
  none : l.over.amount ≡ 0;
  passes : l.passes.items ≡ replicate (length l.yielded) (replicate (sites_of g.L.FabricLedger.fabric) 0);
  room : vec_capacity l.initial.passes ≤ vec_capacity l.passes;
}
