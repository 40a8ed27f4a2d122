use Rattle.std.proofs.Common.{◌≡◌, ◌↔◌, drop}
use Rattle.std.specs.Slice.Iter.{iter_rest}
use Rattle.ds_domain_writing.proofs.same.are_same.Given as goal

-- the slices are the same exactly where what is left of them is
abbrev pub invariant-loop-item : goal.invariant-loop-item
invariant-loop-item g l = (l.items ≡ l.others) ↔ (drop l.item-index l.items ≡ iter_rest l.left)
