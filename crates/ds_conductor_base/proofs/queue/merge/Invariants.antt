use Rattle.std.proofs.Common.{◌≤◌, ◌+◌, ◌-◌, ◌++◌, length, drop, IsPermutation, IsSorted, vec_capacity, vec_len}
use Rattle.ds_conductor_base.specs.Waits.{first_on_top}
use Rattle.ds_conductor_base.proofs.RunLaws.{IsBehind}
use Rattle.ds_conductor_base.proofs.queue.merge.Given as goal

-- what was put out is in order, and what is left of both runs comes behind it
abbrev pub invariant-loop-i : goal.invariant-loop-i
invariant-loop-i l = record {
  left_in : l.i ≤ length l.left;
  right_in : l.j ≤ length l.right;
  room : vec_len l.out + (length l.left + length l.right) ≤ vec_capacity l.out + (l.i + l.j);
  same : IsPermutation (l.left ++ l.right) (l.out.items ++ (drop l.i l.left ++ drop l.j l.right));
  sorted : IsSorted first_on_top l.out.items;
  left_behind : IsBehind l.out.items l.left l.i;
  right_behind : IsBehind l.out.items l.right l.j;
}

abbrev pub decreases-loop-i : goal.decreases-loop-i
decreases-loop-i l = length l.left + length l.right - (l.i + l.j)
