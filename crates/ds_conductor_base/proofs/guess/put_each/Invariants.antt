use Rattle.std.proofs.Common.{◌≡◌, ◌≤◌, IsPermutation, length, vec_capacity}
use Rattle.ds_conductor_base.proofs.GuessLaws.{taken_of}
use Rattle.ds_conductor_base.proofs.guess.put_each.Given as goal

-- what was put out are the visits that are taken
abbrev pub invariant-loop-number : goal.invariant-loop-number
invariant-loop-number l = record {
  taken : IsPermutation l.out.items (taken_of l.taken l.visits);
  long : length l.taken ≡ length l.visits;
  kept : vec_capacity l.fn.out ≤ vec_capacity l.out;
}
