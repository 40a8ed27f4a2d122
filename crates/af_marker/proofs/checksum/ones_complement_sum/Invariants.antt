use Rattle.std.proofs.Common.{◌≡◌, ◌≤◌, ◌*◌, ◌%◌, ◌+◌, length}
use Rattle.af_marker.proofs.ChecksumLaws.{total_by_two}
use Rattle.af_marker.proofs.checksum.ones_complement_sum.Given as goal

-- what is summed and what is left are the whole, and there is room for what is left
abbrev pub invariant-loop-rest : goal.invariant-loop-rest
invariant-loop-rest l = record {
  counted : l.sum + total_by_two l.rest ≡ total_by_two l.bytes;
  room : l.sum + 1073741824 * length l.rest ≤ 1073741824 * 60;
  even : length l.rest % 2 ≡ 0;
}

abbrev pub decreases-loop-rest : goal.decreases-loop-rest
decreases-loop-rest l = length l.rest
