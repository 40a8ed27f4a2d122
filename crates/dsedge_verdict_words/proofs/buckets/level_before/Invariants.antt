use Rattle.std.proofs.Common.{◌*◌, ◌≤◌}
use Rattle.dsedge_verdict_words.proofs.buckets.level_before.Given as goal

-- the bucket has not overflowed
abbrev pub invariant-loop-trail : goal.invariant-loop-trail
invariant-loop-trail l = l.level ≤ 8000000000 * l.envelope.burst
