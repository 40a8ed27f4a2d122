use Rattle.std.proofs.Common.{◌≡◌, ◌≤◌, ◌*◌, map, drop}
use Rattle.run_audit.specs.Assembled.{passage_of}
use Rattle.run_audit.specs.Spills.{spilled}
use Rattle.run_audit.proofs.sources.spilled.Given as goal

-- what is left is as the whole, and the bucket has not overflowed
abbrev pub invariant-loop-trail : goal.invariant-loop-trail
invariant-loop-trail l =
    (spilled l.envelope l.column l.contract l.level l.since (map (λ trail. passage_of trail.now) (drop l.trail-index l.trails))
    ≡ spilled l.envelope l.column l.contract 0 0 (map (λ trail. passage_of trail.now) l.trails))
    × (l.level ≤ 8000000000 * l.envelope.burst)
