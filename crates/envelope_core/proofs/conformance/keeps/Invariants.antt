use Rattle.std.proofs.Common.{◌≡◌, ℕ, ◌<◌, ◌≤◌, length, take, get_or}
use Rattle.moment_core.specs.Conformance.{Keeps}
use Rattle.envelope_core.proofs.LinearPass.{IsBacklog}
use Rattle.envelope_core.proofs.conformance.keeps.Given as goal

abbrev pub invariant-loop-index : goal.invariant-loop-index
invariant-loop-index l = record {
  curve : l.bucket.curve ≡ l.fn.envelope;
  backlog : IsBacklog l.fn.envelope.rate l.bucket.level l.bucket.since (take l.index l.items);
  kept : Keeps l.fn.envelope.rate l.fn.envelope.burst (take l.index l.items);
  next : (d : ℕ × ℕ) → l.index < length l.items → l.bucket.since ≤ (get_or l.items l.index d).0;
}
