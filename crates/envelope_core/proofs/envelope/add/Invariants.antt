use Rattle.std.proofs.Common.{◌≡◌, take}
use Rattle.envelope_core.specs.Curve.{IsInRange, total}
use Rattle.envelope_core.proofs.envelope.add.Given as goal

abbrev pub invariant-loop-envelope : goal.invariant-loop-envelope
invariant-loop-envelope l = record { sum : l.sum ≡ total (take l.envelope-index l.envelopes); in_range : IsInRange l.sum }
