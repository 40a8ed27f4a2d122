use Rattle.std.proofs.Common.{take}
use Rattle.frame_marker.proofs.ClassifierLaws.{AreTaken}
use Rattle.frame_marker.proofs.classifier.rules_of.Given as goal

-- the contracts so far are taken
abbrev pub invariant-loop-place : goal.invariant-loop-place
invariant-loop-place l = AreTaken l.port l.rules.items (take l.place l.heeded)
