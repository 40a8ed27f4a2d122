use Rattle.std.proofs.Common.{map, take}
use Rattle.run_audit.specs.Bases.{basis_of}
use Rattle.run_audit.specs.Assembling.{AreSound, Knows}
use Rattle.run_audit.proofs.SoundLaws.{front_of}
use Rattle.run_audit.proofs.assembling.judge_trails.Given as goal

-- the trails so far are sound, and their numbers are known
abbrev pub invariant-loop-place : goal.invariant-loop-place
invariant-loop-place l = record {
  numbers : Knows l.numbers.set (map (λ trail. trail.packet) (take l.place l.trails));
  sound : AreSound (basis_of l.basis) l.journals (front_of l.trails l.place);
}
