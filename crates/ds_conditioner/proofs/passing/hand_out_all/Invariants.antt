use Rattle.std.proofs.Common.{◌≡◌, ◌<◌, ◌≤◌, length}
use Rattle.ds_conditioner.specs.Conditionings.{IsBounded, IsUpToDate}
use Rattle.ds_conditioner.specs.Handings.{AreHandedOut}
use Rattle.ds_conditioner.specs.Stretches.{AreNext}
use Rattle.ds_conditioner.proofs.passing.hand_out_all.Given as goal

-- what was handed out is added, and more comes
abbrev pub invariant-loop-stretch : goal.invariant-loop-stretch
invariant-loop-stretch l = record {
  bounded : IsBounded l.conditioner;
  there : 0 < length l.stretch.coming;
  next : AreNext l.stretch.coming l.conditioner.held.held;
  records : l.conditioner.counts.records ≡ l.initial.conditioner.counts.records;
  still : IsUpToDate l.initial.conditioner → IsUpToDate l.conditioner;
  fewer : length l.conditioner.held.held ≤ length l.initial.conditioner.held.held;
  handed : AreHandedOut l.port l.initial.conditioner l.conditioner l.initial.stretch.text l.stretch.text;
}

abbrev pub decreases-loop-stretch : goal.decreases-loop-stretch
decreases-loop-stretch l = length l.conditioner.held.held
