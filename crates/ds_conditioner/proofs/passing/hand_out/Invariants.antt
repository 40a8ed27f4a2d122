use Rattle.std.proofs.Common.{◌≡◌, ◌++◌, Bool, List, ℕ, length}
use Rattle.pcap_capture.specs.Frames.{FrameValue}
use Rattle.ds_conditioner.specs.Conditionings.{IsBounded, IsConditioned, IsUpToDate}
use Rattle.ds_conditioner.proofs.passing.hand_out.Given as goal

-- what was handed out is added
abbrev pub invariant-loop : goal.invariant-loop
invariant-loop l = record {
  bounded : IsBounded l.conditioner;
  records : l.conditioner.counts.records ≡ l.initial.conditioner.counts.records;
  still : IsUpToDate l.initial.conditioner → IsUpToDate l.conditioner;
  handed : (more : Bool) (frames : List FrameValue) (text : List ℕ) → IsConditioned l.port more frames text l.initial.conditioner
      → (own : List ℕ) × (l.handed ≡ l.initial.handed ++ own) × IsConditioned l.port more frames (text ++ own) l.conditioner;
}

abbrev pub decreases-loop : goal.decreases-loop
decreases-loop l = length l.conditioner.held.held
