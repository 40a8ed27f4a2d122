use Rattle.std.proofs.Common.{◌≡◌, List, ℕ, false, length}
use Rattle.pcap_capture.specs.Frames.{FrameValue}
use Rattle.ds_conditioner.specs.Conditionings.{IsBounded, IsConditioned}
use Rattle.ds_conditioner.proofs.conditioner.Conditioner.report.Given as goal

-- frames are handed out, and nothing else changes
abbrev pub invariant-loop : goal.invariant-loop
invariant-loop l = record {
  bounded : IsBounded l.self;
  none_left : l.self.under_way.waiting ≡ l.initial.self.under_way.waiting;
  handed : (frames : List FrameValue) (text : List ℕ) → IsConditioned l.port false frames text l.initial.self
      → (after : List ℕ) × IsConditioned l.port false frames after l.self;
}

abbrev pub decreases-loop : goal.decreases-loop
decreases-loop l = length l.self.held.held
