use Rattle.std.proofs.Common.{◌≡◌, ◌+◌, ◌≤◌, ◌++◌, List, ℕ, drop, take, true}
use Rattle.pcap_capture.specs.Frames.{FrameValue}
use Rattle.ds_conditioner.specs.Conditionings.{AreSeenOf, IsBounded, IsConditioned}
use Rattle.ds_conditioner.proofs.conditioner.Conditioner.take_all.Given as goal

-- the frames so far are seen
abbrev pub invariant-loop-place : goal.invariant-loop-place
invariant-loop-place l = record {
  bounded : IsBounded l.self;
  ahead : l.self.held.ahead ≡ drop l.place l.fn.piece;
  records : l.self.counts.records ≤ l.fn.self.counts.records + l.place;
  seen : AreSeenOf l.port l.fn.piece l.seen → (before : List FrameValue) (text : List ℕ) → IsConditioned l.port true before text l.fn.self
      → IsConditioned l.port true (before ++ take l.place l.fn.piece) text l.self;
}
