use Rattle.std.proofs.Common.{◌≡◌, ◌+◌, ◌≤◌, ◌++◌, List, ℕ, drop, take, true}
use Rattle.pcap_capture.specs.Frames.{FrameValue}
use Rattle.ds_conditioner.specs.Conditionings.{IsBounded, IsConditioned}
use Rattle.ds_conditioner.proofs.conditioner.Conditioner.see_all.Given as goal

-- the frames so far are seen
abbrev pub invariant-loop : goal.invariant-loop
invariant-loop l = record {
  bounded : IsBounded l.self;
  ahead : l.self.held.ahead ≡ drop l.counter l.fn.piece;
  records : l.self.counts.records ≤ l.fn.self.counts.records + l.counter;
  seen : (before : List FrameValue) (text : List ℕ) → IsConditioned l.port true before text l.fn.self
      → IsConditioned l.port true (before ++ take l.counter l.fn.piece) text l.self;
}
