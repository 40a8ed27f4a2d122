use Rattle.std.proofs.Common.{◌≡◌, ◌++◌, Bool, List, ℕ, length}
use Rattle.pcap_capture.specs.Frames.{FrameValue}
use Rattle.capture_reader.specs.Formats.{bytes_before}
use Rattle.ds_conditioner.specs.Conditionings.{IsBounded, IsConditioned}
use Rattle.ds_marking.specs.Writings.{IsWrittenTo}
use Rattle.ds_marking.proofs.writing.write_decided.Given as goal

-- what was handed out is written or collected
abbrev pub invariant-loop : goal.invariant-loop
invariant-loop g l = record {
  bounded : IsBounded l.conditioner;
  records : l.conditioner.counts.records ≡ l.initial.conditioner.counts.records;
  waiting : l.conditioner.under_way.waiting ≡ l.initial.conditioner.under_way.waiting;
  told : g.O.Outlet.tells l.initial.outlet → g.O.Outlet.tells l.outlet;
  failures : g.O.Outlet.failed l.outlet ≡ g.O.Outlet.failed l.initial.outlet;
  bytes : g.O.Outlet.tells l.initial.outlet → (more : Bool) (frames : List FrameValue) (text before : List ℕ)
      → IsConditioned l.port more frames text l.initial.conditioner → IsWrittenTo l.initial.out.items before (bytes_before l.port.opening ++ text) (g.O.Outlet.held l.initial.outlet)
      → (after : List ℕ) × IsConditioned l.port more frames after l.conditioner
      × IsWrittenTo l.out.items before (bytes_before l.port.opening ++ after) (g.O.Outlet.held l.outlet);
}

abbrev pub decreases-loop : goal.decreases-loop
decreases-loop g l = length l.conditioner.held.held
