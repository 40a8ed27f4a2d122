use Rattle.std.proofs.Common.{◌≡◌, ◌-◌, ◌≤◌, drop, length}
use Rattle.pcap_capture.specs.Grammar.{prepend, records}
use Rattle.pcap_capture.specs.Pieces.{AreCut, frames_between}
use Rattle.pcap_capture.proofs.record.read_records.Given as goal

-- the frames so far, and the records of what is left of the text, are those that were there and those behind them
abbrev pub invariant-loop-size : goal.invariant-loop-size
invariant-loop-size l = record {
  at : l.start ≡ l.end;
  within : l.start ≤ length l.text;
  cut : AreCut l.text 0 l.entries.items l.end;
  same : prepend (frames_between l.text 0 l.entries.items) (records l.heading (drop l.end l.text))
      ≡ prepend (frames_between l.text 0 l.fn.entries.items) (records l.heading (drop l.fn.end l.text));
}

abbrev pub decreases-loop-size : goal.decreases-loop-size
decreases-loop-size l = length l.text - l.start
