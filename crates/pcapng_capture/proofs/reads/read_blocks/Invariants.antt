use Rattle.std.proofs.Common.{◌≡◌, ◌-◌, ◌≤◌, drop, length}
use Rattle.pcapng_capture.specs.Grammar.{blocks, prepend}
use Rattle.pcap_capture.specs.Pieces.{AreCut, frames_between}
use Rattle.pcapng_capture.proofs.reads.read_blocks.Given as goal

-- the blocks so far, and those of what is left of the text, are those that were there and those behind them
abbrev pub invariant-loop-left : goal.invariant-loop-left
invariant-loop-left l = record {
  at : l.start ≡ l.end;
  within : l.start ≤ length l.text;
  cut : AreCut l.text 0 l.entries.items l.end;
  same : prepend (frames_between l.text 0 l.entries.items) (blocks l.section (drop l.end l.text))
      ≡ prepend (frames_between l.text 0 l.fn.entries.items) (blocks l.fn.section (drop l.fn.end l.text));
}

abbrev pub decreases-loop-left : goal.decreases-loop-left
decreases-loop-left l = length l.text - l.start
