use Rattle.std.proofs.Common.{◌≡◌, ◌-◌, ◌≤◌, ◌++◌, drop, length}
use Rattle.pcapng_capture.specs.Options.{hashless}
use Rattle.pcapng_capture.proofs.options.add_without_hash.Given as goal

-- the options so far, and those behind them
abbrev pub invariant-loop-whole : goal.invariant-loop-whole
invariant-loop-whole l = record {
  within : l.at ≤ length l.bytes;
  same : l.out.items ++ hashless l.order (drop l.at l.bytes) ≡ l.fn.out.items ++ hashless l.order l.bytes;
}

abbrev pub decreases-loop-whole : goal.decreases-loop-whole
decreases-loop-whole l = length l.bytes - l.at
