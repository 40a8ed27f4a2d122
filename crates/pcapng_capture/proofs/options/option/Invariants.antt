use Rattle.std.proofs.Common.{◌≡◌, ◌-◌, ◌≤◌, drop, length}
use Rattle.pcapng_capture.specs.Options.{option_of}
use Rattle.pcapng_capture.proofs.options.option.Given as goal

-- what is looked for is what is looked for behind the options so far
abbrev pub invariant-loop-whole : goal.invariant-loop-whole
invariant-loop-whole l = record {
  within : l.at ≤ length l.bytes;
  same : option_of l.order l.code l.size (drop l.at l.bytes) ≡ option_of l.order l.code l.size l.bytes;
}

abbrev pub decreases-loop-whole : goal.decreases-loop-whole
decreases-loop-whole l = length l.bytes - l.at
