use Rattle.std.proofs.Common.{◌≡◌, take}
use Rattle.dsedge_faults.specs.Faults.{shown}
use Rattle.dsedge_faults.proofs.shown.is_plain.Given as goal

-- the bytes up to here are shown as they are
abbrev pub invariant-loop-byte : goal.invariant-loop-byte
invariant-loop-byte l = shown (take l.byte-index l.bytes) ≡ take l.byte-index l.bytes
