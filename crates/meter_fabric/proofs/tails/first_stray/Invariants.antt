use Rattle.std.proofs.Common.{take}
use Rattle.meter_fabric.specs.Tails.{IsLeastStray}
use Rattle.meter_fabric.proofs.tails.first_stray.Given as goal

-- the least among those so far
abbrev pub invariant-loop-index : goal.invariant-loop-index
invariant-loop-index l = IsLeastStray (take l.index l.chapters) l.sites l.least
