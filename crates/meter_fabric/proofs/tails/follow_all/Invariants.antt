use Rattle.std.proofs.Common.{take}
use Rattle.meter_fabric.specs.Tails.{AreTails}
use Rattle.meter_fabric.proofs.tails.follow_all.Given as goal

-- how far the chapters so far join
abbrev pub invariant-loop-index : goal.invariant-loop-index
invariant-loop-index l = AreTails l.chapters (take l.index l.chapters) l.tails
