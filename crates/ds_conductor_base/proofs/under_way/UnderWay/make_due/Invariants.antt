use Rattle.std.proofs.Common.{◌≡◌, length}
use Rattle.ds_conductor_base.specs.KeptStreams.{IsUnderWay, stream_of}
use Rattle.ds_conductor_base.specs.Streams.{made_due}
use Rattle.ds_conductor_base.proofs.under_way.UnderWay.make_due.Given as goal

-- what comes of making what is left is what comes of making all
abbrev pub invariant-loop-visit : goal.invariant-loop-visit
invariant-loop-visit g l = record {
  kept : IsUnderWay l.self-inside;
  made : made_due l.fn.moment (stream_of l.self-inside) ≡ made_due l.fn.moment l.fn.self;
}

abbrev pub decreases-loop-visit : goal.decreases-loop-visit
decreases-loop-visit g l = length l.self-inside.waiting
