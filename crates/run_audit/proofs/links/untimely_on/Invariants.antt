use Rattle.std.proofs.Common.{◌≡◌}
use Rattle.std.specs.Iterator.Adapters.{zip_first, zip_second}
use Rattle.std.specs.Slice.Iter.{iter_rest}
use Rattle.run_audit.specs.Hops.{untimely_on}
use Rattle.run_audit.proofs.links.untimely_on.Given as goal

-- what is left is as the whole
abbrev pub invariant-loop-leg : goal.invariant-loop-leg
invariant-loop-leg l =
    untimely_on (iter_rest (zip_first l.leg-iterator)) l.moment (iter_rest (zip_second l.leg-iterator)) ≡ untimely_on l.legs l.sent.moment l.sent.receipts
