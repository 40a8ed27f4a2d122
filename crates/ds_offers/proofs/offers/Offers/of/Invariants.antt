use Rattle.std.proofs.Common.{◌≡◌}
use Rattle.ds_offers.proofs.offers.Offers.of.Given as goal

-- the contracts so far are offered
abbrev pub invariant-loop-contract : goal.invariant-loop-contract
invariant-loop-contract l = l.offers ≡ l.yielded
