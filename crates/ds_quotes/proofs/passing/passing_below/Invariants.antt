use Rattle.std.proofs.Common.{◌≡◌, ℕ, ◌-◌, ◌<◌, ◌≤◌, true, false}
use Rattle.ds_quotes.proofs.passing.passing_below.Given as goal

abbrev pub invariant-loop-passed : goal.invariant-loop-passed
invariant-loop-passed g l = record {
  order : l.passed ≤ l.failed;
  within : l.failed ≤ l.limit;
  below : (value : ℕ) → value < l.passed → g.T.Trial.outcome l.trial value ≡ true;
  above : (value : ℕ) → l.failed ≤ value → value < l.limit → g.T.Trial.outcome l.trial value ≡ false;
}

abbrev pub decreases-loop-passed : goal.decreases-loop-passed
decreases-loop-passed g l = l.failed - l.passed
