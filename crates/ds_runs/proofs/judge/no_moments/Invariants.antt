use Rattle.std.proofs.Common.{◌≡◌, None, replicate}
use Rattle.ds_runs.proofs.judge.no_moments.Given as goal

-- none so far
abbrev pub invariant-loop-site : goal.invariant-loop-site
invariant-loop-site l = l.firsts.items ≡ replicate l.site None
