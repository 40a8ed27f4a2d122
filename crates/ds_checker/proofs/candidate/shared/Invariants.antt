use Rattle.std.proofs.Common.{◌≡◌, ◌++◌, drop}
use Rattle.ds_checker.proofs.candidate.shared.Given as goal

-- those that are copied, and those that are left
abbrev pub invariant-loop-route : goal.invariant-loop-route
invariant-loop-route l = l.shared.items ++ drop l.route-index l.routes ≡ l.routes
