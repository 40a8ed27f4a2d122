use Rattle.std.proofs.Common.{◌≡◌, ◌+◌, drop, nat_le}
use Rattle.std.specs.List.{prefix_len}
use Rattle.run_audit.proofs.sources.own_end.Given as goal

-- what is left is as the whole
abbrev pub invariant-loop-index : goal.invariant-loop-index
invariant-loop-index l =
    l.index + prefix_len (λ trail. nat_le trail.now.flow l.flow) (drop l.index l.trails)
    ≡ l.begin + prefix_len (λ trail. nat_le trail.now.flow l.flow) (drop l.begin l.trails)
