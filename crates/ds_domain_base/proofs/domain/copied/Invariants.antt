use Rattle.std.proofs.Common.{◌≡◌, ◌++◌}
use Rattle.ds_domain_base.proofs.domain.copied.Given as goal

-- what is copied, and then what is left, is all
abbrev pub invariant-loop-key : goal.invariant-loop-key
invariant-loop-key g l = l.copy.entries ++ l.key-iterator ≡ l.map.entries
