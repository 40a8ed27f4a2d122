use Rattle.std.proofs.Common.{◌≡◌, ◌↔◌}
use Rattle.ds_domain_writing.proofs.same.has_same_entries.Given as goal

-- the maps are the same exactly where what is left of them is
abbrev pub invariant-loop-key : goal.invariant-loop-key
invariant-loop-key g l = (l.map.entries ≡ l.other.entries) ↔ (l.key-iterator ≡ l.left)
