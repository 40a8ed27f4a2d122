use Rattle.std.proofs.Common.{◌≡◌, ◌++◌, drop}
use Rattle.ds_certificate.proofs.certificate.Certificate.copy.Given as goal

-- those that are copied, and those that are left
abbrev pub invariant-loop-row : goal.invariant-loop-row
invariant-loop-row l = l.bounds.items ++ drop l.row-index l.row-items ≡ l.self
