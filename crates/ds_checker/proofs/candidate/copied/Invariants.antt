use Rattle.std.proofs.Common.{◌≡◌, ◌++◌, drop}
use Rattle.ds_checker.proofs.candidate.copied.Given as goal

-- those that are copied, and those that are left
abbrev pub invariant-loop-contract : goal.invariant-loop-contract
invariant-loop-contract l = l.copied.items ++ drop l.contract-index l.contracts ≡ l.contracts
