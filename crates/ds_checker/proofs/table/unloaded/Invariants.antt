use Rattle.std.proofs.Common.{◌≡◌, ◌≤◌, ◌^◌, ◌++◌, map}
use Rattle.std.specs.List.{AllByRecursion}
use Rattle.ds_checker.specs.Sums.{AreBelow, no_loads}
use Rattle.ds_checker.proofs.table.unloaded.Given as goal

-- those of the meters so far, and of those that are left
abbrev pub invariant-loop-meter : goal.invariant-loop-meter
invariant-loop-meter l = record {
  value : l.sums.items ++ map (λ entry. no_loads entry.1.skew) l.meter-iterator ≡ map (λ entry. no_loads entry.1.skew) l.domain.meters;
  short : AllByRecursion (λ entry. entry.1.skew ≤ 10 ^ 10) l.meter-iterator → AllByRecursion (λ entry. entry.1.skew ≤ 10 ^ 10) l.domain.meters;
  range : AllByRecursion (AreBelow 0) l.sums.items;
}
