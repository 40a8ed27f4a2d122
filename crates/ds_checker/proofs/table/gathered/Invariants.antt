use Rattle.std.proofs.Common.{drop, take}
use Rattle.std.specs.List.{AllZip}
use Rattle.ds_certificate.specs.Bounds.{HasShape}
use Rattle.ds_checker.specs.Sums.{IsKept}
use Rattle.ds_checker.proofs.ChangeLaws.{table}
use Rattle.ds_checker.proofs.table.gathered.Given as goal

-- what is added so far is what the contracts so far bring
abbrev pub invariant-loop-number : goal.invariant-loop-number
invariant-loop-number l = record {
  kept : IsKept (table l.candidate.domain (take l.number l.contracts) (take l.number l.rows)) l.sums.items;
  shaped : AllZip (HasShape l.candidate.domain) (drop l.number l.contracts) (drop l.number l.rows);
}
