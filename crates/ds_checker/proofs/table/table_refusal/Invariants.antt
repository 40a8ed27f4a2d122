use Rattle.std.proofs.Common.{◌≡◌}
use Rattle.std.specs.Iterator.Adapters.{zip_first, zip_second}
use Rattle.std.specs.Slice.Iter.{iter_rest}
use Rattle.ds_checker.specs.Sums.{sums_tests}
use Rattle.ds_checker.specs.Tests.{first_failed}
use Rattle.ds_checker.proofs.table.table_refusal.Given as goal

-- the first failure is one of the meters and sums that are left
abbrev pub invariant-loop-name : goal.invariant-loop-name
invariant-loop-name l =
    first_failed (sums_tests (zip_first l.name-iterator) (iter_rest (zip_second l.name-iterator)))
    ≡ first_failed (sums_tests l.domain.meters l.sums)
