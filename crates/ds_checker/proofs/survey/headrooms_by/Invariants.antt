use Rattle.std.proofs.Common.{◌≡◌, ◌++◌}
use Rattle.std.specs.Iterator.Adapters.{zip_first, zip_second}
use Rattle.std.specs.Slice.Iter.{iter_rest}
use Rattle.ds_checker.specs.Surveys.{headrooms_by}
use Rattle.ds_checker.proofs.survey.headrooms_by.Given as goal

-- those so far, and those of the meters and sums that are left
abbrev pub invariant-loop-meter : goal.invariant-loop-meter
invariant-loop-meter l =
    l.headrooms.items ++ headrooms_by (zip_first l.meter-iterator) (iter_rest (zip_second l.meter-iterator))
    ≡ headrooms_by l.domain.meters l.sums
