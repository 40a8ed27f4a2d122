use Rattle.std.proofs.Common.{sym}
use Rattle.ds_checker.specs.Acceptance.{table_of}
use Rattle.ds_checker.proofs.CheckLaws.{table_found}
use Rattle.ds_checker.proofs.SurveyLaws.{headrooms_found}
use Rattle.ds_checker.proofs.survey.survey_of.Goals as goal

pub returns-clause-headrooms : goal.returns-clause-headrooms
returns-clause-headrooms c =
    headrooms_found (table_of c.args.candidate.now) c.as_slice-3.result.now c.in_ok-sums.sums.items c.in_ok-headrooms.headrooms.items c.as_slice-3.ensures.value
    c.in_ok-sums.ensures.sums c.in_ok-headrooms.ensures

pub returns-clause-refusal : goal.returns-clause-refusal
returns-clause-refusal c =
    sym (table_found (table_of c.args.candidate.now) c.table_refusal-refusal.result c.as_slice-2.result.now c.in_ok-sums.sums.items c.in-Ok.ensures.unrefused c.as_slice-2.ensures.value
    c.in_ok-sums.ensures.sums c.table_refusal-refusal.ensures)
