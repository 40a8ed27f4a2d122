use Rattle.std.proofs.Common.{◌≡◌, [], ap, ◌∙◌}
use Rattle.ds_runs.specs.Judging.{Judging, verdict_with}
use Rattle.ds_runs.specs.Kept.{judging_of}
use Rattle.ds_runs.proofs.JudgeLaws.{told_late, told_outside, told_over}
use Rattle.ds_runs.proofs.judge.Judge.verdict.Goals as goal

pub returns-in-Some : goal.returns-in-Some
returns-in-Some c = told_outside (judging_of c.self.inside) c.in-Some.packet c.in-Some.is ∙ ap (λ (j : Judging). verdict_with j []) c.self.view_is

pub returns-in-Some-first_over : goal.returns-in-Some-first_over
returns-in-Some-first_over c =
    told_over (judging_of c.self.inside) c.in-Some-first_over.over c.first_over.result c.as_slice.result.now c.in_default.not-Some c.as_slice.ensures.value
    c.first_over.ensures c.in-Some-first_over.is
    ∙ ap (λ (j : Judging). verdict_with j []) c.self.view_is

pub returns : goal.returns
returns c =
    told_late (judging_of c.self.inside) c.unwrap_or.result c.first_over.result c.first_late.result c.as_slice.result.now c.as_slice-2.result.now c.in_default.not-Some
    c.as_slice.ensures.value c.as_slice-2.ensures.value c.first_over.ensures c.in_default-first_over.not-Some c.first_late.ensures c.unwrap_or.ensures
    ∙ ap (λ (j : Judging). verdict_with j []) c.self.view_is
