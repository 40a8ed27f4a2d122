use Rattle.std.proofs.Common.{ap, map, subst, sym, ◌∙◌}
use Rattle.std.specs.Map.{values_of}
use Rattle.run_audit.specs.Runs.{IsRun}
use Rattle.run_audit.specs.Assembled.{passage_of}
use Rattle.run_audit.specs.Bases.{basis_of}
use Rattle.run_audit.specs.Spills.{spilled_from}
use Rattle.run_audit.specs.Verdicts.{source_of_run}
use Rattle.run_audit.proofs.SourceLaws.{source_of-standing}
use Rattle.run_audit.proofs.auditing.over.Goals as goal

pub returns : goal.returns
returns c =
    let g = basis_of c.basis.result in
    let run = c.args.run.now.run in
    let is_run = subst (λ g. IsRun g run) (sym c.basis.ensures.value) c.basis.ensures.run in
    let contracts = values_of g.contracts in
    c.first_spilled.ensures.value
    ∙ ap (λ trails. spilled_from g.domain 0 contracts (map (λ trail. passage_of trail.now) trails)) c.as_slice.ensures.value
    ∙ ap (spilled_from g.domain 0 contracts) c.in_ok-trails.ensures
    ∙ source_of-standing g run c.first_spilled.ensures.counted is_run
    ∙ ap (λ h. source_of_run h run) c.basis.ensures.value
