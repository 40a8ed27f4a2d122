use Rattle.std.proofs.Common.{ap, ◌∙◌}
use Rattle.ds_checker.specs.declared.candidate.Candidate.{Candidate}
use Rattle.ds_checker.specs.Acceptance.{table_of}
use Rattle.dsedge_texts.proofs.ShapeLemmas.{judge-told}
use Rattle.dsedge_texts.proofs.accepting.judge.Goals as goal

pub returns-in-Err-clause-refused : goal.returns-in-Err-clause-refused
returns-in-Err-clause-refused c =
    judge-told (table_of c.args.candidate) c.as_slice.result.now c.in-Err.refusal c.told.result (c.as_slice.ensures.value ∙ ap (λ (k : Candidate). k.contracts.items) c.in-Err.ensures.back) c.in-Err.ensures.refused c.told.ensures.memory c.told.ensures.line
