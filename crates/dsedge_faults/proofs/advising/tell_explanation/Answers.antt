use Rattle.dsedge_faults.specs.Advised.{explanation_text}
use Rattle.dsedge_faults.proofs.AdviceLemmas.{words_explained}
use Rattle.dsedge_faults.proofs.advising.tell_explanation.Goals as goal

pub returns-in-Some-explain-clause-line : goal.returns-in-Some-explain-clause-line
returns-in-Some-explain-clause-line g c told =
    let explanation = c.in-Some-explain.explanation in (
      explanation_text explanation c.as_str.result.now,
      words_explained c.args.words.now _ _ explanation c.as_str.result.now c.in-Some.ensures.cases.0 c.as_str.ensures.value c.in-Some-explain.ensures,
      c.tell_explained.ensures.line told,
    )
