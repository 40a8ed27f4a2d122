use Rattle.std.proofs.Common.{map}
use Rattle.std.proofs.lemmas.Option.{IfSome_then}
use Rattle.clap.specs.Words.{kind_of}
use Rattle.dsedge_base.proofs.PlanLemmas.{forms-explain, parse-may_fail, parsed-asks, value-explains}
use Rattle.dsedge_base.proofs.words.explain.Goals as goal

pub returns-in-Ok-try_get_matches_from : goal.returns-in-Ok-try_get_matches_from
returns-in-Ok-try_get_matches_from g c =
    let words = map g.S.AsStr.text c.args.words.now in
    let parsed = c.in-Ok-try_get_matches_from in
    let asks = parsed-asks _ words parsed.matches c.in-Ok.ensures parsed.ensures.kinds parsed.ensures.matches in
    IfSome_then c.value_explanation.result c.value_explanation.ensures.told (λ explanation told. value-explains words _ explanation asks.0 asks.1 told.0 told.1)

pub returns-in-Err : goal.returns-in-Err
returns-in-Err g c =
    let words = map g.S.AsStr.text c.args.words.now in
    let fails = parse-may_fail _ words c.in-Err.error c.in-Ok.ensures c.in-Err.ensures.kinds in
    forms-explain words (kind_of c.in-Err.error) c.form_explanation.result fails c.form_explanation.ensures.form c.form_explanation.ensures.malformed
