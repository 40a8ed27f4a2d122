use Rattle.std.proofs.Common.{sym, subst, map, IfOk, IfErr, Result}
use Rattle.std.proofs.lemmas.Result.{IfErr-weaker, IfOk-weaker}
use Rattle.clap.specs.Words.{kind_of}
use Rattle.dsedge_base.specs.Plans.{IsPlanOf, IsRefusalOf}
use Rattle.dsedge_base.specs.declared.fault.UsageFault.{UsageFault}
use Rattle.dsedge_base.specs.declared.work.Plan.{Plan}
use Rattle.dsedge_base.proofs.PlanLemmas.{fault-answers, wish-answers, parse-may_fail, parsed-answers}
use Rattle.dsedge_base.proofs.words.plan.Goals as goal

pub returns-in-Ok-clause-ok : goal.returns-in-Ok-clause-ok
returns-in-Ok-clause-ok g c =
    let words = map g.S.AsStr.text c.args.words.now in
    let P : Result Plan UsageFault → Type 0 = λ r. IfOk r (IsPlanOf words) in
    subst P (sym c.ok_or.ensures.value)
    (parsed-answers _ words c.in-Ok.matches _ c.in_ok-command.ensures c.in-Ok.ensures.kinds c.in-Ok.ensures.matches c.asked_by.ensures).0

pub returns-in-Ok-clause-err : goal.returns-in-Ok-clause-err
returns-in-Ok-clause-err g c =
    let words = map g.S.AsStr.text c.args.words.now in
    let P : Result Plan UsageFault → Type 0 = λ r. IfErr r (IsRefusalOf words) in
    subst P (sym c.ok_or.ensures.value)
    (parsed-answers _ words c.in-Ok.matches _ c.in_ok-command.ensures c.in-Ok.ensures.kinds c.in-Ok.ensures.matches c.asked_by.ensures).1

pub returns-in-Err-clause-ok : goal.returns-in-Err-clause-ok
returns-in-Err-clause-ok g c =
    let words = map g.S.AsStr.text c.args.words.now in
    let fails = parse-may_fail _ words c.in-Err.error c.in_ok-command.ensures c.in-Err.ensures.kinds in
    IfOk-weaker c.answer_to.result _ _ (λ plan wish. wish-answers words (kind_of c.in-Err.error) plan fails wish) c.answer_to.ensures.wish

pub returns-in-Err-clause-err : goal.returns-in-Err-clause-err
returns-in-Err-clause-err g c =
    let words = map g.S.AsStr.text c.args.words.now in
    let fails = parse-may_fail _ words c.in-Err.error c.in_ok-command.ensures c.in-Err.ensures.kinds in
    IfErr-weaker c.answer_to.result _ _ (λ fault usage. fault-answers words (kind_of c.in-Err.error) fault fails usage) c.answer_to.ensures.usage
