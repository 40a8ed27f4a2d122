use Rattle.std.proofs.Common.{ap, sym, subst, ◌∙◌}
use Rattle.std.proofs.lemmas.Result.{OkIff-at_ok}
use Rattle.ds_checker.specs.Acceptance.{IsAcceptable}
use Rattle.ds_conductor_base.specs.Ways.{AreInReach}
use Rattle.ds_runs.specs.Judging.{unjudged}
use Rattle.ds_conductor_base.specs.Streams.{begun}
use Rattle.ds_conditioner.specs.Helds.{HeldFramesValue}
use Rattle.ds_conditioner.proofs.ConditionLaws.{begins}
use Rattle.ds_conditioner.proofs.conditioner.Conditioner.new.Goals as goal

pub returns-clause-begun : goal.returns-clause-begun
returns-clause-begun c p same seeing =
    let origin = (OkIff-at_ok c.new-3.result _ _ c.unwrap-origin.result c.new-3.ensures c.unwrap-origin.ensures).1 in
    begins p _ (c.in_ok-under_way.ensures.begun ∙ ap begun (sym same)) (ap (λ (h : HeldFramesValue). h.held) c.nothing.ensures) origin origin
    c.nothing-2.ensures c.nothing-3.ensures (c.in_ok-judge.ensures.unjudged ∙ ap unjudged (sym same)) (subst IsAcceptable (sym same) c.domain-domain.ensures.acceptable)
    (subst AreInReach (sym same) c.in_ok-judge.ensures.reach) seeing
