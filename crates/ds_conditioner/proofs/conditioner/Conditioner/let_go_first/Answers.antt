use Rattle.std.proofs.Common.{◌++◌, refl, sym, subst}
use Rattle.ds_conditioner.specs.Conditionings.{IsConditioned}
use Rattle.ds_conditioner.specs.Texts.{record_text}
use Rattle.ds_conditioner.specs.declared.conditioner.Conditioner.{Conditioner}
use Rattle.ds_conditioner.proofs.ConditionLaws.{handed}
use Rattle.ds_conditioner.proofs.conditioner.Conditioner.let_go_first.Goals as goal

pub returns-in_default-clause-handed : goal.returns-in_default-clause-handed
returns-in_default-clause-handed c p more frames text was =
    (text, subst (λ (d : Conditioner). IsConditioned p more frames text d) (sym c.in_default.ensures.decided.0) was)

pub returns-clause-handed : goal.returns-clause-handed
returns-clause-handed c p more frames text was =
    let after : Conditioner = record c.decide_first.new.self { held = c.let_go_first.new.self } in
    let left = c.in-Some._packet in
    let gone = c.let_go_first.ensures in
    let both = handed p more frames text gone.0.frame c.args.self.now c.decide_first.new.self after left c.decide_first.ensures.rest c.in-Some.ensures.decided refl
    gone (gone.0, c.let_go_first.new.self.held, gone.1, refl) was in
    (text ++ record_text p.accepted.now p.red gone.0.frame.frame left, both.1)
