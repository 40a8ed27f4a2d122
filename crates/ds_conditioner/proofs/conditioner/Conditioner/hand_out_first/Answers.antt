use Rattle.std.proofs.Common.{◌++◌, [], List, ℕ, append-nil, refl, sym, subst}
use Rattle.std.proofs.lemmas.Result.{err_from_is_err_and}
use Rattle.ds_conditioner.specs.Conditionings.{IsConditioned}
use Rattle.ds_conditioner.specs.Texts.{record_text}
use Rattle.ds_conditioner.specs.declared.conditioner.Conditioner.{Conditioner}
use Rattle.ds_conditioner.proofs.ConditionLaws.{handed}
use Rattle.ds_conditioner.proofs.conditioner.Conditioner.hand_out_first.Goals as goal

pub returns-in_default-clause-handed : goal.returns-in_default-clause-handed
returns-in_default-clause-handed c more frames text was =
    let p = c.args.port.now in (
      [],
      sym (append-nil c.args.out.now.items),
      subst (λ (d : Conditioner). IsConditioned p more frames (text ++ []) d) (sym c.in_default.ensures.decided.0)
          (subst (λ (t : List ℕ). IsConditioned p more frames t c.args.self.now) (sym (append-nil text)) was),
    )

pub returns-in_err-added-clause-handed : goal.returns-in_err-added-clause-handed
returns-in_err-added-clause-handed c = λ more frames text was.
    let p = c.args.port.now in
    let after : Conditioner = record c.decide_first.new.self { held = c.let_go_first.new.self } in
    let left = c.in-Some.packet in
    let own = record_text p.accepted.now p.red c.first_frame.result.frame left in
    let both = handed p more frames text c.first_frame.result c.args.self.now c.decide_first.new.self after left c.decide_first.ensures.rest c.in-Some.ensures.decided refl
    c.let_go_first.ensures c.first_frame.ensures was in
    let q = err_from_is_err_and c.from_residual.result c.from_residual.ensures.1 in
    rw q.1 (own, both.1)

pub returns-clause-handed : goal.returns-clause-handed
returns-clause-handed c more frames text was =
    let p = c.args.port.now in
    let after : Conditioner = record c.decide_first.new.self { held = c.let_go_first.new.self } in
    let left = c.in-Some.packet in
    let own = record_text p.accepted.now p.red c.first_frame.result.frame left in
    let both = handed p more frames text c.first_frame.result c.args.self.now c.decide_first.new.self after left c.decide_first.ensures.rest c.in-Some.ensures.decided refl
    c.let_go_first.ensures c.first_frame.ensures was in
    (own, c.in_ok-added.ensures both.0, both.1)
