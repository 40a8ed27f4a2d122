use Rattle.std.proofs.Common.{◌+◌, ◌-◌, ◌^◌, true, false, ap, refl, sym, subst, ◌∙◌}
use Rattle.ds_conductor_base.proofs.HeadStartLaws.{come_none}
use Rattle.ds_conductor_base.specs.Streams.{ComeFrom, colours_left}
use Rattle.ds_conditioner.proofs.BoundLaws.{made_bounded}
use Rattle.ds_conditioner.proofs.ConditionLaws.{made}
use Rattle.ds_conditioner.proofs.conditioner.Conditioner.make_all.Goals as goal

pub returns-clause-bounded : goal.returns-clause-bounded
returns-clause-bounded g c = λ was. made_bounded (2 ^ 63 - 1) c.args.self.now _ refl refl c.make_all.ensures.made was

pub returns-clause-made : goal.returns-clause-made
returns-clause-made g c p frames text was =
    let before = c.args.self.now in
    let after = c.make_all.new.self in
    made p true false frames text before _ was refl refl refl refl refl refl (ap (λ u. u.table) c.make_all.ensures.made)
    (λ back none. (
      subst (λ sent. ComeFrom p.accepted.now (before.newest + p.ahead) sent) (sym none) (come_none p.accepted.now (before.newest + p.ahead)),
      ap (λ sent. colours_left after sent) none ∙ c.make_all.ensures.comes ∙ ap (λ sent. colours_left before.under_way sent) (sym none),
    ))
