use Rattle.std.proofs.Common.{◌+◌, ◌<◌, true, ap, refl, sym, subst, All}
use Rattle.ds_conductor_base.proofs.HeadStartLaws.{come_sooner}
use Rattle.ds_conductor_base.specs.Streams.{ComeFrom}
use Rattle.ds_conductor_base.specs.declared.visit.Visit.{Visit}
use Rattle.ds_conditioner.proofs.BoundLaws.{late_all, made_bounded}
use Rattle.ds_conditioner.proofs.ConditionLaws.{made}
use Rattle.ds_conditioner.proofs.conditioner.Conditioner.make_due.Goals as goal

pub returns-clause-bounded : goal.returns-clause-bounded
returns-clause-bounded g c = λ was. made_bounded _ c.args.self.now _ refl refl c.make_due.ensures.made was

pub returns-clause-due : goal.returns-clause-due
returns-clause-due g c =
    let due = c.args.self.now.due in
    subst (λ visits. All (λ (v : Visit). due < v.moment) visits) (sym (ap (λ u. u.waiting) c.make_due.ensures.made)) (late_all due c.args.self.now.under_way.waiting)

pub returns-clause-made : goal.returns-clause-made
returns-clause-made g c p frames text was =
    let before = c.args.self.now in
    made p true true frames text before _ was refl refl refl refl refl refl (ap (λ u. u.table) c.make_due.ensures.made)
    (λ back from.
    let soon = come_sooner p.accepted.now before.due (before.newest + p.ahead) back was.due from in
    (from, c.make_due.ensures.comes back (subst (λ t. ComeFrom t before.due back) (sym was.table) soon)))
