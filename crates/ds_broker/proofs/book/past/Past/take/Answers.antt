use Rattle.std.proofs.Common.{ap, refl, subst, sym, ◌∙◌, max}
use Rattle.ds_timeline.specs.Timelines.{routes_in}
use Rattle.ds_broker.specs.Kept.{IsNext}
use Rattle.ds_broker.specs.Timelines.{ending_by, retired_at}
use Rattle.ds_broker.proofs.TakingLaws.{granted-released, granted-retired, grantable, routes-changed}
use Rattle.ds_broker.proofs.book.past.Past.take.Goals as goal

pub grant-requires : goal.grant-requires
grant-requires c =
    grantable c.args.domain.now c.args.self.now c.in-Reserve.contract (subst (IsNext c.args.domain.now c.args.self.now) c.in-Reserve.is c.requires.next)

pub release-requires : goal.release-requires
release-requires c =
    granted-released c.args.domain.now c.args.self.now c.in-Release.id c.in-Release.at (subst (IsNext c.args.domain.now c.args.self.now) c.in-Release.is c.requires.next)

pub retire-requires : goal.retire-requires
retire-requires c =
    granted-retired c.args.domain.now c.args.self.now c.in-Retire.id c.in-Retire.moment (subst (IsNext c.args.domain.now c.args.self.now) c.in-Retire.is c.requires.next)

pub returns-in-Release-clause-routes : goal.returns-in-Release-clause-routes
returns-in-Release-clause-routes c =
    let d = c.args.domain.now in
    let p = c.args.self.now in
    c.requires.routes ∙ sym (routes-changed d c.in-Release.id (ending_by (max p.newest c.in-Release.at)) p.granted (λ r. refl)) ∙ ap (λ q. routes_in d q.granted) (sym c.release.ensures)

pub returns-in-Retire-clause-routes : goal.returns-in-Retire-clause-routes
returns-in-Retire-clause-routes c =
    let d = c.args.domain.now in
    let p = c.args.self.now in
    c.requires.routes ∙ sym (routes-changed d c.in-Retire.id (retired_at (max p.newest c.in-Retire.moment)) p.granted (λ r. refl)) ∙ ap (λ q. routes_in d q.granted) (sym c.retire.ensures)
