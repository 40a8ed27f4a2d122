use Rattle.std.proofs.Common.{ap, subst, sym, ◌∙◌}
use Rattle.std.specs.Arc.{arc_value}
use Rattle.ds_desk.specs.Acts.{history_in}
use Rattle.ds_desk.specs.Pages.{LeadsOn}
use Rattle.ds_desk.specs.declared.page.Shown.{Shown}
use Rattle.ds_desk.proofs.Courses.{history_kept}
use Rattle.ds_desk.proofs.TrailLaws.{some-holds}
use Rattle.ds_desk.proofs.press.Press.keep.Goals as goal

pub returns-clause-history : goal.returns-clause-history
returns-clause-history g c = ap history_in c.kept.ensures.0 ∙ history_kept c.args.self.now.end.seen.log

pub returns-clause-older : goal.returns-clause-older
returns-clause-older g c =
    let leads = subst (λ (s : Shown). LeadsOn c.args.change.step (arc_value s.page) c.args.page.now) (sym c.published.ensures) c.requires.leads in
    (c.turn.ensures c.args.page.now (some-holds (λ a. arc_value a) (λ p. LeadsOn c.args.change.step p c.args.page.now) c.again-before.result (arc_value c.published.result.now.page) c.again-before.ensures leads)).0

pub returns-clause-oldest : goal.returns-clause-oldest
returns-clause-oldest g c =
    let leads = subst (λ (s : Shown). LeadsOn c.args.change.step (arc_value s.page) c.args.page.now) (sym c.published.ensures) c.requires.leads in
    (c.turn.ensures c.args.page.now (some-holds (λ a. arc_value a) (λ p. LeadsOn c.args.change.step p c.args.page.now) c.again-before.result (arc_value c.published.result.now.page) c.again-before.ensures leads)).1
