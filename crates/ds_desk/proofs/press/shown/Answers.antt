use Rattle.std.proofs.Common.{subst, sym, ◌∙◌}
use Rattle.ds_desk.specs.Pages.{IsOfDesk}
use Rattle.ds_desk.specs.declared.page.Page.{Page}
use Rattle.ds_desk.proofs.press.shown.Goals as goal

pub publish_as-next-requires : goal.publish_as-next-requires
publish_as-next-requires g c next is views holds at =
    (tt, subst (λ (p : Page). IsOfDesk g.J.Naming.log g.J.Naming.opening p) (sym (is ∙ c.loop.invariant)) c.requires, holds)
