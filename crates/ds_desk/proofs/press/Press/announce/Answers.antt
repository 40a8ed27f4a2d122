use Rattle.std.proofs.Common.{◌≡◌, ◌++◌, ◌∷◌, [], length, arith, rules, length-append, ap, subst, sym, ◌∙◌}
use Rattle.std.specs.Arc.{arc_value}
use Rattle.ds_broker.specs.Books.{with_command}
use Rattle.ds_desk.specs.Acts.{story_in}
use Rattle.ds_desk.specs.Histories.{flows_behind}
use Rattle.ds_desk.specs.Pages.{IsOfDesk}
use Rattle.ds_desk.specs.declared.page.Page.{Page}
use Rattle.ds_desk.proofs.TrailLaws.{none-leads}
use Rattle.ds_desk.proofs.PageLaws.{history_announced, of_desk, story_announced, table_told}
use Rattle.ds_desk.proofs.press.Press.announce.Goals as goal

pub new-page-requires-clause-table : goal.new-page-requires-clause-table
new-page-requires-clause-table g c =
    let story = story_announced c.args.self.now.end.seen.log c.in-Some.end.seen.log c.args.command.now c.args.book.now.history c.requires.history c.in-Some.ensures.0 in
    table_told c.in-Ok-next.next.table (with_command c.args.book.now c.args.command.now) (story_in c.again.result.seen.log)
    (c.in-Ok-next.ensures.table ∙ sym c.in-Ok.ensures.change.leads.table) (ap (λ e. story_in e.seen.log) c.again.ensures ∙ story)

pub new-page-requires-clause-flows : goal.new-page-requires-clause-flows
new-page-requires-clause-flows g c =
    let story = story_announced c.args.self.now.end.seen.log c.in-Some.end.seen.log c.args.command.now c.args.book.now.history c.requires.history c.in-Some.ensures.0 in
    c.in-Ok-next.ensures.flows ∙ sym c.in-Ok.ensures.change.leads.flows ∙ ap flows_behind (sym (ap (λ e. story_in e.seen.log) c.again.ensures ∙ story))

pub new-page-requires-clause-serial : goal.new-page-requires-clause-serial
new-page-requires-clause-serial g c =
    let story = story_announced c.args.self.now.end.seen.log c.in-Some.end.seen.log c.args.command.now c.args.book.now.history c.requires.history c.in-Some.ensures.0 in
    let same = ap (λ e. story_in e.seen.log) c.again.ensures ∙ story in
    let serial : c.in-Ok-next.next.serial ≡ length (c.args.book.now.history ++ c.args.command.now ∷ []) =
    omega (arith, c.in-Ok-next.ensures.serial, c.in-Ok.ensures.change.serial, length-append c.args.book.now.history (c.args.command.now ∷ [])) in
    serial ∙ ap length (sym same)

pub returns-in_default-new-clause-history : goal.returns-in_default-new-clause-history
returns-in_default-new-clause-history g c =
    history_announced c.args.self.now.end.seen.log c.in-Some.end.seen.log c.args.command.now c.args.book.now.history c.requires.history c.in-Some.ensures.0

pub returns-in_default-try_clone-clause-history : goal.returns-in_default-try_clone-clause-history
returns-in_default-try_clone-clause-history g c =
    history_announced c.args.self.now.end.seen.log c.in-Some.end.seen.log c.args.command.now c.args.book.now.history c.requires.history c.in-Some.ensures.0

pub returns-in-Ok-append-clause-history : goal.returns-in-Ok-append-clause-history
returns-in-Ok-append-clause-history g c =
    history_announced c.args.self.now.end.seen.log c.in-Some.end.seen.log c.args.command.now c.args.book.now.history c.requires.history c.in-Some.ensures.0

pub returns-in-Ok-append-clause-story : goal.returns-in-Ok-append-clause-story
returns-in-Ok-append-clause-story g c =
    story_announced c.args.self.now.end.seen.log c.in-Some.end.seen.log c.args.command.now c.args.book.now.history c.requires.history c.in-Some.ensures.0

pub returns-in-Err-append-clause-history : goal.returns-in-Err-append-clause-history
returns-in-Err-append-clause-history g c =
    history_announced c.args.self.now.end.seen.log c.in-Some.end.seen.log c.args.command.now c.args.book.now.history c.requires.history c.in-Some.ensures.0

pub returns-in-Ok-append-clause-desk : goal.returns-in-Ok-append-clause-desk
returns-in-Ok-append-clause-desk g c =
    let story = story_announced c.args.self.now.end.seen.log c.in-Some.end.seen.log c.args.command.now c.args.book.now.history c.requires.history c.in-Some.ensures.0 in
    let made = of_desk c.new-page.result c.in-Some.end c.args.book.now g.J.Naming.opening g.J.Naming.log c.args.command.now
    (c.new-page.ensures.1 ∙ c.again.ensures) c.in-Some.ensures.1 (c.new-page.ensures.0 ∙ c.in-Ok-next.ensures.table ∙ sym c.in-Ok.ensures.change.leads.table) c.requires.named story
    c.history-history.ensures.unrefused c.in-Ok.ensures.change.unrefused in
    let is : arc_value c.in-Ok-new.page ≡ c.new-page.result = search rules in
    subst (λ (p : Page). IsOfDesk g.J.Naming.log g.J.Naming.opening p) (sym is) made

pub returns-in_default-try_clone-clause-oldest : goal.returns-in_default-try_clone-clause-oldest
returns-in_default-try_clone-clause-oldest g c = none-leads _ _ c.next.ensures.taken

pub returns-in-Ok-append-clause-oldest : goal.returns-in-Ok-append-clause-oldest
returns-in-Ok-append-clause-oldest g c = none-leads _ _ c.next.ensures.taken

pub returns-in-Err-append-clause-oldest : goal.returns-in-Err-append-clause-oldest
returns-in-Err-append-clause-oldest g c = none-leads _ _ c.next.ensures.taken

pub returns-in_default-new-clause-oldest : goal.returns-in_default-new-clause-oldest
returns-in_default-new-clause-oldest g c = none-leads _ _ c.next.ensures.taken
