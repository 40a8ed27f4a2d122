use Rattle.std.proofs.Common.{◌≡◌, ap, rules, subst, sym, ◌∙◌, length}
use Rattle.std.specs.Arc.{arc_value}
use Rattle.ds_checker.specs.Acceptance.{Table}
use Rattle.ds_desk.specs.Acts.{story_in}
use Rattle.ds_desk.specs.Histories.{flows_behind}
use Rattle.ds_broker.specs.Histories.{standing_of}
use Rattle.ds_desk.specs.Pages.{IsOfDesk}
use Rattle.ds_desk.specs.declared.log.End.{End}
use Rattle.ds_desk.specs.declared.page.Page.{Page}
use Rattle.ds_desk.proofs.PageLaws.{history_opening, of_opening, story_opening, table_told}
use Rattle.ds_desk.proofs.press.Press.new.Goals as goal

pub new-page-requires-clause-table : goal.new-page-requires-clause-table
new-page-requires-clause-table g c =
    table_told c.in_ok-table.table c.args.book.now (story_in c.named-log.result.1.seen.log) c.in_ok-table.ensures
    (story_opening c.named-log.result.1.seen.log c.named-log.ensures.0 ∙ sym c.requires.empty)

pub new-page-requires-clause-flows : goal.new-page-requires-clause-flows
unfolding standing_of
new-page-requires-clause-flows g c = c.new.ensures.items ∙ ap flows_behind (sym (story_opening c.named-log.result.1.seen.log c.named-log.ensures.0))

pub new-page-requires-clause-serial : goal.new-page-requires-clause-serial
new-page-requires-clause-serial g c =
    c.serial.ensures ∙ ap length (c.requires.empty ∙ sym (story_opening c.named-log.result.1.seen.log c.named-log.ensures.0))

pub returns-clause-history : goal.returns-clause-history
returns-clause-history g c = history_opening c.named-log.result.1.seen.log c.in-Some.end.seen.log c.named-log.ensures.0 c.in-Some.ensures.0

pub new-requires-3-clause-rule : goal.new-requires-3-clause-rule
new-requires-3-clause-rule g c =
    let first = of_opening c.new-page.result g.J.Naming.opening g.J.Naming.log
    (ap (λ (e : End). e.seen.log) c.new-page.ensures.1 ∙ c.named-log.ensures.0)
    (ap (λ (e : End). e.seen.book) c.new-page.ensures.1 ∙ c.named-log.ensures.1)
    (ap (λ (t : Table). t.domain) (c.new-page.ensures.0 ∙ c.in_ok-table.ensures) ∙ c.requires.domain) in
    let is : arc_value c.in_ok-try_clone.field-0 ≡ c.new-page.result = search rules in
    subst (λ (p : Page). IsOfDesk g.J.Naming.log g.J.Naming.opening p) (sym is) first

pub returns-clause-flows : goal.returns-clause-flows
unfolding standing_of
returns-clause-flows g c =
    let is : arc_value c.in_ok-tables.tables.desk.shown.value.page ≡ c.new-page.result = search rules in
    ap (λ (p : Page). p.flows.items) is ∙ ap (λ v. v.items) c.new-page.ensures.2 ∙ c.new.ensures.items ∙ ap flows_behind (sym c.requires.empty)
