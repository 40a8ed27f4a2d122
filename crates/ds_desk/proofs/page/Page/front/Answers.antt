use Rattle.std.proofs.Common.{◌≡◌, ◌-◌, ◌<◌, List, [], length, rules, ap, subst, sym, ◌∙◌}
use mathlib.Core.List.{IsPrefix}
use Rattle.ds_broker.specs.Requests.{AreUnrefused}
use Rattle.ds_desk.specs.Histories.{book_behind}
use Rattle.ds_desk.specs.declared.log.Act.{Act}
use Rattle.ds_desk.proofs.PageLaws.{front_kept}
use Rattle.ds_desk.proofs.page.Page.front.Goals as goal

pub invariant_of-result : goal.invariant_of-result
invariant_of-result g c =
    let page = c.args.self.now in
    let log = c.load_hint-acts.new.seen.log in
    let begins : IsPrefix page.tried.seen.log log = subst (λ (l : List Act). IsPrefix l log) (ap (λ s. s.log) c.again-seen.ensures) c.load_hint-acts.ensures.2 in
    let some : 0 < c.load_hint-acts.result = search rules in
    let last : c.load_hint-acts.result - 1 ≡ length page.tried.seen.log = search rules in
    let front = front_kept page.tried.seen.log log c.load_hint-acts.result begins c.load_hint-acts.ensures.3 some last in (
      front.0,
      page.counted ∙ ap length (sym front.1),
      c.load_hint-acts.ensures.0 ∙ ap (λ s. s.book) c.again-seen.ensures ∙ c.requires.book,
      subst (AreUnrefused (book_behind g.J.Naming.opening [])) (sym front.1) c.requires.unrefused,
    )

pub returns-then-acts-self : goal.returns-then-acts-self
returns-then-acts-self g c =
    let page = c.args.self.now in
    let log = c.load_hint-acts.new.seen.log in
    let begins : IsPrefix page.tried.seen.log log = subst (λ (l : List Act). IsPrefix l log) (ap (λ s. s.log) c.again-seen.ensures) c.load_hint-acts.ensures.2 in
    let some : 0 < c.load_hint-acts.result = search rules in
    let last : c.load_hint-acts.result - 1 ≡ length page.tried.seen.log = search rules in
    (front_kept page.tried.seen.log log c.load_hint-acts.result begins c.load_hint-acts.ensures.3 some last).1
