use Rattle.std.proofs.Common.{◌≡◌, ◌≤◌, true, rules, arith, sym, ap, subst, ◌∙◌}
use Rattle.ds_broker.specs.Books.{held_of, moment_in}
use Rattle.ds_broker.specs.Found.{IsFound}
use Rattle.ds_broker.specs.Refusals.{free_from}
use Rattle.ds_broker.proofs.HoldingLaws.{first-below}
use Rattle.ds_broker.proofs.RefusalLaws.{retire-passed}
use Rattle.ds_broker.proofs.StandingLaws.{bounded-at, standing-bounded}
use Rattle.ds_broker.proofs.book.Book.retirable.Goals as goal
use Rattle.std.proofs.lemmas.Option.{same_Some}

pub hold_left-left-requires-clause-place : goal.hold_left-left-requires-clause-place
hold_left-left-requires-clause-place c = first-below _ _ _ c.in-Some.ensures.found.first

pub hold_left-left-requires-clause-over : goal.hold_left-left-requires-clause-over
hold_left-left-requires-clause-over c h at =
    let found = c.in-Some.ensures.found in
    let done : c.in-Some.released ≡ true = search rules in
    let bounds = bounded-at _ _ _ c.in-Some.place h (standing-bounded c.args.self.now.history) at in
    let over = bounds.2 (ap (λ x. x.released) (same_Some h found.holding (sym at ∙ found.at)) ∙ found.is_released ∙ done) in
    omega (arith, over, c.moment_of.ensures)

pub returns-clause-found : goal.returns-clause-found
returns-clause-found c =
    let done : c.in-Some.released ≡ true = search rules in
    subst (IsFound c.args.id (held_of c.args.self.now) c.in-Some.place) done c.in-Some.ensures.found

pub returns-clause-unrefused : goal.returns-clause-unrefused
returns-clause-unrefused c =
    let found = c.in-Some.ensures.found in
    let done : c.in-Some.released ≡ true = search rules in
    let full = sym c.is_history_full.ensures.value ∙ c.if-is_history_full.false in
    let over : free_from c.args.self.now.domain found.holding.contract ≤ moment_in c.args.self.now c.args.moment =
    omega (arith, c.hold_left-left.ensures found.holding found.at, c.if-left-gt0.false, c.moment_of.ensures) in
    retire-passed c.args.self.now c.args.id c.args.moment c.in-Some.place c.in-Some.released found done full over
