use Rattle.std.proofs.Common.{Some, sym, ap, ◌∙◌}
use Rattle.ds_broker.proofs.BookLaws.{names-held}
use Rattle.ds_broker.proofs.RefusalLaws.{fault-range, fault-twice, fault-way}
use Rattle.ds_broker.proofs.book.Book.own_fault.Goals as goal

pub returns-then-contains-clause-told : goal.returns-then-contains-clause-told
returns-then-contains-clause-told c =
    let held = sym (names-held c.self.inside c.args.self.now c.self.view_is c.self.invariant c.args.contract.now.name) ∙ sym c.contains.ensures ∙ c.if-contains.true in
    fault-twice c.args.self.now c.args.contract.now held ∙ sym (ap Some c.fault.ensures)

pub returns-then-ends_early-clause-told : goal.returns-then-ends_early-clause-told
returns-then-ends_early-clause-told c =
    let new = sym (names-held c.self.inside c.args.self.now c.self.view_is c.self.invariant c.args.contract.now.name) ∙ sym c.contains.ensures ∙ c.if-contains.false in
    fault-range c.args.self.now c.args.contract.now new (sym c.ends_early.ensures ∙ c.if-ends_early.true) ∙ sym (ap Some c.fault-then-ends_early.ensures)

pub returns-clause-none : goal.returns-clause-none
returns-clause-none c =
    let new = sym (names-held c.self.inside c.args.self.now c.self.view_is c.self.invariant c.args.contract.now.name) ∙ sym c.contains.ensures ∙ c.if-contains.false in
    fault-way c.args.self.now c.args.contract.now new (sym c.ends_early.ensures ∙ c.if-ends_early.false)
