use Rattle.std.proofs.Common.{sym, ◌∙◌}
use Rattle.ds_broker.specs.Books.{held_of}
use Rattle.ds_broker.proofs.BookLaws.{names-held}
use Rattle.ds_broker.proofs.NameLaws.{unheld-nowhere}
use Rattle.ds_broker.proofs.book.Book.place_of.Goals as goal

pub returns-then-not-contains-clause-place : goal.returns-then-not-contains-clause-place
returns-then-not-contains-clause-place c =
    let none = sym (names-held c.self.inside c.args.self.now c.self.view_is c.self.invariant c.args.name) ∙ sym c.contains.ensures ∙ c.if-not-contains.true in
    sym (unheld-nowhere c.args.name (held_of c.args.self.now) none)
