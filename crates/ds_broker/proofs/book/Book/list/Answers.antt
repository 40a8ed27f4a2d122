use Rattle.std.proofs.Common.{◌≡◌, ap, subst, ◌∙◌, IfOk}
use Rattle.ds_broker.proofs.BookLaws.{told-listed}
use Rattle.ds_broker.proofs.book.Book.list.Goals as goal

pub returns : goal.returns
returns c =
    subst (λ told. IfOk c.entries.result (λ entries. entries.items ≡ told))
    (told-listed c.self.inside c.args.self.now c.self.view_is c.self.invariant c.contracts.result.now
    (c.contracts.ensures.value ∙ ap (λ t. t.contracts) c.table.ensures.value))
    (rw c.as_slice.ensures.value at c.entries.ensures)
