use Rattle.std.proofs.Common.{sym}
use Rattle.ds_broker.proofs.BookLaws.{found-at, missing-at}
use Rattle.ds_broker.proofs.book.Book.find.Goals as goal

pub returns-in_err-place-clause-missing : goal.returns-in_err-place-clause-missing
returns-in_err-place-clause-missing c =
    let answer = rw c.as_slice.ensures.value at c.binary_search.ensures.position in
    rw c.from_residual.ensures (missing-at c.self.inside c.args.self.now c.self.view_is c.self.invariant c.args.id c.binary_search.result answer (sym c.in_err-place.ensures.value))

pub returns-clause-found : goal.returns-clause-found
returns-clause-found c =
    let answer = rw c.as_slice.ensures.value at c.binary_search.ensures.position in
    found-at c.self.inside c.args.self.now c.self.view_is c.self.invariant c.args.id c.binary_search.result answer c.in_ok-place.place c.index.result.now (sym c.in_ok-place.ensures.value) c.index.ensures
