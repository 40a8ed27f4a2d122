use Rattle.std.proofs.Common.{◌≡◌, Some, sym, ap, ◌∙◌, option_map}
use Rattle.ds_broker.specs.Entries.{entry_of}
use Rattle.ds_broker.proofs.BookLaws.{contract-placed}
use Rattle.ds_broker.proofs.book.Book.entry.Goals as goal

pub returns : goal.returns
returns c =
    let found = c.in_ok-place.ensures.found in
    let is = contract-placed c.args.self.now c.contracts.result.now (c.contracts.ensures.value ∙ ap (λ t. t.contracts) c.table.ensures.value) c.in_ok-place.place found.holding c.index-contracts-place.result found.at in
    let here = c.index-contracts-place.is ∙ is in
    let k = found.holding.contract in
    let told : record { id = c.args.id; name = k.name; since = k.lifetime.since; until = k.lifetime.until } ≡ entry_of found.holding = ap (λ n. record { id = n; name = k.name; since = k.lifetime.since; until = k.lifetime.until }) (sym found.named) in
    ap Some (c.entry_of.ensures ∙ rw here told) ∙ ap (λ o. option_map entry_of o) (sym found.found)
