use Rattle.std.proofs.Common.{arith, ap, sym, ◌∙◌, unwrap_or}
use Rattle.std.proofs.lemmas.Option.{same_Some}
use Rattle.ds_checker.specs.Holds.{hold_at}
use Rattle.ds_broker.proofs.BookLaws.{contract-placed, hold-placed}
use Rattle.ds_broker.proofs.HoldingLaws.{holding-at}
use Rattle.ds_broker.proofs.book.Book.hold_left.Goals as goal

pub overflow_sub-get : goal.overflow_sub-get
overflow_sub-get c =
    let at = holding-at _ c.args.place c.requires.place in
    let is = contract-placed c.args.self.now c.contracts.result.now (c.contracts.ensures.value ∙ ap (λ t. t.contracts) c.table.ensures.value) c.args.place at.0 c.index-contracts-place.result at.1 in
    let a = c.end_of-end.ensures in let b = c.get.ensures in let d = ap (λ x. unwrap_or x.lifetime.until 0) (c.contract.ensures ∙ c.index-contracts-place.is ∙ is) in let e = c.requires.over at.0 at.1 in
    omega (arith, a, b.value, d, e)

pub returns : goal.returns
returns c h at =
    let is = contract-placed c.args.self.now c.contracts.result.now (c.contracts.ensures.value ∙ ap (λ t. t.contracts) c.table.ensures.value) c.args.place h c.index-contracts-place.result at in
    let hold = same_Some c.unwrap-hold.result _ (sym c.unwrap-hold.ensures ∙ c.hold.ensures ∙ ap (λ t. hold_at t c.args.place) c.table-2.ensures.value ∙ hold-placed c.args.self.now c.args.place h at) in
    let a = c.end_of-end.ensures in let b = c.get.ensures in let d = ap (λ x. unwrap_or x.lifetime.until 0) (c.contract.ensures ∙ c.index-contracts-place.is ∙ is) in let e = c.requires.over h at in
    let f = c.from-passed.ensures in let k = c.saturating_sub.ensures in
    omega (arith, a, b.value, d, e, f, k, hold)
