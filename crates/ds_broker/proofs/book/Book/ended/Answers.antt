use Rattle.std.proofs.Common.{arith, refl, ap, ◌∙◌}
use Rattle.ds_broker.proofs.BookLaws.{contract-placed}
use Rattle.ds_broker.proofs.HoldingLaws.{holding-at}
use Rattle.ds_broker.proofs.StandingLaws.{bounded-at, standing-bounded}
use Rattle.ds_broker.proofs.book.Book.ended.Goals as goal

pub ended-requires : goal.ended-requires
ended-requires c =
    let at = holding-at _ c.args.place c.requires.place in
    let is = contract-placed c.args.self.now c.contracts.result.now (c.contracts.ensures.value ∙ ap (λ t. t.contracts) c.table.ensures.value) c.args.place at.0 c.index-contracts-place.result at.1 in
    let bounds = bounded-at _ _ _ c.args.place at.0 (standing-bounded c.args.self.now.history) at.1 in
    omega (arith, ap (λ x. x.lifetime.since) (c.contract.ensures ∙ c.index-contracts-place.is ∙ is), bounds.1, c.requires.later)

pub returns : goal.returns
returns c h at =
    let is = contract-placed c.args.self.now c.contracts.result.now (c.contracts.ensures.value ∙ ap (λ t. t.contracts) c.table.ensures.value) c.args.place h c.index-contracts-place.result at in
    c.ended.ensures ∙ rw (c.contract.ensures ∙ c.index-contracts-place.is ∙ is) refl
