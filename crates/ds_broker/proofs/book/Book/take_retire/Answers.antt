use Rattle.std.proofs.Common.{◌≡◌, Some, arith, refl, sym, ap, subst, ◌∙◌, remove, slice_get}
use Rattle.ds_broker.specs.Books.{held_of}
use Rattle.ds_broker.specs.Changes.{IsChange, place_in}
use Rattle.ds_broker.specs.Histories.{Holding}
use Rattle.ds_broker.specs.Kept.{book_of}
use Rattle.ds_broker.specs.declared.command.Command.TheVariants.{Retire}
use Rattle.ds_broker.proofs.BookLaws.{contract-placed, ids-length, released-length}
use Rattle.ds_broker.proofs.HoldingLaws.{first-below}
use Rattle.ds_broker.proofs.KeptLaws.{applied, kept-retired}
use Rattle.ds_broker.proofs.book.Book.take_retire.Goals as goal

pub turn-requires-clause-applies : goal.turn-requires-clause-applies
turn-requires-clause-applies c = applied c.self.inside c.args.self.now (Retire c.args.id c.args.moment) c.args.change.now c.self.view_is c.self.invariant c.requires.change

pub invariant_of-self-2 : goal.invariant_of-self-2
invariant_of-self-2 c =
    let is = subst (λ b. IsChange b (Retire c.args.id c.args.moment) c.args.change.now) (sym c.self.view_is) c.requires.change in
    let place = c.place-place.ensures in
    let contracts = c.contracts.ensures.value ∙ ap (λ t. t.contracts) (c.accepted.ensures.value ∙ c.self.invariant.table) in
    let own = c.contract.result.now in
    let named : (h : Holding) → slice_get (held_of (book_of c.self.inside)) (place_in c.args.change.now.step) ≡ Some h → own.name ≡ h.contract.name =
    λ h at. ap (λ k. k.name) (c.contract.ensures ∙ c.index-contracts-place.is ∙ contract-placed (book_of c.self.inside) c.contracts.result.now contracts c.place-place.result h
    c.index-contracts-place.result (ap (slice_get (held_of (book_of c.self.inside))) place ∙ at)) in
    kept-retired c.self.inside _ c.args.id c.args.moment c.args.change.now own.name c.self.invariant is named
    c.in_ok-turn.ensures.changed c.in_ok-turn.ensures.acceptable
    (c.remove-id.ensures.items ∙ ap (λ p. remove c.self.inside.ids.items p) place) (c.remove-released.ensures.items ∙ ap (λ p. remove c.self.inside.released.items p) place) c.remove.ensures.updates.0
    refl refl refl (rw c.unwrap.ensures at c.push.ensures.items ∙ rw c.reserve.ensures.items refl)

pub remove-id-requires : goal.remove-id-requires
remove-id-requires c =
    omega (arith, c.place-place.ensures, ids-length c.self.inside c.args.self.now c.self.view_is c.self.invariant, first-below _ _ _ c.requires.change.placed.first)

pub remove-released-requires : goal.remove-released-requires
remove-released-requires c =
    omega (arith, c.place-place.ensures, released-length c.self.inside c.args.self.now c.self.view_is c.self.invariant, first-below _ _ _ c.requires.change.placed.first)

pub unwrap-requires : goal.unwrap-requires
unwrap-requires c = c.push.ensures.succeeds (omega (arith, c.in_ok-reserve.ensures.ok))
