use Rattle.std.proofs.Common.{true, arith, refl, sym, ap, subst, ◌∙◌, set}
use Rattle.ds_broker.specs.Changes.{IsChange}
use Rattle.ds_broker.specs.declared.command.Command.TheVariants.{Release}
use Rattle.ds_broker.proofs.BookLaws.{released-length}
use Rattle.ds_broker.proofs.HoldingLaws.{first-below}
use Rattle.ds_broker.proofs.KeptLaws.{applied, kept-released}
use Rattle.ds_broker.proofs.book.Book.take_release.Goals as goal

pub turn-requires-clause-applies : goal.turn-requires-clause-applies
turn-requires-clause-applies c = applied c.self.inside c.args.self.now (Release c.args.id c.args.at) c.args.change.now c.self.view_is c.self.invariant c.requires.change

pub index_mut-requires : goal.index_mut-requires
index_mut-requires c =
    omega (arith, c.place-place.ensures, released-length c.self.inside c.args.self.now c.self.view_is c.self.invariant, first-below _ _ _ c.requires.change.placed.first)

pub invariant_of-self-2 : goal.invariant_of-self-2
invariant_of-self-2 c =
    let is = subst (λ b. IsChange b (Release c.args.id c.args.at) c.args.change.now) (sym c.self.view_is) c.requires.change in
    kept-released c.self.inside _ c.args.id c.args.at c.args.change.now c.self.invariant is c.in_ok-turn.ensures.changed c.in_ok-turn.ensures.acceptable
    refl (ap (λ place. set c.self.inside.released.items place true) c.place-place.ensures) refl refl refl refl
    (rw c.unwrap.ensures at c.push.ensures.items ∙ rw c.reserve.ensures.items refl)

pub unwrap-requires : goal.unwrap-requires
unwrap-requires c = c.push.ensures.succeeds (omega (arith, c.in_ok-reserve.ensures.ok))
