use Rattle.std.proofs.Common.{true, arith, refl, sym, ap, subst, ◌∙◌, cond, bytes_eq}
use Rattle.ds_broker.specs.Changes.{IsChange}
use Rattle.ds_broker.specs.declared.command.Command.TheVariants.{Reserve}
use Rattle.ds_broker.proofs.KeptLaws.{applied, kept-reserved}
use Rattle.ds_broker.proofs.StandingLaws.{granted-most}
use Rattle.ds_broker.proofs.book.Book.take_reserve.Goals as goal

pub overflow_add-id : goal.overflow_add-id
overflow_add-id c = omega (arith, c.self.invariant.granted, granted-most c.self.inside.history.items, c.self.invariant.short)

pub turn-requires-clause-applies : goal.turn-requires-clause-applies
turn-requires-clause-applies c = applied c.self.inside c.args.self.now (Reserve c.args.contract) c.args.change.now c.self.view_is c.self.invariant c.requires.change

pub invariant_of-self-2 : goal.invariant_of-self-2
invariant_of-self-2 c =
    let is = subst (λ b. IsChange b (Reserve c.args.contract) c.args.change.now) (sym c.self.view_is) c.requires.change in
    kept-reserved c.self.inside _ c.args.contract c.args.change.now c.self.invariant is c.in-Ok-turn.ensures.changed c.in-Ok-turn.ensures.acceptable
    (rw c.unwrap.ensures at c.push.ensures.items ∙ rw c.make_room.ensures.ids refl)
    (rw c.unwrap-2.ensures at c.push-2.ensures.items ∙ rw c.make_room.ensures.released refl)
    (λ name. (rw c.unwrap-3.ensures at c.insert.ensures.updates).0 name ∙ ap (cond (bytes_eq c.args.contract.name name) true) (c.make_room.ensures.names name))
    refl refl refl
    (rw c.unwrap-4.ensures at c.push-3.ensures.items ∙ rw c.make_room.ensures.history refl)

pub unwrap-requires : goal.unwrap-requires
unwrap-requires c = c.push.ensures.succeeds (omega (arith, c.in-Ok.ensures.id_room))

pub unwrap-requires-2 : goal.unwrap-requires-2
unwrap-requires-2 c = c.push-2.ensures.succeeds (omega (arith, c.in-Ok.ensures.released_room))

pub unwrap-requires-3 : goal.unwrap-requires-3
unwrap-requires-3 c = c.insert.ensures.succeeds c.in-Ok.ensures.name_room

pub unwrap-requires-4 : goal.unwrap-requires-4
unwrap-requires-4 c = c.push-3.ensures.succeeds (omega (arith, c.in-Ok.ensures.command_room))
