use Rattle.std.proofs.Common.{◌≡◌, ◌++◌, true, List, ℕ, ap, sym, subst, ◌∙◌}
use Rattle.std.proofs.lemmas.Result.{err_from_is_err_and}
use Rattle.ds_conditioner.specs.Conditionings.{IsConditioned}
use Rattle.ds_conditioner.proofs.HandingLaws.{all_passed, front_passed, none_passed}
use Rattle.ds_conditioner.proofs.passing.pass_lot.Goals as goal

pub returns-then-not-has_room_for-clause-passed : goal.returns-then-not-has_room_for-clause-passed
returns-then-not-has_room_for-clause-passed g c told = none_passed c.args.port.now c.args.conditioner.now c.args.lot.frames

pub returns-in_err-take_lot-clause-passed : goal.returns-in_err-take_lot-clause-passed
returns-in_err-take_lot-clause-passed g c told =
    let q = err_from_is_err_and c.from_residual.result c.from_residual.ensures.1 in
    rw q.1 (front_passed c.args.port.now c.args.conditioner.now c.take_lot.new.self c.args.lot.frames (c.in_err-take_lot.ensures.unseen told))

pub returns-in_err-hand_out-clause-passed : goal.returns-in_err-hand_out-clause-passed
returns-in_err-hand_out-clause-passed g c told =
    let p = c.args.port.now in
    let q = err_from_is_err_and c.from_residual-in_err-hand_out.result c.from_residual-in_err-hand_out.ensures.1 in
    rw q.1 (λ before shown at.
    let made = c.make_due.ensures.made p (before ++ c.args.lot.frames) shown (c.in_ok-take_lot.ensures.seen told before shown at) in
    let lost = c.in_err-hand_out.ensures.handed true (before ++ c.args.lot.frames) shown made in
    all_passed p c.hand_out.new.conditioner before c.args.lot.frames shown lost.0 lost.1)

pub returns-clause-passed : goal.returns-clause-passed
returns-clause-passed g c told before shown at =
    let p = c.args.port.now in
    let made = c.make_due.ensures.made p (before ++ c.args.lot.frames) shown (c.in_ok-take_lot.ensures.seen told before shown at) in
    let own = c.in_ok-hand_out.ensures.handed true (before ++ c.args.lot.frames) shown made in
    let all : c.hand_out.new.handed ≡ own.0 = own.1 ∙ ap (λ it. it ++ own.0) c.nothing-handed.ensures in
    subst (λ (t : List ℕ). IsConditioned p true (before ++ c.args.lot.frames) (shown ++ t) c.hand_out.new.conditioner) (sym all) own.2
