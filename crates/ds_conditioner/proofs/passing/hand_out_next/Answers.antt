use Rattle.std.proofs.Common.{[], List, ℕ, append-nil, sym, subst}
use Rattle.std.proofs.lemmas.Result.{err_from_is_err_and}
use Rattle.ds_conditioner.specs.Conditionings.{IsConditioned}
use Rattle.ds_conditioner.proofs.HandingLaws.{none_added}
use Rattle.ds_conditioner.proofs.passing.hand_out_next.Goals as goal

pub returns-in_err-stretch-clause-handed : goal.returns-in_err-stretch-clause-handed
returns-in_err-stretch-clause-handed c = λ more frames text at.
    let q = err_from_is_err_and c.from_residual.result c.from_residual.ensures.1 in
    rw q.1 ([], subst (λ (t : List ℕ). IsConditioned c.args.port.now more frames t c.args.conditioner.now) (sym (append-nil text)) at)

pub returns-in_default-clause-handed : goal.returns-in_default-clause-handed
returns-in_default-clause-handed c = none_added c.args.port.now c.args.conditioner.now c.args.handed.now

pub returns-in_err-add-clause-handed : goal.returns-in_err-add-clause-handed
returns-in_err-add-clause-handed c = λ more frames text at.
    let own = c.hand_out_all-is_over.ensures.handed more frames text at in
    let q = err_from_is_err_and c.from_residual-in_err-add.result c.from_residual-in_err-add.ensures.1 in
    rw q.1 (own.0, own.2)
