use Rattle.std.proofs.Common.{◌++◌, List, ℕ, [], append-nil, append_assoc, ap, sym, subst, refl, ◌∙◌}
use Rattle.std.proofs.lemmas.Result.{err_from_is_err_and}
use Rattle.ds_conditioner.specs.Conditionings.{IsConditioned}
use Rattle.ds_conditioner.proofs.passing.hand_out.Goals as goal

pub loop-init : goal.loop-init
loop-init c = record {
  bounded = c.requires;
  records = refl;
  still = λ up. up;
  handed = λ more frames text at. ([], sym (append-nil c.args.handed.now), subst (λ (t : List ℕ). IsConditioned c.args.port.now more frames t c.args.conditioner.now) (sym (append-nil text)) at);
}

pub loop-preserved : goal.loop-preserved
loop-preserved c =
    let was = c.loop.invariant in
    let p = c.args.port.now in
    record {
      bounded = c.hand_out_next.ensures.bounded;
      records = c.hand_out_next.ensures.records ∙ was.records;
      still = λ up. c.hand_out_next.ensures.still (was.still up);
      handed = λ more frames text at.
          let so_far = was.handed more frames text at in
          let one = c.in_ok-hand_out_next.ensures.handed more frames (text ++ so_far.0) so_far.2 in (
            so_far.0 ++ one.0,
            one.1 ∙ ap (λ it. it ++ one.0) so_far.1 ∙ append_assoc c.args.handed.now so_far.0 one.0,
            subst (λ (t : List ℕ). IsConditioned p more frames t c.hand_out_next.new.conditioner) (append_assoc text so_far.0 one.0) one.2,
          );
    }

pub returns-in_err-hand_out_next-clause-handed : goal.returns-in_err-hand_out_next-clause-handed
returns-in_err-hand_out_next-clause-handed c = λ more frames text at.
    let was = c.loop.invariant in
    let p = c.args.port.now in
    let so_far = was.handed more frames text at in
    let one = c.in_err-hand_out_next.ensures.handed more frames (text ++ so_far.0) so_far.2 in
    let q = err_from_is_err_and c.from_residual.result c.from_residual.ensures.1 in
    rw q.1 (
      so_far.0 ++ one.0,
      subst (λ (t : List ℕ). IsConditioned p more frames t c.hand_out_next.new.conditioner) (append_assoc text so_far.0 one.0) one.1,
    )

pub returns-clause-handed : goal.returns-clause-handed
returns-clause-handed c = λ more frames text at.
    let so_far = c.loop.invariant.handed more frames text at in
    let p = c.args.port.now in
    let one = c.in_ok-hand_out_next.ensures.handed more frames (text ++ so_far.0) so_far.2 in (
      so_far.0 ++ one.0,
      one.1 ∙ ap (λ it. it ++ one.0) so_far.1 ∙ append_assoc c.args.handed.now so_far.0 one.0,
      subst (λ (t : List ℕ). IsConditioned p more frames t c.hand_out_next.new.conditioner) (append_assoc text so_far.0 one.0) one.2,
    )
