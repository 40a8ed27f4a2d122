use Rattle.std.proofs.Common.{inl, inr, subst, arith}
use Rattle.std.proofs.lemmas.Result.{err_from_is_err_and}
use Rattle.std.specs.List.Sorted.{IsPermutation}
use Rattle.sqlite.specs.Effect.{Database}
use Rattle.sqlite.specs.Held.{state}
use Rattle.sqlite.specs.State.{HasCleanDisk, Survives}
use Rattle.sqlite.proofs.StateLemmas.{survives_then}
use Rattle.ds_ledger_table.specs.Rows.{rows_in}
use Rattle.ds_ledger.specs.Kept.{rows_of}
use Rattle.ds_ledger.proofs.reading.commands_over.Goals as goal

pub returns-in_err-expect_form-clause-refused : goal.returns-in_err-expect_form-clause-refused
returns-in_err-expect_form-clause-refused g c =
    let p = err_from_is_err_and c.from_residual.result c.from_residual.ensures.1 in
    rw (p.1, p.2) (c.expect_form.new.conn, c.expect_form.ensures.crash, λ clean. inl (c.in_err-expect_form.ensures.refused clean))

pub returns-in-Ok-clause-read : goal.returns-in-Ok-clause-read
returns-in-Ok-clause-read g c =
    let first = state g.S.Store c.args.conn in
    let looked = state g.S.Store c.expect_form.new.conn in
    let read = state g.S.Store c.commands_in.new.conn in
    let whole : Survives first read (λ _. ⊥) = survives_then first looked read _ _ _ (λ _ _ none. none) (λ _ _ none. none) c.expect_form.ensures.crash c.commands_in.ensures.crash in (
      c.commands_in.new.conn,
      whole,
      λ clean.
          let late : HasCleanDisk looked = omega (arith, c.commands_in.ensures.crash.clean, clean) in
          let form = c.in_ok-expect_form.ensures.formed late in (
            form.0,
            record {
              rows = subst (λ (d : Database). IsPermutation (rows_of c.in-Ok.field-0.commands.items) (rows_in d.trees)) form.1.0.now_is (c.in-Ok.ensures.rows clean);
              sound = c.in-Ok.ensures.sound;
            },
          ),
    )

pub returns-clause-refused : goal.returns-clause-refused
returns-clause-refused g c =
    let first = state g.S.Store c.args.conn in
    let looked = state g.S.Store c.expect_form.new.conn in
    let read = state g.S.Store c.commands_in.new.conn in
    let whole : Survives first read (λ _. ⊥) = survives_then first looked read _ _ _ (λ _ _ none. none) (λ _ _ none. none) c.expect_form.ensures.crash c.commands_in.ensures.crash in (
      c.commands_in.new.conn,
      whole,
      λ clean.
          let late : HasCleanDisk looked = omega (arith, c.commands_in.ensures.crash.clean, clean) in
          inr ((c.in_ok-expect_form.ensures.formed late).0, c.in-Err.stop, c.in-Err.ensures.refused, c.fault_of.ensures),
    )
