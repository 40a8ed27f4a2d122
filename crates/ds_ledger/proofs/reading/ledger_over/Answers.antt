use Rattle.std.proofs.Common.{◌≡◌, ◌⊎◌, ◌∙◌, Bool, true, false, not, inl, inr, refl, sym, ap, rules, arith}
use Rattle.std.proofs.lemmas.Result.{err_from_is_err_and}
use Rattle.sqlite.specs.Held.{state}
use Rattle.sqlite.specs.State.{State, HasCleanDisk, IsUnchanged, Survives}
use Rattle.sqlite.proofs.StateLemmas.{survives_then}
use Rattle.ds_ledger_table.specs.Form.{ledger_schema}
use Rattle.ds_ledger_table.specs.Rows.{IsMade, TellsForm}
use Rattle.ds_ledger.specs.Kept.{Keeps}
use Rattle.ds_ledger.proofs.LastingLaws.{outlasts}
use Rattle.ds_ledger.proofs.OpenLaws.{holds, was_found}
use Rattle.ds_ledger.proofs.RefusedLaws.{formless, unmade, unread}
use Rattle.ds_ledger.proofs.reading.ledger_over.Goals as goal

as_states : {A : Type 0} (f : A → State) (a b : A) (X : Type 0) → (a ≡ b) ⊎ X → (f a ≡ f b) ⊎ X
as_states f a b X (inl is) = inl (ap f is)
as_states f a b X (inr x) = inr x

-- no transaction is open exactly where each statement commits
within_one : (open_one auto : Bool) → auto ≡ not open_one → auto ≡ false → open_one ≡ true
within_one true auto same shut = refl
within_one false auto same shut = absurd (let e : true ≡ false = sym same ∙ shut in cc)

pub returns-clause-found : goal.returns-clause-found
returns-clause-found g c told =
    let first = state g.S.Store c.args.conn in
    let made = state g.S.Store c.settle.new.conn in
    let looked = state g.S.Store c.expect_form.new.conn in
    let read = state g.S.Store c.commands_in.new.conn in
    let third : HasCleanDisk looked = omega (arith, c.commands_in.ensures.crash.clean, told.0) in
    let second : HasCleanDisk made = omega (arith, c.expect_form.ensures.crash.clean, third) in
    let settled : (c.settle.new.conn ≡ c.args.conn) ⊎ IsMade first made = search rules in
    let has : made.now.schema ≡ ledger_schema = search rules in
    let form : IsUnchanged made looked = search rules in
    let auto : read.now ≡ read.committed = search rules in
    let commands = c.in-Ok.found.commands.items in
    was_found first made looked read commands (as_states (state g.S.Store) c.settle.new.conn c.args.conn (IsMade first made) settled) has form (c.in-Ok.ensures.rows told.0) (c.in-Ok.ensures.same told.0) auto

pub returns-clause-lasting : goal.returns-clause-lasting
returns-clause-lasting g c clean =
    let first = state g.S.Store c.args.conn in
    let made = state g.S.Store c.settle.new.conn in
    let looked = state g.S.Store c.expect_form.new.conn in
    let read = state g.S.Store c.commands_in.new.conn in
    let third : HasCleanDisk looked = omega (arith, c.commands_in.ensures.crash.clean, clean) in
    let second : HasCleanDisk made = omega (arith, c.expect_form.ensures.crash.clean, third) in
    let settled : (c.settle.new.conn ≡ c.args.conn) ⊎ IsMade first made = search rules in
    let has : made.now.schema ≡ ledger_schema = search rules in
    let form : IsUnchanged made looked = search rules in
    let same = c.in-Ok.ensures.same clean in
    let told = same.0.is_open in
    let auto : read.now ≡ read.committed = search rules in
    let commands = c.in-Ok.found.commands.items in
    let keeps : Keeps read c.in-Ok.found.end commands = record {
      rows = holds first made looked read commands (as_states (state g.S.Store) c.settle.new.conn c.args.conn (IsMade first made) settled) has form (c.in-Ok.ensures.rows clean) same auto;
      counted = c.in-Ok.ensures.end;
      sound = c.in-Ok.ensures.sound;
    } in
    outlasts read c.in-Ok.found.end commands (λ db left. g.met.S.Store.settled c.commands_in.new.conn.store db told left) keeps

pub returns-in-Err-clause-refused : goal.returns-in-Err-clause-refused
returns-in-Err-clause-refused g c =
    unmade g.S.Store c.args.conn c.fault_of_write.result c.settle.new.conn c.in-Err.error c.settle.ensures.crash c.in-Err.ensures.blank c.fault_of_write.ensures

pub returns-in_err-expect_form-clause-refused : goal.returns-in_err-expect_form-clause-refused
returns-in_err-expect_form-clause-refused g c =
    let p = err_from_is_err_and c.from_residual.result c.from_residual.ensures.1 in
    rw (p.1, p.2) (formless g.S.Store c.args.conn _ c.settle.new.conn c.expect_form.new.conn c.settle.ensures.crash c.expect_form.ensures.crash
    (λ clean. c.in_default.ensures.settled clean) (λ clean. c.in_err-expect_form.ensures.refused clean))

pub returns-in-Err-commands_in-clause-refused : goal.returns-in-Err-commands_in-clause-refused
returns-in-Err-commands_in-clause-refused g c =
    let made = state g.S.Store c.settle.new.conn in
    let looked = state g.S.Store c.expect_form.new.conn in
    let read = state g.S.Store c.commands_in.new.conn in
    let two : Survives made read (λ _. ⊥) = survives_then made looked read _ _ _ (λ _ _ none. none) (λ _ _ none. none) c.expect_form.ensures.crash c.commands_in.ensures.crash in
    let told : HasCleanDisk read → TellsForm made.now true = λ (clean : HasCleanDisk read). let third : HasCleanDisk looked = omega (arith, c.commands_in.ensures.crash.clean, clean) in (c.in_ok-expect_form.ensures.formed third).0 in
    unread g.S.Store c.args.conn c.fault_of.result c.settle.new.conn c.commands_in.new.conn c.settle.ensures.crash two
    (λ clean. c.in_default.ensures.settled clean) told (inl (c.in-Err-commands_in.stop, c.in-Err-commands_in.ensures.refused, c.fault_of.ensures))

pub returns-then-not-is_autocommit-clause-refused : goal.returns-then-not-is_autocommit-clause-refused
returns-then-not-is_autocommit-clause-refused g c =
    let made = state g.S.Store c.settle.new.conn in
    let looked = state g.S.Store c.expect_form.new.conn in
    let read = state g.S.Store c.commands_in.new.conn in
    let two : Survives made read (λ _. ⊥) = survives_then made looked read _ _ _ (λ _ _ none. none) (λ _ _ none. none) c.expect_form.ensures.crash c.commands_in.ensures.crash in
    let told : HasCleanDisk read → TellsForm made.now true = λ (clean : HasCleanDisk read). let third : HasCleanDisk looked = omega (arith, c.commands_in.ensures.crash.clean, clean) in (c.in_ok-expect_form.ensures.formed third).0 in
    let no : c.is_autocommit.result ≡ false = search rules in
    let within : read.in_transaction ≡ true = within_one read.in_transaction c.is_autocommit.result c.is_autocommit.ensures.value no in
    unread g.S.Store c.args.conn _ c.settle.new.conn c.commands_in.new.conn c.settle.ensures.crash two
    (λ clean. c.in_default.ensures.settled clean) told (inr (within, refl))
