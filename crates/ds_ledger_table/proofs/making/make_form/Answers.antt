use Rattle.std.proofs.Common.{◌≡◌, [], refl, rules, arith, subst, IsTrue}
use Rattle.std.specs.Result.{OnOk}
use Rattle.std.proofs.lemmas.Result.{on_ok_weaker}
use Rattle.sqlite.specs.Tree.{Trees}
use Rattle.sqlite.specs.Held.{state}
use Rattle.sqlite.specs.State.{HasCleanDisk, Survives}
use Rattle.sqlite.proofs.StateLemmas.{survives_then}
use Rattle.sqlite.proofs.Callers.{survives_begin}
use Rattle.ds_ledger_table.specs.Rows.{rows_in, IsMade}
use Rattle.ds_ledger_table.proofs.MakingLemmas.{made_of, no_rows}
use Rattle.ds_ledger_table.proofs.making.make_form.Goals as goal

pub returns-clause-made : goal.returns-clause-made
returns-clause-made g c clean =
    let old = state g.S.Store c.args.conn.now in
    let first = state g.S.Store c.transaction-transaction.result.conn.now in
    let last = state g.S.Store c.define.new.transaction.conn.now in
    let end = c.commit.new.self.0 in
    let begun = c.transaction-transaction.ensures.begun in
    let same : end ≡ c.conn-2-1.given.0 = search rules in
    let late : HasCleanDisk (state g.S.Store end) = search rules in
    let early : HasCleanDisk last = omega (arith, c.commit.ensures.survives.clean) in
    let inside : IsTrue first.in_transaction = rw begun refl in
    subst (λ h. OnOk c.commit.result (IsMade old (state g.S.Store h))) same
    (on_ok_weaker c.commit.result (λ ran. made_of old first last (rw begun refl) (rw begun refl) c.requires.settled c.requires.blank (c.in_ok-define.ensures.made early inside) (state g.S.Store end) ran.1) (c.commit.ensures.ok late))

pub returns-clause-crash : goal.returns-clause-crash
returns-clause-crash g c =
    let old = state g.S.Store c.args.conn.now in
    let first = state g.S.Store c.transaction-transaction.result.conn.now in
    let last = state g.S.Store c.define.new.transaction.conn.now in
    let end = state g.S.Store c.commit.new.self.0 in
    let begun = c.transaction-transaction.ensures.begun in
    let inside : IsTrue first.in_transaction = rw begun refl in
    let P = λ (db : Trees). rows_in db ≡ [] in
    let early = λ (clean : HasCleanDisk end). let was : HasCleanDisk last = omega (arith, c.commit.ensures.survives.clean) in was in
    let whole = survives_then old last end _ _ P (λ _ db none. absurd none)
    (λ clean db is. no_rows old first last (rw begun refl) (rw begun refl) c.requires.settled c.requires.blank (c.in_ok-define.ensures.made (early clean) inside) db is)
    (survives_begin g.S.Store c.args.conn.now last _ (rw begun at c.define.ensures.survives)) c.commit.ensures.survives in
    let same : c.commit.new.self.0 ≡ c.conn-2-1.given.0 = search rules in
    subst (λ h. Survives old (state g.S.Store h) P) same whole
