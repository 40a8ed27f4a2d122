use Rattle.std.proofs.Common.{◌≡◌, ◌<◌, length, refl, rules, arith, subst, IsTrue}
use Rattle.std.specs.Result.{OnOk}
use Rattle.std.proofs.lemmas.Result.{on_ok_weaker}
use Rattle.sqlite.specs.Held.{state}
use Rattle.sqlite.specs.State.{HasCleanDisk, Survives}
use Rattle.sqlite.proofs.StateLemmas.{survives_then}
use Rattle.sqlite.proofs.Callers.{survives_begin}
use Rattle.ds_ledger_table.specs.Rows.{IsAppended, MayAppend}
use Rattle.ds_ledger_table.proofs.AppendLemmas.{appended, may_append}
use Rattle.ds_ledger_table.proofs.writing.append.Goals as goal

pub returns-clause-appended : goal.returns-clause-appended
returns-clause-appended g c clean =
    let old = state g.S.Store c.args.conn.now in
    let first = state g.S.Store c.transaction-transaction.result.conn.now in
    let last = state g.S.Store c.insert_all.new.transaction.conn.now in
    let end = c.commit.new.self.0 in
    let begun = c.transaction-transaction.ensures.begun in
    let same : end ≡ c.conn-2-1.given.0 = search rules in
    let late : HasCleanDisk (state g.S.Store end) = search rules in
    let early : HasCleanDisk last = omega (arith, c.commit.ensures.survives.clean) in
    let inside : IsTrue first.in_transaction = rw begun refl in
    let settled : IsTrue old.is_open → old.now ≡ old.committed = search rules in
    subst (λ h. OnOk c.commit.result (IsAppended old (state g.S.Store h) c.args.rows.now)) same
    (on_ok_weaker c.commit.result (λ ran. appended old first last c.args.rows.now (rw begun refl) (rw begun refl) settled (c.insert_all.ensures.kept early inside)
    (c.in_ok-insert_all.ensures.rows early inside) (state g.S.Store end) ran.1) (c.commit.ensures.ok late))

pub returns-clause-crash : goal.returns-clause-crash
returns-clause-crash g c =
    let old = state g.S.Store c.args.conn.now in
    let first = state g.S.Store c.transaction-transaction.result.conn.now in
    let last = state g.S.Store c.insert_all.new.transaction.conn.now in
    let end = state g.S.Store c.commit.new.self.0 in
    let begun = c.transaction-transaction.ensures.begun in
    let inside : IsTrue first.in_transaction = rw begun refl in
    let settled : IsTrue old.is_open → old.now ≡ old.committed = search rules in
    let some : 0 < length c.args.rows.now = search rules in
    let early = λ (clean : HasCleanDisk end). let was : HasCleanDisk last = omega (arith, c.commit.ensures.survives.clean) in was in
    let whole = survives_then old last end _ _ (MayAppend old c.args.rows.now) (λ _ db none. absurd none)
    (λ clean db is. may_append old first last c.args.rows.now (rw begun refl) (rw begun refl) settled (c.insert_all.ensures.kept (early clean) inside)
    (c.in_ok-insert_all.ensures.rows (early clean) inside) (rw begun at (c.in_ok-insert_all.ensures.live some (early clean) inside)) db is)
    (survives_begin g.S.Store c.args.conn.now last _ (rw begun at c.insert_all.ensures.survives)) c.commit.ensures.survives in
    let same : c.commit.new.self.0 ≡ c.conn-2-1.given.0 = search rules in
    subst (λ h. Survives old (state g.S.Store h) (MayAppend old c.args.rows.now)) same whole

pub returns-clause-open : goal.returns-clause-open
returns-clause-open g c clean =
    let end = c.commit.new.self.0 in
    let same : end ≡ c.conn-2-1.given.0 = search rules in
    let late : HasCleanDisk (state g.S.Store end) = search rules in
    subst (λ h. OnOk c.commit.result (0 < length c.args.rows.now → IsTrue (state g.S.Store h).is_open)) same
    (on_ok_weaker c.commit.result (λ ran some. ran.1.is_open) (c.commit.ensures.ok late))
