use Rattle.std.proofs.Common.{◌≡◌, ◌++◌, ◌∙◌, length, sym, ap, subst, arith}
use Rattle.sqlite.specs.Held.{state}
use Rattle.sqlite.proofs.StateLemmas.{survives_weaker}
use Rattle.ds_ledger_table.specs.Rows.{IsAppended, MayAppend}
use Rattle.ds_ledger.specs.Kept.{Keeps, rows_from}
use Rattle.ds_ledger.proofs.KeepLaws.{keeps_more, may_keep}
use Rattle.ds_ledger.proofs.RowLaws.{as_many_rows}
use Rattle.ds_ledger.proofs.ledger.SqlLedger.keep.Goals as goal

pub returns-in-Err-clause-crash : goal.returns-in-Err-clause-crash
returns-in-Err-clause-crash g c =
    let old = state g.S.Store c.args.self.now.conn in
    let end = c.args.self.now.end in
    let rows : c.as_slice.result.now ≡ rows_from end c.args.commands.now = c.as_slice.ensures.value ∙ c.in_ok-rows.ensures.rows in
    survives_weaker old (state g.S.Store c.append.new.conn) _ _ (λ clean db may. may_keep old end c.args.commands.now db c.in_ok-rows.ensures.sound (subst (λ r. MayAppend old r db) rows may)) c.append.ensures.crash

pub returns-clause-appended : goal.returns-clause-appended
returns-clause-appended g c told history keeps =
    let old = state g.S.Store c.args.self.now.conn in
    let new = state g.S.Store c.append.new.conn in
    let end = c.args.self.now.end in
    let commands = c.args.commands.now in
    let rows : c.as_slice.result.now ≡ rows_from end commands = c.as_slice.ensures.value ∙ c.in_ok-rows.ensures.rows in
    let appended : IsAppended old new (rows_from end commands) = subst (IsAppended old new) rows (c.in_default.ensures.appended told.0) in
    subst (λ e. Keeps new e (history ++ commands)) (sym c.in_ok-rows.ensures.end) (keeps_more old new end commands history appended c.in_ok-rows.ensures.sound told.1 keeps)

pub returns-clause-crash : goal.returns-clause-crash
returns-clause-crash g c =
    let old = state g.S.Store c.args.self.now.conn in
    let end = c.args.self.now.end in
    let rows : c.as_slice.result.now ≡ rows_from end c.args.commands.now = c.as_slice.ensures.value ∙ c.in_ok-rows.ensures.rows in
    survives_weaker old (state g.S.Store c.append.new.conn) _ _ (λ clean db may. may_keep old end c.args.commands.now db c.in_ok-rows.ensures.sound (subst (λ r. MayAppend old r db) rows may)) c.append.ensures.crash

pub returns-clause-open : goal.returns-clause-open
returns-clause-open g c clean some =
    let rows : c.as_slice.result.now ≡ rows_from c.args.self.now.end c.args.commands.now = c.as_slice.ensures.value ∙ c.in_ok-rows.ensures.rows in
    c.in_default.ensures.open clean (omega (arith, ap length rows, as_many_rows c.args.self.now.end c.args.commands.now, some))
