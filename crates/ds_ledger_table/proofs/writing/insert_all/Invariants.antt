use Rattle.std.proofs.Common.{◌≡◌, ◌<◌, take, IsTrue}
use Rattle.sqlite.specs.Held.{state}
use Rattle.sqlite.specs.State.{HasCleanDisk, KeepsCommit, Survives}
use Rattle.ds_ledger_table.specs.Form.{ledger_schema}
use Rattle.ds_ledger_table.specs.Rows.{Adds}
use Rattle.ds_ledger_table.proofs.writing.insert_all.Given as goal

-- the rows so far are added
abbrev pub invariant-loop-row : goal.invariant-loop-row
invariant-loop-row g l =
    let old = state g.S.Store l.fn.transaction.conn.now in
    let now = state g.S.Store l.transaction.conn.now in
    record {
      same : l.transaction.conn.ghost_name ≡ l.fn.transaction.conn.ghost_name;
      rows : HasCleanDisk now → IsTrue old.in_transaction → old.now.schema ≡ ledger_schema → Adds old now (take l.row-index l.rows);
      mode : HasCleanDisk now → IsTrue old.in_transaction → IsTrue now.in_transaction;
      live : HasCleanDisk now → IsTrue old.in_transaction → 0 < l.row-index → IsTrue old.is_open;
      kept : HasCleanDisk now → IsTrue old.in_transaction → KeepsCommit old now;
      survives : Survives old now (λ _. ⊥);
    }
