use Rattle.std.proofs.Common.{◌≡◌, [], All}
use Rattle.sqlite.specs.Held.{state}
use Rattle.sqlite.specs.Given.{HasGiven}
use Rattle.sqlite.specs.State.{HasCleanDisk, IsUnchanged, Survives}
use Rattle.ds_ledger_rows.specs.Sound.{IsSound}
use Rattle.ds_ledger_table.specs.Form.{select_text}
use Rattle.ds_ledger.specs.Kept.{end_after, rows_from}
use Rattle.ds_ledger.proofs.RowLaws.{start}
use Rattle.ds_ledger.proofs.reading.commands_in.Given as goal

-- the rows so far are those of the commands that were read
abbrev pub invariant-rows : goal.invariant-rows
invariant-rows g l =
    let old = state g.S.Store l.fn.conn in
    let now = state g.S.Store l.rows.conn.now in
    record {
      same : l.rows.conn.ghost_name ≡ l.initial.rows.conn.ghost_name;
      survives : Survives old now (λ _. ⊥);
      given : HasCleanDisk now → HasGiven g.S.Store select_text [] l.rows.conn.now (rows_from start l.found.commands.items) × IsUnchanged old now;
      end : l.found.end ≡ end_after start l.found.commands.items;
      sound : All IsSound l.found.commands.items;
    }
