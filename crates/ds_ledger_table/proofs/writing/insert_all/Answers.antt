use Rattle.std.proofs.Common.{◌≡◌, arith, sym, subst, ◌∙◌, ◌++◌, [], ◌∷◌, ap, get_or, take}
use Rattle.std.proofs.lemmas.List.{take_more}
use Rattle.sqlite.specs.Order.{Row}
use Rattle.sqlite.specs.Held.{state}
use Rattle.sqlite.specs.State.{HasCleanDisk}
use Rattle.sqlite.proofs.StateLemmas.{survives_then}
use Rattle.ds_ledger_table.specs.Rows.{Adds, IsRow}
use Rattle.ds_ledger_table.proofs.AppendLemmas.{adds_more, keeps_then}
use Rattle.ds_ledger_table.proofs.writing.insert_all.Goals as goal

pub loop-row-preserved : goal.loop-row-preserved
loop-row-preserved g c =
    let own = c.loop-row.invariant in
    let old = state g.S.Store c.args.transaction.now.conn.now in
    let mid = state g.S.Store c.loop-row.transaction.conn.now in
    let new = state g.S.Store c.insert.new.transaction.conn.now in
    let early = λ (clean : HasCleanDisk new). let was : HasCleanDisk mid = omega (arith, c.insert.ensures.survives.clean) in was in
    record {
      same = c.insert.ensures.same_reference ∙ own.same;
      rows = λ clean inside has.
          let row = c.row-item.result in
          let there : row ≡ get_or c.args.rows.now c.loop-row.row-index row = c.row-item.is in
          let fits : IsRow row = subst IsRow (sym there) (c.requires c.loop-row.row-index row (omega (arith, c.loop-row-test.true))) in
          let more = adds_more old mid new _ row _ (own.rows (early clean) inside has) fits (c.in_ok-insert.ensures.runs clean (own.mode (early clean) inside)) in
          let front = take_more c.args.rows.now c.loop-row.row-index row (omega (arith, c.loop-row-test.true)) in
          subst (Adds old new) (sym (front ∙ ap (λ (r : Row). take c.loop-row.row-index c.args.rows.now ++ r ∷ []) (sym there))) more;
      mode = λ clean inside. (c.in_ok-insert.ensures.runs clean (own.mode (early clean) inside)).1.mode;
      live = λ clean inside some. (own.kept (early clean) inside).was_open (c.in_ok-insert.ensures.runs clean (own.mode (early clean) inside)).1.was_open;
      kept = λ clean inside. let ran = (c.in_ok-insert.ensures.runs clean (own.mode (early clean) inside)).1 in keeps_then old mid new (own.kept (early clean) inside) (record { was_open = λ now. ran.was_open; committed = λ now. ran.committed_is });
      survives = survives_then old mid new _ _ _ (λ _ db none. none) (λ _ db none. none) own.survives c.insert.ensures.survives;
    }
