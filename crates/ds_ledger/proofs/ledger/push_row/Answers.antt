use Rattle.std.proofs.Common.{All, sym, subst}
use Rattle.std.proofs.lemmas.List.Elements.{All-push}
use Rattle.ds_ledger_table.specs.Rows.{IsRow}
use Rattle.ds_ledger.proofs.FitLaws.{row_fits}
use Rattle.ds_ledger.proofs.ledger.push_row.Goals as goal

pub returns-clause-fits : goal.returns-clause-fits
returns-clause-fits c before =
    let own : IsRow c.in-Ok.row = subst IsRow (sym c.in-Ok.ensures.cells) (row_fits _ _ c.args.command.now) in
    subst (All IsRow) (sym c.in-Ok-push.ensures.items) (All-push IsRow c.args.rows.now.items c.in-Ok.row before own)
