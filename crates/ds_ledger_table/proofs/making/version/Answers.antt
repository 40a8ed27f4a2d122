use Rattle.std.proofs.Common.{[], sym, subst}
use Rattle.sqlite.specs.Held.{state}
use Rattle.sqlite.specs.Listing.{understood}
use Rattle.sqlite.proofs.Callers.{IsPlain}
use Rattle.ds_ledger_table.specs.Form.{version_query}
use Rattle.ds_ledger_table.proofs.MakingLemmas.{query_plain}
use Rattle.ds_ledger_table.proofs.SelectLemmas.{commits_nothing, row_unchanged}
use Rattle.ds_ledger_table.proofs.making.version.Goals as goal

pub returns-clause-same : goal.returns-clause-same
returns-clause-same g c clean =
    let plain : IsPlain (understood c.args.conn.now.schema version_query) = subst (λ s. IsPlain (understood s version_query)) (sym c.requires) query_plain in
    row_unchanged version_query [] (state g.S.Store c.args.conn.now) (state g.S.Store c.query_row.new.self) plain c.query_row.result (c.query_row.ensures.row clean)

pub returns-clause-crash : goal.returns-clause-crash
returns-clause-crash g c =
    let plain : IsPlain (understood c.args.conn.now.schema version_query) = subst (λ s. IsPlain (understood s version_query)) (sym c.requires) query_plain in
    commits_nothing version_query [] (state g.S.Store c.args.conn.now) (state g.S.Store c.query_row.new.self) plain c.query_row.ensures.survives
