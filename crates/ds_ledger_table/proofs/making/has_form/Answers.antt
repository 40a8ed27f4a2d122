use Rattle.std.proofs.Common.{◌≡◌, [], Ok, FitsSigned, eqb, of_z, w64, rules}
use Rattle.sqlite.specs.Held.{state}
use Rattle.sqlite.specs.State.{QueriesRow}
use Rattle.ds_ledger_table.specs.Form.{ledger_schema, version_query}
use Rattle.ds_ledger_table.proofs.SelectLemmas.{is_first, told_form, told_version}
use Rattle.ds_ledger_table.proofs.making.has_form.Goals as goal

pub returns-clause-form : goal.returns-clause-form
returns-clause-form g c clean =
    let old = state g.S.Store c.args.conn.now in
    let new = state g.S.Store c.version.new.conn in
    let row = c.in_ok-row.row in
    let version = c.in_ok-version.version in
    let has : old.now.schema ≡ ledger_schema = search rules in
    let got : QueriesRow version_query [] old new (Ok row) = search rules in
    let fits : FitsSigned w64 version = search rules in
    told_form old.now row version has (told_version old new row has got) c.in_ok-version.ensures.ok.1 (eqb (of_z w64 version) 1) (is_first version fits)
