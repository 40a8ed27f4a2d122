use Rattle.std.proofs.Common.{◌≡◌, rules, sym, ◌∙◌}
use Rattle.ds_ledger_rows.specs.Cells.{cells_of, id_of}
use Rattle.ds_ledger_rows.specs.Sound.{IsSound}
use Rattle.ds_ledger_rows.proofs.CellLaws.{command_same}
use Rattle.ds_ledger_rows.proofs.reading.read_command.Goals as goal

pub returns-then-is_same-clause-same : goal.returns-then-is_same-clause-same
returns-then-is_same-clause-same c other sound same =
    let command = c.in_ok-command.command in
    let cells : c.args.row.now ≡ cells_of c.args.serial (id_of c.args.granted command) command = search rules in
    let own : IsSound command = search rules in
    command_same c.args.serial c.args.granted command other own sound (sym cells ∙ same)
