use Rattle.sqlite.specs.Files.{file_state}
use Rattle.ds_ledger.proofs.LastingLaws.{all_found, recovered}
use Rattle.ds_ledger.proofs.file.FileShelfShelf.open.Goals as goal

pub returns-in-Ok-clause-lasting : goal.returns-in-Ok-clause-lasting
returns-in-Ok-clause-lasting c clean =
    let s = file_state c.in-Ok.rows.conn in
    let history = c.in-Ok.commands.items in
    let whole = c.in-Ok.ensures.lasting clean in
    (recovered s history whole, λ found left. all_found s history found whole left)
