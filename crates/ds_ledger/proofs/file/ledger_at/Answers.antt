use Rattle.ds_ledger.proofs.file.ledger_at.Goals as goal

pub returns-in-Ok-site-clause-over : goal.returns-in-Ok-site-clause-over
returns-in-Ok-site-clause-over g c =
    let it = c.in-Ok.ensures in
    record { kept = it.kept; found = it.found; lasting = it.lasting; crash = it.crash }
