use Rattle.std.proofs.Common.{arith}
use Rattle.std.proofs.lemmas.Result.{IfOk-weaker}
use Rattle.sqlite.specs.Files.{file_state}
use Rattle.sqlite.specs.State.{HasCleanDisk}
use Rattle.sqlite.specs.WalFiles.{image_at}
use Rattle.ds_ledger.proofs.BlankLaws.{are_found}
use Rattle.ds_ledger.proofs.file.open_ledger.Goals as goal

pub returns-clause-kept : goal.returns-clause-kept
returns-clause-kept g c = IfOk-weaker c.ledger_at.result _ _ (λ opened over. over.kept) c.ledger_at.ensures.over

pub returns-clause-lasting : goal.returns-clause-lasting
returns-clause-lasting g c = IfOk-weaker c.ledger_at.result _ _ (λ opened over. over.lasting) c.ledger_at.ensures.over

pub returns-clause-found : goal.returns-clause-found
returns-clause-found g c =
    let first = file_state c.in_ok-conn.conn in
    IfOk-weaker c.ledger_at.result _ _ (λ opened over told.
    let early : HasCleanDisk first = omega (arith, over.crash.clean, told.0) in
    let finds = c.in_ok-conn.ensures.found early in
    let opens = c.in_ok-conn.ensures.opened early in
    let whole = opens.1 opens.0.is_open in
    record {
      db = first.committed;
      finds = record { holds = finds.holds; reads = finds.reads };
      was = over.found told;
      are = record { rows = are_found (image_at g.S.Start) first.committed opened.1.items (over.found told) whole.1 finds.reads; sound = (over.kept told).sound };
    }) c.ledger_at.ensures.over
