use Rattle.std.proofs.Common.{◌≡◌, ◌++◌, OnOk, ap, subst, ◌∙◌}
use Rattle.ds_broker.specs.Books.{Book, table_of}
use Rattle.ds_checker.specs.Acceptance.{Table}
use Rattle.dsedge_sold.specs.Said.{headroom_said}
use Rattle.dsedge_drive.proofs.command.say.Goals as goal

pub returns-in-Headroom-clause-text : goal.returns-in-Headroom-clause-text
returns-in-Headroom-clause-text g c =
    let table : c.table.result.now ≡ table_of c.args.shop.now = c.table.ensures.value ∙ ap (λ (b : Book). table_of b) c.book-in-Headroom.ensures in
    rw c.in-Headroom.is
    (subst (λ (t : Table). OnOk c.push_room.result (c.push_room.new.text.items ≡ c.args.text.now.items ++ headroom_said c.args.in_json t)) table c.push_room.ensures)
