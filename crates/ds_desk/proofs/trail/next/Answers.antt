use Rattle.ds_broker.specs.Books.{table_of}
use Rattle.ds_broker.specs.Entries.{flows_of}
use Rattle.ds_desk.proofs.TrailLaws.{applies-same}
use Rattle.ds_desk.proofs.trail.next.Goals as goal

pub reused-requires : goal.reused-requires
reused-requires c =
    let s = c.requires.shown in
    let b = c.args.book.now in
    (s.0, s.3, s.4, applies-same c.args.change.now.step s.0.table (table_of b) s.0.flows.items (flows_of b) s.1 s.2 c.requires.applies)
