use Rattle.std.proofs.Common.{◌+◌, map, length, Err, ap, sym, ◌∙◌, arith}
use Rattle.std.proofs.lemmas.List.{length_push, map-append}
use Rattle.dsedge_texts.specs.Readable.{readable}
use Rattle.dsedge_texts.proofs.TextLemmas.{read_all, read_next, unread_next}
use Rattle.dsedge_texts.proofs.texts.read_texts.Goals as goal

pub returns-in-Err-Unreadable-clause-refused : goal.returns-in-Err-Unreadable-clause-refused
returns-in-Err-Unreadable-clause-refused g c told =
    let holds = g.F.Folder.holds c.args.folder.now in
    rw (c.new.ensures, c.text-in-Err-Unreadable.ensures)
    (unread_next holds c.args.names.now (map (λ text. text.items) c.loop-name.texts.items) c.loop-name.name-index c.name-item.result
    (c.loop-name.invariant.texts told) c.loop-name-test.true c.name-item.is (ap (λ n. readable (holds n)) (sym c.text.ensures) ∙ c.in-Err-Unreadable.ensures.unreadable told c.in-Err-Unreadable.reason (ap (λ e. Err e) c.in-Err-Unreadable.field-0-is)))

pub loop-name-preserved : goal.loop-name-preserved
loop-name-preserved g c =
    let holds = g.F.Folder.holds c.args.folder.now in record {
      count = ap length c.in-Ok-push.ensures.items ∙ length_push c.loop-name.texts.items c.in-Ok.text ∙ ap (λ n. n + 1) c.loop-name.invariant.count;
      texts = λ told. rw (c.in-Ok-push.ensures.items, map-append)
          (read_next holds c.args.names.now (map (λ text. text.items) c.loop-name.texts.items) c.loop-name.name-index c.name-item.result c.in-Ok.text.items
          (c.loop-name.invariant.texts told) c.loop-name-test.true c.name-item.is (ap (λ n. readable (holds n)) (sym c.text.ensures) ∙ c.in-Ok.ensures.bytes told));
    }

pub returns-clause-texts : goal.returns-clause-texts
returns-clause-texts g c told =
    read_all (g.F.Folder.holds c.args.folder.now) c.args.names.now (map (λ text. text.items) c.loop-name.texts.items) c.loop-name.name-index
    (c.loop-name.invariant.texts told) (omega arith)

pub returns-in-Err-Unreadable-clause-named : goal.returns-in-Err-Unreadable-clause-named
returns-in-Err-Unreadable-clause-named g c =
    rw (c.new.ensures, c.text-in-Err-Unreadable.ensures) (c.loop-name.name-index, c.loop-name-test.true, sym c.name-item.is)
