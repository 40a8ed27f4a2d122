use Rattle.std.proofs.Common.{codes}
use Rattle.ds_broker.specs.Entries.{next_serial}
use Rattle.ds_broker.specs.Refusals.{release_refusal}
use Rattle.ds_broker.specs.declared.command.Command.TheVariants.{Release}
use Rattle.dsedge_sold.specs.Said.{done_said}
use Rattle.dsedge_drive.proofs.KeepLaws.{grown-done}
use Rattle.dsedge_drive.proofs.SaidLaws.{outcome_book, outcome_text}
use Rattle.dsedge_drive.proofs.command.release.Goals as goal

pub returns-clause-text : goal.returns-clause-text
returns-clause-text g c =
    let b = c.args.shop.now in
    outcome_text c.push_outcome.result c.args.in_json b c.release-done.new.self c.book.result.now (Release c.args.id c.args.at) (done_said c.args.in_json (codes "released") c.args.id) (next_serial b) (release_refusal b c.args.id) c.release-done.result c.args.text.now.items c.push_outcome.new.text.items
    c.release-done.ensures.released c.release-done.ensures.unrefused c.release-done.ensures.refused c.release-done.ensures.unchanged c.book.ensures c.push_outcome.ensures.said c.push_outcome.ensures.answered

pub returns-clause-book : goal.returns-clause-book
returns-clause-book g c =
    let b = c.args.shop.now in
    outcome_book c.push_outcome.result c.args.in_json b c.release-done.new.self (Release c.args.id c.args.at) ((done_said c.args.in_json (codes "released") c.args.id) (next_serial b)) (release_refusal b c.args.id) c.release-done.result
    c.release-done.ensures.accepted c.release-done.ensures.unrefused c.release-done.ensures.refused c.release-done.ensures.unchanged c.push_outcome.ensures.answered

pub returns-clause-grown : goal.returns-clause-grown
returns-clause-grown g c =
    grown-done c.release-done.result c.args.shop.now c.release-done.new.self (Release c.args.id c.args.at) c.release-done.ensures.accepted c.release-done.ensures.unrefused c.release-done.ensures.unchanged
