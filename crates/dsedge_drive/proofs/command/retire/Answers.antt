use Rattle.std.proofs.Common.{codes}
use Rattle.ds_broker.specs.Entries.{next_serial}
use Rattle.ds_broker.specs.Refusals.{retire_refusal}
use Rattle.ds_broker.specs.declared.command.Command.TheVariants.{Retire}
use Rattle.dsedge_sold.specs.Said.{done_said}
use Rattle.dsedge_drive.proofs.KeepLaws.{grown-done}
use Rattle.dsedge_drive.proofs.SaidLaws.{outcome_book, outcome_text}
use Rattle.dsedge_drive.proofs.command.retire.Goals as goal

pub returns-clause-text : goal.returns-clause-text
returns-clause-text g c =
    let b = c.args.shop.now in
    outcome_text c.push_outcome.result c.args.in_json b c.retire-done.new.self c.book.result.now (Retire c.args.id c.args.moment) (done_said c.args.in_json (codes "retired") c.args.id) (next_serial b) (retire_refusal b c.args.id c.args.moment) c.retire-done.result c.args.text.now.items c.push_outcome.new.text.items
    c.retire-done.ensures.retired c.retire-done.ensures.unrefused c.retire-done.ensures.refused c.retire-done.ensures.unchanged c.book.ensures c.push_outcome.ensures.said c.push_outcome.ensures.answered

pub returns-clause-book : goal.returns-clause-book
returns-clause-book g c =
    let b = c.args.shop.now in
    outcome_book c.push_outcome.result c.args.in_json b c.retire-done.new.self (Retire c.args.id c.args.moment) ((done_said c.args.in_json (codes "retired") c.args.id) (next_serial b)) (retire_refusal b c.args.id c.args.moment) c.retire-done.result
    c.retire-done.ensures.accepted c.retire-done.ensures.unrefused c.retire-done.ensures.refused c.retire-done.ensures.unchanged c.push_outcome.ensures.answered

pub returns-clause-grown : goal.returns-clause-grown
returns-clause-grown g c =
    grown-done c.retire-done.result c.args.shop.now c.retire-done.new.self (Retire c.args.id c.args.moment) c.retire-done.ensures.accepted c.retire-done.ensures.unrefused c.retire-done.ensures.unchanged
