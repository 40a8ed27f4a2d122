use Rattle.ds_broker.specs.Entries.{grant_of}
use Rattle.ds_broker.specs.Refusals.{reserve_refusal}
use Rattle.ds_broker.specs.declared.command.Command.TheVariants.{Reserve}
use Rattle.dsedge_sold.specs.Said.{granted_said}
use Rattle.dsedge_drive.proofs.SaidLaws.{outcome_book, outcome_text}
use Rattle.dsedge_drive.proofs.KeepLaws.{grown-done}
use Rattle.dsedge_drive.proofs.command.sell.Goals as goal

pub returns-clause-text : goal.returns-clause-text
returns-clause-text g c =
    let b = c.args.shop.now in
    outcome_text c.push_sale.result c.args.in_json b c.reserve-sale.new.self c.book.result.now (Reserve c.args.contract) (granted_said c.args.in_json) (grant_of b c.args.contract) (reserve_refusal b c.args.contract) c.reserve-sale.result c.args.text.now.items c.push_sale.new.text.items
    c.reserve-sale.ensures.granted c.reserve-sale.ensures.unrefused c.reserve-sale.ensures.refused c.reserve-sale.ensures.unchanged c.book.ensures c.push_sale.ensures.said c.push_sale.ensures.answered

pub returns-clause-book : goal.returns-clause-book
returns-clause-book g c =
    let b = c.args.shop.now in
    outcome_book c.push_sale.result c.args.in_json b c.reserve-sale.new.self (Reserve c.args.contract) (granted_said c.args.in_json (grant_of b c.args.contract)) (reserve_refusal b c.args.contract) c.reserve-sale.result
    c.reserve-sale.ensures.accepted c.reserve-sale.ensures.unrefused c.reserve-sale.ensures.refused c.reserve-sale.ensures.unchanged c.push_sale.ensures.answered

pub returns-clause-grown : goal.returns-clause-grown
returns-clause-grown g c =
    grown-done c.reserve-sale.result c.args.shop.now c.reserve-sale.new.self (Reserve c.args.contract) c.reserve-sale.ensures.accepted c.reserve-sale.ensures.unrefused c.reserve-sale.ensures.unchanged
