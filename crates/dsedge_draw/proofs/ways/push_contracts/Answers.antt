use Rattle.std.proofs.Common.{arith, ◌∙◌, drop, sym}
use Rattle.std.proofs.lemmas.List.{drop_all}
use Rattle.dsedge_draw.specs.Ways.{source_text, way_text}
use Rattle.dsedge_draw.proofs.DrawLemmas.{ways_ended, ways_next, ways_pieces}
use Rattle.dsedge_draw.proofs.ways.push_contracts.Goals as goal

pub loop-number-preserved : goal.loop-number-preserved
loop-number-preserved c =
    let contracts = c.args.contracts.now in
    let number = c.loop-number.number in
    ways_pieces c.loop-number.text.items (source_text c.colour_of-colour.result.now c.contract-contract.result.now) (way_text c.colour_of-colour.result.now c.contract-contract.result.now)
    c.push_source.new.text.items c.push_way.new.text.items _ c.in_ok-push_source.ensures c.in_ok-push_way.ensures
    ∙ ways_next c.loop-number.text.items c.colour_of-colour.result.now number contracts c.contract-contract.result.now c.loop-number-test.true (rw c.contract-contract.ensures c.index-contracts-number.is) c.colour_of-colour.ensures
    ∙ c.loop-number.invariant

pub returns : goal.returns
returns c =
    sym (ways_ended c.loop-number.text.items c.loop-number.number (drop c.loop-number.number c.args.contracts.now) (drop_all c.loop-number.number c.args.contracts.now c.loop-number-test.false))
    ∙ c.loop-number.invariant
