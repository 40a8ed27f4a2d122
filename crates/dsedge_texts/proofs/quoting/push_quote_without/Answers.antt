use Rattle.std.proofs.Common.{None, refl, sym}
use Rattle.ds_checker.specs.Besides.{rest_of}
use Rattle.dsedge_texts.proofs.QuoteLemmas.{told-none-beside}
use Rattle.dsedge_texts.proofs.quoting.push_quote_without.Goals as goal

pub returns-in_ok-push_none-in-Err-clause-text : goal.returns-in_ok-push_none-in-Err-clause-text
returns-in_ok-push_none-in-Err-clause-text c =
    let found = c.in-Err.ensures.value in
    told-none-beside (rest_of c.args.accepted.now c.args.left_out) c.args.contract.now c.args.field c.contracts.result.now c.in-Err.refusal None
    c.args.text.now.items c.push_none.new.text.items (sym found.0) refl found.1 c.in-Err.ensures.nameless c.in_ok-push_none-in-Err.ensures
