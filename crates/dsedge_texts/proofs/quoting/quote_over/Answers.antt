use Rattle.std.proofs.Common.{sym}
use Rattle.dsedge_texts.proofs.QuoteLemmas.{quote-nothing, quote-value}
use Rattle.dsedge_texts.proofs.quoting.quote_over.Goals as goal

pub returns-in-Ok : goal.returns-in-Ok
returns-in-Ok c = quote-value c.args.accepted.now c.args.contract.now c.args.field _ (sym c.in-Ok.ensures.value)

pub returns-in-Err : goal.returns-in-Err
returns-in-Err c =
    let found = c.in-Err.ensures.value in
    quote-nothing c.args.accepted.now c.args.contract.now c.args.field c.new.result.items c.in-Err.refusal found.0 found.1 c.in-Err.ensures.nameless
