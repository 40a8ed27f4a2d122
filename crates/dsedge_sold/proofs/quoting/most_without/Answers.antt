use Rattle.std.proofs.Common.{sym}
use Rattle.ds_checker.specs.Besides.{rest_of}
use Rattle.dsedge_texts.proofs.QuoteLemmas.{quote-nothing, quote-value}
use Rattle.dsedge_sold.proofs.quoting.most_without.Goals as goal

pub returns-in-Ok : goal.returns-in-Ok
returns-in-Ok c =
    quote-value (rest_of c.args.accepted.now c.args.left_out) c.args.contract.now c.args.field _ (sym c.in-Ok.ensures.value)

pub returns-in-Err : goal.returns-in-Err
returns-in-Err c =
    let found = c.in-Err.ensures.value in
    quote-nothing (rest_of c.args.accepted.now c.args.left_out) c.args.contract.now c.args.field c.new.result.items c.in-Err.refusal found.0 found.1 c.in-Err.ensures.nameless
