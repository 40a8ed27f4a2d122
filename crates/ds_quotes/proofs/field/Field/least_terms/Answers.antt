use Rattle.std.proofs.Common.{sym, ◌∙◌}
use Rattle.ds_quotes.proofs.QuoteLaws.{least-is}
use Rattle.ds_quotes.proofs.field.Field.least_terms.Goals as goal

pub returns : goal.returns
returns c =
    let values = c.in_ok-values in
    c.terms_with.ensures ∙ sym (least-is c.args.self c.args.terms.now values.values.least values.values.most values.ensures.some values.ensures.within)
