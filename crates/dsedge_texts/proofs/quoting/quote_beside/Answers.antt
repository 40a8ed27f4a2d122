use Rattle.std.proofs.Common.{rules, ◌≡◌, IfOk, IsSome, None, Some}
use Rattle.ds_checker.specs.Acceptance.{refusal_of}
use Rattle.ds_quotes.specs.Quotes.{least_terms, with_least}
use Rattle.dsedge_texts.specs.Quotation.{said_in}
use Rattle.dsedge_texts.specs.Quoted.{quote_none}
use Rattle.dsedge_texts.proofs.QuoteLemmas.{quote-none, quote-over, said-ok, said-one}
use Rattle.dsedge_texts.proofs.quoting.quote_beside.Goals as goal

pub returns-in-Ok-clause-ok : goal.returns-in-Ok-clause-ok
returns-in-Ok-clause-ok c =
    let is_terms : least_terms c.args.field c.args.contract.terms ≡ Some c.in-Some.terms = search rules in
    let unrefused : refusal_of (with_least c.args.domain c.args.others.items) ≡ None = search rules in
    let same : c.in-Ok.accepted ≡ with_least c.args.domain c.args.others.items = search rules in
    let e = quote-over c.args.domain c.args.others.items c.args.place c.args.contract c.args.field c.in-Some.terms c.in-Ok.accepted is_terms unrefused same in
    said-one c.quote_over.result _ _ e (rw c.contract-in-Ok.ensures at c.quote_over.ensures)

pub returns-in-Err-Some-clause-ok : goal.returns-in-Err-Some-clause-ok
returns-in-Err-Some-clause-ok c =
    let is_terms : least_terms c.args.field c.args.contract.terms ≡ Some c.in-Some.terms = search rules in
    let refused : IsSome (refusal_of (with_least c.args.domain c.args.others.items)) = search rules in
    let e = quote-none c.args.domain c.args.others.items c.args.place c.args.contract c.args.field c.in-Some.terms is_terms refused in
    let told : IfOk c.none_of.result (λ quoted. quote_none c.args.domain c.args.others.items c.args.place c.args.contract c.in-Some.terms ≡ said_in quoted) = search rules in
    said-ok c.none_of.result (quote_none c.args.domain c.args.others.items c.args.place c.args.contract c.in-Some.terms) _ e told
