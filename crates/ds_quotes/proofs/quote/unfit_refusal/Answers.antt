use Rattle.std.proofs.Common.{◌≡◌, false, sym, ap, ◌∙◌, Option, option_and_then}
use Rattle.ds_domain_base.specs.Domains.{Domain}
use Rattle.ds_domain_base.specs.declared.terms.Terms.{Terms}
use Rattle.ds_certificate.specs.Bounds.{fits}
use Rattle.ds_checker.specs.Acceptance.{IsAcceptable, refusal_of}
use Rattle.ds_checker.specs.Besides.{rest_of}
use Rattle.ds_checker.proofs.BesideLaws.{rest-acceptable, rest-domain}
use Rattle.ds_quotes.specs.Quotes.{offered}
use Rattle.ds_quotes.proofs.QuoteLaws.{unfit-offered}
use Rattle.ds_quotes.proofs.quote.unfit_refusal.Goals as goal

pub returns-in-Some-clause-value : goal.returns-in-Some-clause-value
returns-in-Some-clause-value c =
    let t = rest_of c.args.accepted.now c.args.left_out in
    let own : IsAcceptable t = rest-acceptable c.args.accepted.now c.args.left_out c.requires.place c.domain-domain.ensures.acceptable in
    let unfits : fits t.domain c.args.contract.now ≡ false = ap (λ (d : Domain). fits d c.args.contract.now) (rest-domain c.args.accepted.now c.args.left_out) ∙ c.requires.unfit in
    unfit-offered t c.args.contract.now c.in-Some.field-0 _ own unfits c.number_without.ensures
    ∙ ap (λ (o : Option Terms). option_and_then (λ terms. refusal_of (offered t c.args.contract.now terms)) o) (sym c.in-Some.is ∙ c.least_terms.ensures)
