use Rattle.std.proofs.Common.{◌≡◌, false, is_none, sym, ap, ◌∙◌}
use Rattle.ds_domain_base.specs.Domains.{Domain}
use Rattle.ds_certificate.specs.Bounds.{fits}
use Rattle.ds_checker.specs.Acceptance.{IsAcceptable}
use Rattle.ds_checker.specs.Besides.{rest_of}
use Rattle.ds_checker.proofs.BesideLaws.{rest-acceptable, rest-domain}
use Rattle.ds_quotes.proofs.QuoteLaws.{quoted-none, unfit}
use Rattle.ds_quotes.proofs.quote.quoted_without.Goals as goal

pub returns-in-Err-clause-value : goal.returns-in-Err-clause-value
returns-in-Err-clause-value c =
    let t = rest_of c.args.accepted.now c.args.left_out in
    let own : IsAcceptable t = rest-acceptable c.args.accepted.now c.args.left_out c.requires c.domain.ensures.acceptable in
    let unfits : fits t.domain c.args.contract.now ≡ false =
    ap (λ (d : Domain). fits d c.args.contract.now) (rest-domain c.args.accepted.now c.args.left_out ∙ sym c.domain.ensures.value) ∙ ap is_none c.in-Err.ensures in
    (quoted-none t c.args.contract.now c.args.field (unfit t c.args.contract.now c.args.field own unfits), c.unfit_refusal.ensures.value)
