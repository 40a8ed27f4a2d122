use Rattle.std.proofs.Common.{◌≡◌, false, is_none, sym, ap, ◌∙◌}
use Rattle.ds_domain_base.specs.Domains.{Domain}
use Rattle.ds_certificate.specs.Bounds.{fits}
use Rattle.ds_checker.specs.Acceptance.{IsAcceptable}
use Rattle.ds_checker.specs.Besides.{rest_of}
use Rattle.ds_checker.proofs.BesideLaws.{rest-acceptable, rest-domain}
use Rattle.ds_quotes.proofs.QuoteLaws.{quoted-none, unfit}
use Rattle.ds_quotes.proofs.quote.greatest_without.Goals as goal

pub returns-in-Err-clause-value : goal.returns-in-Err-clause-value
returns-in-Err-clause-value c =
    let t = rest_of c.args.accepted.now c.args.left_out in
    let own : IsAcceptable t = rest-acceptable c.args.accepted.now c.args.left_out c.requires c.domain.ensures.acceptable in
    let unfits : fits t.domain c.args.contract.now ≡ false =
    ap (λ (d : Domain). fits d c.args.contract.now) (rest-domain c.args.accepted.now c.args.left_out ∙ sym c.domain.ensures.value) ∙ ap is_none c.in-Err.ensures in
    sym (quoted-none t c.args.contract.now c.args.field (unfit t c.args.contract.now c.args.field own unfits))

pub returns-in-Err-clause-none : goal.returns-in-Err-clause-none
returns-in-Err-clause-none c =
    let t = rest_of c.args.accepted.now c.args.left_out in
    let own : IsAcceptable t = rest-acceptable c.args.accepted.now c.args.left_out c.requires c.domain.ensures.acceptable in
    let unfits : fits t.domain c.args.contract.now ≡ false =
    ap (λ (d : Domain). fits d c.args.contract.now) (rest-domain c.args.accepted.now c.args.left_out ∙ sym c.domain.ensures.value) ∙ ap is_none c.in-Err.ensures in
    unfit t c.args.contract.now c.args.field own unfits
