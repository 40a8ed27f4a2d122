use Rattle.std.proofs.Common.{arith, ◌≡◌, false, is_none, sym, ap, ◌∙◌}
use Rattle.ds_domain_base.specs.Domains.{Domain}
use Rattle.ds_certificate.specs.Bounds.{fits}
use Rattle.ds_checker.specs.Acceptance.{IsAcceptable}
use Rattle.ds_checker.specs.Besides.{rest_of}
use Rattle.ds_checker.proofs.BesideLaws.{rest-acceptable, rest-domain}
use Rattle.ds_quotes.proofs.CountLaws.{count-value, none-fit}
use Rattle.ds_quotes.specs.Counts.{IsCount}
use Rattle.ds_quotes.proofs.count.count_without.Goals as goal

none : (c : goal.In-Err) → IsCount (rest_of c.args.accepted.now c.args.left_out) c.args.contract.now 0
none c =
    let t = rest_of c.args.accepted.now c.args.left_out in
    let own : IsAcceptable t = rest-acceptable c.args.accepted.now c.args.left_out c.requires c.domain-domain.ensures.acceptable in
    let unfits : fits t.domain c.args.contract.now ≡ false =
    ap (λ (d : Domain). fits d c.args.contract.now) (rest-domain c.args.accepted.now c.args.left_out ∙ sym c.domain-domain.ensures.value) ∙ ap is_none c.in-Err.ensures in
    none-fit t c.args.contract.now own unfits

pub returns-in-Err : goal.returns-in-Err
returns-in-Err c = record { count = none c; value = count-value (rest_of c.args.accepted.now c.args.left_out) c.args.contract.now 0 (none c) (omega arith) }
