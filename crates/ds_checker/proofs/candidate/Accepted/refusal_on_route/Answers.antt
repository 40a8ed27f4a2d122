use Rattle.std.proofs.Common.{◌≡◌, subst}
use Rattle.ds_certificate.specs.Bounds.{least_of}
use Rattle.ds_checker.specs.Acceptance.{refusal_of}
use Rattle.ds_checker.specs.Besides.{Offer}
use Rattle.ds_checker.specs.Changes.{lasting, on_terms, with_contract}
use Rattle.ds_checker.proofs.candidate.Accepted.refusal_on_route.Goals as goal

pub returns-clause-value : goal.returns-clause-value
returns-clause-value c lifetime =
    subst (λ (o : Offer). c.refusal_on.result ≡ refusal_of (with_contract o.table (lasting lifetime (on_terms c.args.terms.now o.contract))
    (least_of o.table.domain (lasting lifetime (on_terms c.args.terms.now o.contract))))) c.beside.ensures (c.refusal_on.ensures.value lifetime)
