use Rattle.std.proofs.Common.{subst}
use Rattle.ds_certificate.specs.Rates.{HasRates}
use Rattle.ds_broker.proofs.RatedLaws.{rates-begun}
use Rattle.ds_broker.proofs.book.past.Past.grant.Goals as goal

-- when it begins does not matter
pub returns-clause-rated : goal.returns-clause-rated
returns-clause-rated c =
    rates-begun c.args.domain.now _ c.args.contract.now (subst (HasRates c.args.domain.now) c.in_ok-contract.ensures c.in_ok-reservation.ensures.rated)
