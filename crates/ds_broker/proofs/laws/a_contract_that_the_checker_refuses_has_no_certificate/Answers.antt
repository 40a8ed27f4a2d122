use Rattle.ds_broker.proofs.HopelessLaws.{hopeless}
use Rattle.ds_broker.proofs.laws.a_contract_that_the_checker_refuses_has_no_certificate.Goals as goal

pub returns : goal.returns
returns c b contract refusal is rows met = hopeless b contract refusal is rows met
