use Rattle.std.proofs.Common.{subst}
use Rattle.ds_broker.specs.Requests.{AreUnrefused}
use Rattle.ds_broker.proofs.CoveredLaws.{covered-behind}
use Rattle.ds_broker.proofs.laws.what_was_granted_is_covered.Goals as goal

pub returns : goal.returns
returns c b accepted none unrefused =
    covered-behind b.domain b.limits accepted (subst (λ history. AreUnrefused (record b { history = history }) accepted) none unrefused)
