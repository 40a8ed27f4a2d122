use Rattle.std.proofs.Common.{arith}
use Rattle.ds_broker.specs.Histories.{standing_of}
use Rattle.ds_broker.specs.Timelines.{past_of}
use Rattle.ds_broker.proofs.CoveredLaws.{table-by_now}
use Rattle.ds_broker.proofs.PastLaws.{past-kept}
use Rattle.ds_broker.proofs.laws.what_is_reserved_is_what_is_held.Goals as goal

pub returns : goal.returns
returns c b moment late =
    let past = past-kept b.domain b.history in
    table-by_now b.domain (standing_of b.history) (past_of b.domain b.history) moment past (omega (arith, past.newest, late))
