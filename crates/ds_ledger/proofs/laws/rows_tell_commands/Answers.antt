use Rattle.ds_ledger.proofs.HistoryLaws.{one_history}
use Rattle.ds_ledger.proofs.laws.rows_tell_commands.Goals as goal

pub returns : goal.returns
returns c = one_history
