use Rattle.meter_book.proofs.RowLaws.{replay_never_improves}
use Rattle.meter_book.proofs.laws.aware_rows_never_improve.Goals as goal

pub returns : goal.returns
returns c = replay_never_improves
