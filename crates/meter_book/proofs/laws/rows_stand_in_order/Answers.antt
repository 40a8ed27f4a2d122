use Rattle.meter_book.proofs.RowLaws.{replay_in_order}
use Rattle.meter_book.proofs.laws.rows_stand_in_order.Goals as goal

pub returns : goal.returns
returns c = replay_in_order
