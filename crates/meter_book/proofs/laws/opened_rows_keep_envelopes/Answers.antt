use Rattle.meter_book.proofs.RowLaws.{opened_rows_keep}
use Rattle.meter_book.proofs.laws.opened_rows_keep_envelopes.Goals as goal

pub returns : goal.returns
returns c = opened_rows_keep
