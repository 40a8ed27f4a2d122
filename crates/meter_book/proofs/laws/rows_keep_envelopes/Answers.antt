use Rattle.meter_book.proofs.RowLaws.{rows_keep}
use Rattle.meter_book.proofs.laws.rows_keep_envelopes.Goals as goal

pub returns : goal.returns
returns c = rows_keep
