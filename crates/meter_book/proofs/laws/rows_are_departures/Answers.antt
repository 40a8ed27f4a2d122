use Rattle.meter_book.proofs.RowLaws.{departures_of-rows_from}
use Rattle.meter_book.proofs.laws.rows_are_departures.Goals as goal

pub returns : goal.returns
returns c = λ m arrivals. departures_of-rows_from m 0 arrivals
