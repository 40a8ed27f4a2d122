use Rattle.meter_book.proofs.KeepingLaws.{yellow_stays_yellow-any, yellow_stays_yellow-at}
use Rattle.meter_book.proofs.laws.yellow_stays_yellow.Goals as goal

pub returns-clause-throughout : goal.returns-clause-throughout
returns-clause-throughout c = yellow_stays_yellow-any

pub returns-clause-at_moment : goal.returns-clause-at_moment
returns-clause-at_moment c = yellow_stays_yellow-at
