use Rattle.meter_book.proofs.KeepingLaws.{green_stays_green-any, green_stays_green-at}
use Rattle.meter_book.proofs.laws.green_stays_green.Goals as goal

pub returns-clause-throughout : goal.returns-clause-throughout
returns-clause-throughout c = green_stays_green-any

pub returns-clause-at_moment : goal.returns-clause-at_moment
returns-clause-at_moment c = green_stays_green-at
