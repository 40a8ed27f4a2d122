use Rattle.meter_book.proofs.RunningLaws.{stands_as_book}
use Rattle.meter_book.proofs.laws.running_meters_stand_as_books.Goals as goal

pub returns : goal.returns
returns c = stands_as_book
