use Rattle.meter_book.proofs.RunningLaws.{colours_as_book}
use Rattle.meter_book.proofs.laws.running_meters_colour_as_books.Goals as goal

pub returns : goal.returns
returns c = colours_as_book
