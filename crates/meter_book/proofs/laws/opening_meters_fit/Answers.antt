use Rattle.meter_book_base.specs.OutputLaws.{IsFit-opening}
use Rattle.meter_book.proofs.laws.opening_meters_fit.Goals as goal

pub returns : goal.returns
returns c = IsFit-opening
