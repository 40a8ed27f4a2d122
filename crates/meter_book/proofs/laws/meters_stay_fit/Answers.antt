use Rattle.meter_book.proofs.RowLaws.{IsFit-meter_after}
use Rattle.meter_book.proofs.laws.meters_stay_fit.Goals as goal

pub returns : goal.returns
returns c = IsFit-meter_after
