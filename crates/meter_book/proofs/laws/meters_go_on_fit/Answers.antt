use Rattle.meter_book.proofs.MeterLaws.{kept-after_all}
use Rattle.meter_book.proofs.laws.meters_go_on_fit.Goals as goal

pub returns : goal.returns
returns g c = kept-after_all g.M.Meter.how g.M.Meter.fits g.met.M.Meter.stays_fit
