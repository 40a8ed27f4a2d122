use Rattle.std.proofs.Common.{◌≡◌, ◌∙◌}
use Rattle.moment_core.specs.declared.colour.Mode.TheVariants.{Aware}
use Rattle.meter_book.proofs.MeterLaws.{departures_never_improve}
use Rattle.meter_book.proofs.laws.aware_meters_never_improve.Goals as goal

pub returns : goal.returns
returns g c =
    let laws = g.met.M.Meter in
    departures_never_improve g.M.Meter.how (λ m. g.M.Meter.mode_of m ≡ Aware) laws.never_improves (λ m o aware. (laws.stays_itself m o).0 ∙ aware)
