use Rattle.meter_book.proofs.laws.meters_keep_envelopes.Goals as goal

pub returns : goal.returns
returns g c = λ m offers column fit. g.met.M.Meter.output_keeps m fit offers column
