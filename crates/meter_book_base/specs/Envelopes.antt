-- The envelopes that what leaves a meter keeps (Cruz 1991, section II), and the states that a meter can be in.
use Rattle.std.specs.Prelude.{◌+◌}
use Rattle.moment_core.specs.declared.colour.Mode.{Mode}
use Rattle.moment_core.specs.declared.column.Column.{Column}
use Rattle.moment_core.specs.declared.column.Column.TheVariants.{Green, All, Excess}
use Rattle.envelope_core.specs.Curve.{Curve}
use Rattle.srtcm_core.specs.Sizes as single_rates
use Rattle.trtcm_core.specs.Sizes as two_rates
use Rattle.rfc4115_core.specs.Sizes as excess_rates
use Rattle.meter_book_base.specs.declared.any_meter.AnyMeter.{AnyMeter}
use Rattle.meter_book_base.specs.declared.any_meter.AnyMeter.TheVariants as meters
use Rattle.meter_book_base.specs.declared.any_meter.Parameters.{Parameters}
use Rattle.meter_book_base.specs.declared.any_meter.Parameters.TheVariants.{SrTcm, TrTcm, Rfc4115}

-- Tokens come whole, and a window can begin just before one: so each rate that fills a bucket adds a byte to its burst.

-- what leaves a meter with these parameters green (RFC 2697 section 3, RFC 2698 section 3, RFC 4115)
abbrev pub green_output : Parameters → Curve
green_output (SrTcm p) = record { rate = p.committed_rate; burst = p.committed_burst + 1 }
green_output (TrTcm p) = record { rate = p.committed_rate; burst = p.committed_burst + 1 }
green_output (Rfc4115 p) = record { rate = p.committed_rate; burst = p.committed_burst + 1 }

-- what leaves it green or yellow: from two buckets that one rate fills (RFC 2697 section 3), from the peak bucket
-- (RFC 2698 section 3), or from two buckets, each with its own rate (RFC 4115)
abbrev pub all_output : Parameters → Curve
all_output (SrTcm p) = record { rate = p.committed_rate; burst = p.committed_burst + p.excess_burst + 1 }
all_output (TrTcm p) = record { rate = p.peak_rate; burst = p.peak_burst + 1 }
all_output (Rfc4115 p) =
    record { rate = p.committed_rate + p.excess_rate; burst = p.committed_burst + p.excess_burst + 2 }

-- what leaves it yellow: from the excess bucket, which the committed rate fills (RFC 2697 section 3), from the peak
-- bucket (RFC 2698 section 3), or from the excess bucket, which the excess rate fills (RFC 4115)
abbrev pub excess_output : Parameters → Curve
excess_output (SrTcm p) = record { rate = p.committed_rate; burst = p.excess_burst + 1 }
excess_output (TrTcm p) = record { rate = p.peak_rate; burst = p.peak_burst + 1 }
excess_output (Rfc4115 p) = record { rate = p.excess_rate; burst = p.excess_burst + 1 }

-- what leaves it with a colour that a column speaks of
abbrev pub output_in : Column → Parameters → Curve
output_in Green = green_output
output_in All = all_output
output_in Excess = excess_output

-- a meter of any kind: its parameters and its mode
abbrev pub parameters_of : AnyMeter → Parameters
parameters_of (meters.SrTcm m) = SrTcm m.parameters
parameters_of (meters.TrTcm m) = TrTcm m.parameters
parameters_of (meters.Rfc4115 m) = Rfc4115 m.parameters

abbrev pub mode_of : AnyMeter → Mode
mode_of (meters.SrTcm m) = m.mode
mode_of (meters.TrTcm m) = m.mode
mode_of (meters.Rfc4115 m) = m.mode

-- each bucket of a meter holds no more than its own size
abbrev pub IsFit : AnyMeter → Type 0
IsFit (meters.SrTcm m) = single_rates.IsWithinSizes m
IsFit (meters.TrTcm m) = two_rates.IsWithinSizes m
IsFit (meters.Rfc4115 m) = excess_rates.IsWithinSizes m
