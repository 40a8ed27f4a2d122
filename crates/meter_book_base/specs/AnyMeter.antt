-- Meters of any kind: each follows the rules of its own standard.
use Rattle.std.specs.Prelude.{ℕ, Option, option_map}
use Rattle.moment_core.specs.declared.colour.Colour.{Colour}
use Rattle.moment_core.specs.declared.colour.Mode.{Mode}
use Rattle.moment_core.specs.Metering.{How, Offer, after, colour_of, opening}
use Rattle.srtcm_core.specs.SingleRate.{single_rate}
use Rattle.srtcm_core.specs.SingleRate as single_rates
use Rattle.srtcm_core.specs.declared.parameters.SrTcmFault.{SrTcmFault}
use Rattle.srtcm_core.specs.declared.parameters.SrTcmFault.TheVariants as single_rate_faults
use Rattle.trtcm_core.specs.TwoRate.{two_rate}
use Rattle.trtcm_core.specs.TwoRate as two_rates
use Rattle.trtcm_core.specs.declared.parameters.TrTcmFault.{TrTcmFault}
use Rattle.trtcm_core.specs.declared.parameters.TrTcmFault.TheVariants as two_rate_faults
use Rattle.rfc4115_core.specs.SeparateRates.{separate_rates}
use Rattle.rfc4115_core.specs.SeparateRates as excess_rates
use Rattle.rfc4115_core.specs.declared.parameters.Rfc4115Fault.{Rfc4115Fault}
use Rattle.rfc4115_core.specs.declared.parameters.Rfc4115Fault.TheVariants as separate_rates_faults
use Rattle.meter_book_base.specs.declared.any_meter.AnyMeter.{AnyMeter}
use Rattle.meter_book_base.specs.declared.any_meter.AnyMeter.TheVariants as meters
use Rattle.meter_book_base.specs.declared.any_meter.BucketLevels.{BucketLevels}
use Rattle.meter_book_base.specs.declared.any_meter.Parameters.{Parameters}
use Rattle.meter_book_base.specs.declared.any_meter.Parameters.TheVariants as parameters
use Rattle.meter_book_base.specs.declared.any_meter.MeterFault.{MeterFault}
use Rattle.meter_book_base.specs.declared.any_meter.MeterFault.TheVariants.{SizeZero, PeakBelowCommitted}

-- the fault of a kind, among the faults of all kinds
abbrev pub single_rate_fault : SrTcmFault → MeterFault
single_rate_fault single_rate_faults.SizeZero = SizeZero

abbrev pub two_rate_fault : TrTcmFault → MeterFault
two_rate_fault two_rate_faults.SizeZero = SizeZero
two_rate_fault two_rate_faults.PeakBelowCommitted = PeakBelowCommitted

abbrev pub separate_rates_fault : Rfc4115Fault → MeterFault
separate_rates_fault separate_rates_faults.SizeZero = SizeZero

-- what the standard of its kind finds wrong with parameters
abbrev pub fault_of : Parameters → Option MeterFault
fault_of (parameters.SrTcm p) = option_map single_rate_fault (single_rates.fault_of p)
fault_of (parameters.TrTcm p) = option_map two_rate_fault (two_rates.fault_of p)
fault_of (parameters.Rfc4115 p) = option_map separate_rates_fault (excess_rates.fault_of p)

-- a meter with full buckets at its origin
abbrev pub opening_of : Parameters → Mode → ℕ → AnyMeter
opening_of (parameters.SrTcm p) mode origin = meters.SrTcm (opening single_rate p mode origin)
opening_of (parameters.TrTcm p) mode origin = meters.TrTcm (opening two_rate p mode origin)
opening_of (parameters.Rfc4115 p) mode origin = meters.Rfc4115 (opening separate_rates p mode origin)

abbrev pub newest_of : AnyMeter → ℕ
newest_of (meters.SrTcm m) = m.newest
newest_of (meters.TrTcm m) = m.newest
newest_of (meters.Rfc4115 m) = m.newest

-- the levels of its buckets: the committed one, and beside it the excess bucket (RFC 2697 section 3, RFC 4115) or the
-- peak bucket (RFC 2698 section 3)
abbrev pub levels_of : AnyMeter → BucketLevels
levels_of (meters.SrTcm m) = record { committed = m.levels.committed; second = m.levels.excess }
levels_of (meters.TrTcm m) = record { committed = m.levels.committed; second = m.levels.peak }
levels_of (meters.Rfc4115 m) = record { committed = m.levels.committed; second = m.levels.excess }

abbrev pub left_of : AnyMeter → Offer → Colour
left_of (meters.SrTcm m) o = colour_of single_rate m o
left_of (meters.TrTcm m) o = colour_of two_rate m o
left_of (meters.Rfc4115 m) o = colour_of separate_rates m o

abbrev pub after_any : AnyMeter → Offer → AnyMeter
after_any (meters.SrTcm m) o = meters.SrTcm (after single_rate m o)
after_any (meters.TrTcm m) o = meters.TrTcm (after two_rate m o)
after_any (meters.Rfc4115 m) o = meters.Rfc4115 (after separate_rates m o)

-- how a meter of any kind meters
abbrev pub how_any : How AnyMeter
how_any = record { newest = newest_of; left = left_of; after = after_any }
