-- What leaves a meter of any kind: by cases of its kind.
use Rattle.std.specs.Prelude.{ℕ, ◌≡◌, List, refl}
use Rattle.moment_core.specs.declared.colour.Mode.{Mode}
use Rattle.moment_core.specs.declared.colour.Mode.TheVariants.{Aware}
use Rattle.moment_core.specs.declared.column.Column.{Column}
use Rattle.moment_core.specs.declared.column.Column.TheVariants as columns
use Rattle.moment_core.specs.Colours.{IsNoBetter, output}
use Rattle.moment_core.specs.Columns.{counts}
use Rattle.moment_core.specs.declared.bucket.Levels.{Levels}
use Rattle.moment_core.specs.Metering.{Offer, Rules, State, after, departures, how, used}
use Rattle.moment_core.proofs.OutputLaws.{departures-same, never_improves, newest-after}
use Rattle.envelope_core.specs.Curve.{KeepsCurve}
use Rattle.srtcm_core.specs.SingleRate.{single_rate}
use Rattle.srtcm_core.specs.Sizes as single_rate_sizes
use Rattle.srtcm_core.specs.declared.parameters.SrTcmParameters.{SrTcmParameters}
use Rattle.srtcm_core.proofs.OutputLaws as single_rates
use Rattle.trtcm_core.specs.TwoRate.{two_rate}
use Rattle.trtcm_core.specs.declared.meter.Levels as two_rate_levels
use Rattle.trtcm_core.specs.Sizes as two_rate_sizes
use Rattle.trtcm_core.specs.declared.parameters.TrTcmParameters.{TrTcmParameters}
use Rattle.trtcm_core.proofs.OutputLaws as two_rates
use Rattle.rfc4115_core.specs.SeparateRates.{separate_rates}
use Rattle.rfc4115_core.specs.Sizes as separate_rates_sizes
use Rattle.rfc4115_core.specs.declared.parameters.Rfc4115Parameters.{Rfc4115Parameters}
use Rattle.rfc4115_core.proofs.OutputLaws as excess_rates
use Rattle.meter_book_base.specs.declared.any_meter.AnyMeter.{AnyMeter}
use Rattle.meter_book_base.specs.declared.any_meter.AnyMeter.TheVariants as meters
use Rattle.meter_book_base.specs.declared.any_meter.Parameters.{Parameters}
use Rattle.meter_book_base.specs.declared.any_meter.Parameters.TheVariants as parameters
use Rattle.meter_book_base.specs.AnyMeter.{after_any, how_any, left_of, newest_of, opening_of}
use Rattle.meter_book_base.specs.Envelopes.{IsFit, mode_of, output_in, parameters_of}

-- a meter of a kind has the departures of that kind
pub departures_of_single_rate : (m : State SrTcmParameters Levels) (offers : List Offer)
    → departures how_any (meters.SrTcm m) offers ≡ departures (how single_rate) m offers
departures_of_single_rate m offers =
    departures-same (λ s. meters.SrTcm s) (how single_rate) how_any (λ s. refl) (λ s o. refl) (λ s o. refl) m offers

pub departures_of_two_rate : (m : State TrTcmParameters two_rate_levels.Levels) (offers : List Offer)
    → departures how_any (meters.TrTcm m) offers ≡ departures (how two_rate) m offers
departures_of_two_rate m offers =
    departures-same (λ s. meters.TrTcm s) (how two_rate) how_any (λ s. refl) (λ s o. refl) (λ s o. refl) m offers

pub departures_of_separate_rates : (m : State Rfc4115Parameters Levels) (offers : List Offer)
    → departures how_any (meters.Rfc4115 m) offers ≡ departures (how separate_rates) m offers
departures_of_separate_rates m offers =
    departures-same (λ s. meters.Rfc4115 s) (how separate_rates) how_any (λ s. refl) (λ s o. refl) (λ s o. refl) m
    offers

-- an aware meter never improves a colour
pub never_improves-any : (m : AnyMeter) (o : Offer) → mode_of m ≡ Aware → IsNoBetter o.came (left_of m o)
never_improves-any (meters.SrTcm m) o aware = never_improves single_rate single_rates.no_better m o aware
never_improves-any (meters.TrTcm m) o aware = never_improves two_rate two_rates.no_better m o aware
never_improves-any (meters.Rfc4115 m) o aware = never_improves separate_rates excess_rates.no_better m o aware

-- what leaves a meter of a kind with a colour of a column keeps the envelope of that column
pub single_rate_keeps : (m : State SrTcmParameters Levels) → single_rate_sizes.IsWithinSizes m
    → (offers : List Offer) (column : Column)
    → KeepsCurve (output_in column (parameters.SrTcm m.parameters))
    (output (counts column) (departures (how single_rate) m offers))
single_rate_keeps m fit offers columns.Green = single_rates.green_keeps m fit offers
single_rate_keeps m fit offers columns.All = single_rates.in_profile_keeps m fit offers
single_rate_keeps m fit offers columns.Excess = single_rates.yellow_keeps m fit offers

pub two_rate_keeps : (m : State TrTcmParameters two_rate_levels.Levels) → two_rate_sizes.IsWithinSizes m
    → (offers : List Offer) (column : Column)
    → KeepsCurve (output_in column (parameters.TrTcm m.parameters))
    (output (counts column) (departures (how two_rate) m offers))
two_rate_keeps m fit offers columns.Green = two_rates.green_keeps m fit offers
two_rate_keeps m fit offers columns.All = two_rates.in_profile_keeps m fit offers
two_rate_keeps m fit offers columns.Excess = two_rates.yellow_keeps m fit offers

pub separate_rates_keep : (m : State Rfc4115Parameters Levels) → separate_rates_sizes.IsWithinSizes m
    → (offers : List Offer) (column : Column)
    → KeepsCurve (output_in column (parameters.Rfc4115 m.parameters))
    (output (counts column) (departures (how separate_rates) m offers))
separate_rates_keep m fit offers columns.Green = excess_rates.green_keeps m fit offers
separate_rates_keep m fit offers columns.All = excess_rates.in_profile_keeps m fit offers
separate_rates_keep m fit offers columns.Excess = excess_rates.yellow_keeps m fit offers

-- and so does what leaves a meter of any kind
pub output_keeps-any : (m : AnyMeter) → IsFit m → (offers : List Offer) (column : Column)
    → KeepsCurve (output_in column (parameters_of m)) (output (counts column) (departures how_any m offers))
output_keeps-any (meters.SrTcm m) fit offers column =
    rw (departures_of_single_rate m offers) (single_rate_keeps m fit offers column)
output_keeps-any (meters.TrTcm m) fit offers column =
    rw (departures_of_two_rate m offers) (two_rate_keeps m fit offers column)
output_keeps-any (meters.Rfc4115 m) fit offers column =
    rw (departures_of_separate_rates m offers) (separate_rates_keep m fit offers column)

-- a meter that opens fits
pub IsFit-opening : (p : Parameters) (mode : Mode) (origin : ℕ) → IsFit (opening_of p mode origin)
IsFit-opening (parameters.SrTcm p) mode origin = single_rates.IsWithinSizes-opening p mode origin
IsFit-opening (parameters.TrTcm p) mode origin = two_rates.IsWithinSizes-opening p mode origin
IsFit-opening (parameters.Rfc4115 p) mode origin = excess_rates.IsWithinSizes-opening p mode origin

-- and fits after each packet
pub IsFit-after : (m : AnyMeter) (o : Offer) → IsFit m → IsFit (after_any m o)
IsFit-after (meters.SrTcm m) o fit = single_rates.IsWithinSizes-after m o fit
IsFit-after (meters.TrTcm m) o fit = two_rates.IsWithinSizes-after m o fit
IsFit-after (meters.Rfc4115 m) o fit = excess_rates.IsWithinSizes-after m o fit

-- a meter moves on to the moment that it meters at
pub goes_on_by : {P L : Type 0} (rules : Rules P L) (m : State P L) (o : Offer) → (after rules m o).newest
    ≡ used m.newest o.moment
goes_on_by rules m o = newest-after rules m o

pub goes_on-any : (m : AnyMeter) (o : Offer) → newest_of (after_any m o) ≡ used (newest_of m) o.moment
goes_on-any (meters.SrTcm m) o = newest-after single_rate m o
goes_on-any (meters.TrTcm m) o = newest-after two_rate m o
goes_on-any (meters.Rfc4115 m) o = newest-after separate_rates m o

-- and keeps its mode and its parameters
pub stays_itself_by : {P L : Type 0} (rules : Rules P L) (of_kind : P → Parameters) (m : State P L) (o : Offer)
    → ((after rules m o).mode ≡ m.mode) × (of_kind (after rules m o).parameters ≡ of_kind m.parameters)
unfolding after
stays_itself_by rules of_kind m o = (refl, refl)

pub stays_itself-any : (m : AnyMeter) (o : Offer) → (mode_of (after_any m o) ≡ mode_of m)
    × (parameters_of (after_any m o) ≡ parameters_of m)
stays_itself-any (meters.SrTcm m) o = stays_itself_by single_rate (λ p. parameters.SrTcm p) m o
stays_itself-any (meters.TrTcm m) o = stays_itself_by two_rate (λ p. parameters.TrTcm p) m o
stays_itself-any (meters.Rfc4115 m) o = stays_itself_by separate_rates (λ p. parameters.Rfc4115 p) m o
