-- The rates and bursts of a contract's terms, and which other values each may have.
use Rattle.std.specs.Prelude.{◌≡◌, ℕ, ◌^◌, ◌≤◌, ◌&&◌, Bool, true, nat_le, nat_lt, is_none, is_some, option_and_then, option_map, Option, None, Some, if◌then◌else◌}
use Rattle.moment_core.specs.declared.colour.Mode.{Mode}
use Rattle.srtcm_core.specs.declared.parameters.SrTcmParameters.{SrTcmParameters}
use Rattle.trtcm_core.specs.declared.parameters.TrTcmParameters.{TrTcmParameters}
use Rattle.rfc4115_core.specs.declared.parameters.Rfc4115Parameters.{Rfc4115Parameters}
use Rattle.meter_book_base.specs.AnyMeter.{fault_of}
use Rattle.ds_domain_base.specs.Parameters.{Parameters}
use Rattle.ds_domain_base.specs.Parameters.TheVariants.{SrTcm, TrTcm, Rfc4115}
use Rattle.ds_domain_base.specs.declared.terms.Peak.{Peak}
use Rattle.ds_domain_base.specs.declared.terms.Profile.{Profile}
use Rattle.ds_domain_base.specs.declared.terms.Terms.{Terms}
use Rattle.ds_domain_base.specs.declared.terms.Terms.TheVariants.{Trusted, Policed}
use Rattle.ds_quotes.specs.declared.field.Field.{Field}
use Rattle.ds_quotes.specs.declared.field.Field.TheVariants as fields

-- a rate is 1 to 10^13 bits per second, and a burst at most 2^32 - 1 bytes
abbrev pub rate_of : ℕ → Option ℕ
rate_of value = if nat_le 1 value && nat_le value (10 ^ 13) then Some value else None

abbrev pub burst_of : ℕ → Option ℕ
burst_of value = if nat_lt value (2 ^ 32) then Some value else None

-- a profile with another rate, and with another burst
abbrev pub with_rate : ℕ → Profile → Option Profile
with_rate value p = option_map (λ rate. record p { rate = rate }) (rate_of value)

abbrev pub with_burst : ℕ → Profile → Option Profile
with_burst value p = option_map (λ burst. record p { burst = burst }) (burst_of value)

-- a peak with another profile of green and yellow packets, and with another one of yellow packets
abbrev pub with_profile : Peak → Option Profile → Option Peak
with_profile p changed = option_map (λ own. record p { profile = own }) changed

abbrev pub with_excess : Peak → Option Profile → Option Peak
with_excess p changed = option_map (λ own. record p { excess = Some own }) changed

-- a peak with another value of a field that it has
abbrev pub peak_with : Field → ℕ → Peak → Option Peak
peak_with fields.PeakRate value p = with_profile p (with_rate value p.profile)
peak_with fields.PeakBurst value p = with_profile p (with_burst value p.profile)
peak_with fields.ExcessRate value p = with_excess p (option_and_then (with_rate value) p.excess)
peak_with fields.ExcessBurst value p = with_excess p (option_and_then (with_burst value) p.excess)
peak_with fields.CommittedRate value p = None
peak_with fields.CommittedBurst value p = None

-- what a trusted contract keeps, with another value of a field that it has
abbrev pub trusted_with : Field → ℕ → Profile → Option Peak → Option Terms
trusted_with fields.CommittedRate value committed peak =
    option_map (λ own. Trusted own peak) (with_rate value committed)
trusted_with fields.CommittedBurst value committed peak =
    option_map (λ own. Trusted own peak) (with_burst value committed)
trusted_with field value committed peak =
    option_map (λ own. Trusted committed (Some own)) (option_and_then (peak_with field value) peak)

-- the parameters of a single-rate meter with another value of a field (RFC 2697 section 2)
abbrev pub single_rate_with : Field → ℕ → SrTcmParameters → Option SrTcmParameters
single_rate_with fields.CommittedRate value p = option_map (λ rate. record p { committed_rate = rate }) (rate_of value)
single_rate_with fields.CommittedBurst value p =
    option_map (λ burst. record p { committed_burst = burst }) (burst_of value)
single_rate_with fields.ExcessBurst value p = option_map (λ burst. record p { excess_burst = burst }) (burst_of value)
single_rate_with field value p = None

-- those of a two-rate meter (RFC 2698 section 2)
abbrev pub two_rate_with : Field → ℕ → TrTcmParameters → Option TrTcmParameters
two_rate_with fields.CommittedRate value p = option_map (λ rate. record p { committed_rate = rate }) (rate_of value)
two_rate_with fields.CommittedBurst value p = option_map (λ burst. record p { committed_burst = burst }) (burst_of value)
two_rate_with fields.PeakRate value p = option_map (λ rate. record p { peak_rate = rate }) (rate_of value)
two_rate_with fields.PeakBurst value p = option_map (λ burst. record p { peak_burst = burst }) (burst_of value)
two_rate_with field value p = None

-- those of a meter of two separate rates (RFC 4115)
abbrev pub separate_rates_with : Field → ℕ → Rfc4115Parameters → Option Rfc4115Parameters
separate_rates_with fields.CommittedRate value p =
    option_map (λ rate. record p { committed_rate = rate }) (rate_of value)
separate_rates_with fields.CommittedBurst value p =
    option_map (λ burst. record p { committed_burst = burst }) (burst_of value)
separate_rates_with fields.ExcessRate value p = option_map (λ rate. record p { excess_rate = rate }) (rate_of value)
separate_rates_with fields.ExcessBurst value p =
    option_map (λ burst. record p { excess_burst = burst }) (burst_of value)
separate_rates_with field value p = None

abbrev pub parameters_with : Field → ℕ → Parameters → Option Parameters
parameters_with field value (SrTcm p) = option_map SrTcm (single_rate_with field value p)
parameters_with field value (TrTcm p) = option_map TrTcm (two_rate_with field value p)
parameters_with field value (Rfc4115 p) = option_map Rfc4115 (separate_rates_with field value p)

-- parameters that the standard of their kind does not refuse
abbrev pub if_sound : Parameters → Option Parameters
if_sound p = if is_none (fault_of p) then Some p else None

abbrev pub policed_with : Field → ℕ → Parameters → Mode → Option Terms
policed_with field value p mode =
    option_map (λ own. Policed own mode) (option_and_then if_sound (parameters_with field value p))

-- Terms with another value of a field: none where they have no such field, where the value is not in the field's range,
-- or where the standard of the meter that polices refuses it beside the other values.
unfoldable pub terms_with : Field → ℕ → Terms → Option Terms
terms_with field value (Trusted committed peak) = trusted_with field value committed peak
terms_with field value (Policed p mode) = policed_with field value p mode

-- the values from a least to a greatest one, of which there is one, are those that a test passes
pub record AreThose (least most : ℕ) (passes : ℕ → Bool) : Type 0 where
  pub some : least ≤ most
  pub inside : (value : ℕ) → least ≤ value → value ≤ most → passes value ≡ true
  pub outside : (value : ℕ) → passes value ≡ true → (least ≤ value) × (value ≤ most)

-- the values that a field of terms may have
abbrev pub is_allowed : Field → Terms → ℕ → Bool
is_allowed field terms value = is_some (terms_with field value terms)
