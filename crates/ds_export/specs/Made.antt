-- What a device makes of the parameters of a meter.
use Rattle.std.specs.Prelude.{ℕ, Option, None, Some, Result, Ok, Err, codes, List, is_none, nat_eq, if◌then◌else◌}
use Rattle.srtcm_core.specs.declared.parameters.SrTcmParameters.{SrTcmParameters}
use Rattle.trtcm_core.specs.declared.parameters.TrTcmParameters.{TrTcmParameters}
use Rattle.rfc4115_core.specs.declared.parameters.Rfc4115Parameters.{Rfc4115Parameters}
use Rattle.meter_book_base.specs.AnyMeter.{fault_of}
use Rattle.ds_domain_base.specs.Parameters.{Parameters}
use Rattle.ds_domain_base.specs.Parameters.TheVariants.{SrTcm, TrTcm, Rfc4115}
use Rattle.ds_quotes.specs.Words.{field_text}
use Rattle.ds_quotes.specs.declared.field.Field.TheVariants as fields
use Rattle.device_core.specs.Devices.{made_burst, made_rate}
use Rattle.device_core.specs.declared.device.Device.{Device}
use Rattle.device_core.specs.declared.device.Device.TheVariants.{Police, RteMeter}
use Rattle.ds_export.specs.declared.making.Unmade.{Unmade}
use Rattle.ds_export.specs.declared.making.Unmade.TheVariants.{Burst, Kind}

-- the word of what cannot be made
abbrev pub unmade_text : Unmade → List ℕ
unmade_text Kind = codes "kind"
unmade_text (Burst field) = field_text field

-- parameters that the standard of their kind does not refuse
abbrev pub if_sound : Parameters → Result Parameters Unmade
if_sound p = if is_none (fault_of p) then Ok p else Err Kind

-- a bucket of a single-rate meter may be none (RFC 2697 section 2)
abbrev pub made_or_none : Device → ℕ → ℕ → Option ℕ
made_or_none device rate burst = if nat_eq burst 0 then Some 0 else made_burst device rate burst

-- the parameters of a single-rate meter, by what becomes of its bursts
abbrev pub single_rate_by : Device → SrTcmParameters → Option ℕ → Option ℕ → Result Parameters Unmade
single_rate_by device p (Some cbs) (Some ebs) =
    if_sound (SrTcm (record {
      committed_rate = made_rate device p.committed_rate;
      committed_burst = cbs;
      excess_burst = ebs;
    }))
single_rate_by device p None ebs = Err (Burst fields.CommittedBurst)
single_rate_by device p (Some cbs) None = Err (Burst fields.ExcessBurst)

abbrev pub single_rate_on : Device → SrTcmParameters → Result Parameters Unmade
single_rate_on device p =
    single_rate_by device p (made_or_none device p.committed_rate p.committed_burst)
    (made_or_none device p.committed_rate p.excess_burst)

-- those of a two-rate meter
abbrev pub two_rate_by : Device → TrTcmParameters → Option ℕ → Option ℕ → Result Parameters Unmade
two_rate_by device p (Some cbs) (Some pbs) = if_sound (TrTcm (record {
  committed_rate = made_rate device p.committed_rate;
  committed_burst = cbs;
  peak_rate = made_rate device p.peak_rate;
  peak_burst = pbs;
}))
two_rate_by device p None pbs = Err (Burst fields.CommittedBurst)
two_rate_by device p (Some cbs) None = Err (Burst fields.PeakBurst)

abbrev pub two_rate_on : Device → TrTcmParameters → Result Parameters Unmade
two_rate_on device p =
    two_rate_by device p (made_burst device p.committed_rate p.committed_burst)
    (made_burst device p.peak_rate p.peak_burst)

-- those of a meter of two separate rates
abbrev pub separate_rates_by : Device → Rfc4115Parameters → Option ℕ → Option ℕ → Result Parameters Unmade
separate_rates_by device p (Some cbs) (Some ebs) = if_sound (Rfc4115 (record {
  committed_rate = made_rate device p.committed_rate;
  committed_burst = cbs;
  excess_rate = made_rate device p.excess_rate;
  excess_burst = ebs;
}))
separate_rates_by device p None ebs = Err (Burst fields.CommittedBurst)
separate_rates_by device p (Some cbs) None = Err (Burst fields.ExcessBurst)

abbrev pub separate_rates_on : Device → Rfc4115Parameters → Result Parameters Unmade
separate_rates_on device p =
    separate_rates_by device p (made_burst device p.committed_rate p.committed_burst)
    (made_burst device p.excess_rate p.excess_burst)

-- The parameters of the meter that a device makes of some. Policers have no bucket that another one fills, so they make
-- no single-rate meter.
abbrev pub made_parameters : Device → Parameters → Result Parameters Unmade
made_parameters Police (SrTcm p) = Err Kind
made_parameters RteMeter (SrTcm p) = single_rate_on RteMeter p
made_parameters device (TrTcm p) = two_rate_on device p
made_parameters device (Rfc4115 p) = separate_rates_on device p
