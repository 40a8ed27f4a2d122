-- The parameters of meters, and the terms of contracts.
use Rattle.std.specs.Prelude.{Bool, ◌||◌, is_some, Option, None, Some, Result, Ok, Err, if◌then◌else◌}
use Rattle.toml.specs.Data.{Members, get_member}
use Rattle.meter_book_base.specs.declared.any_meter.MeterFault.{MeterFault}
use Rattle.meter_book_base.specs.declared.any_meter.MeterFault.TheVariants as refusals
use Rattle.meter_book_base.specs.declared.any_meter.Parameters.{Parameters}
use Rattle.meter_book_base.specs.declared.any_meter.Parameters.TheVariants as parameters
use Rattle.meter_book_base.specs.AnyMeter.{fault_of}
use Rattle.ds_domain_base.specs.Faults.{field_text}
use Rattle.ds_domain_base.specs.declared.fault.DomainFault.{DomainFault}
use Rattle.ds_domain_base.specs.declared.fault.Field.{Field}
use Rattle.ds_domain_base.specs.declared.fault.Field.TheVariants as fields
use Rattle.ds_domain_base.specs.declared.fault.Kind.TheVariants as kinds
use Rattle.ds_domain_base.specs.declared.terms.Peak.{Peak}
use Rattle.ds_domain_base.specs.declared.terms.Profile.{Profile}
use Rattle.ds_domain_base.specs.declared.terms.Terms.{Terms}
use Rattle.ds_domain_base.specs.declared.terms.Terms.TheVariants as terms
use Rattle.ds_domain_text.specs.Steps.{◌>>=◌}
use Rattle.ds_domain.specs.Keys.{burst_at, fault_here, rate_at}
use Rattle.ds_domain.specs.Kinds.{mode_at}
use Rattle.ds_domain.specs.declared.kinds.ContractKind.{ContractKind}
use Rattle.ds_domain.specs.declared.kinds.ContractKind.TheVariants.{Trusted, Policed}
use Rattle.ds_domain.specs.declared.kinds.MeterKind.{MeterKind}
use Rattle.ds_domain.specs.declared.kinds.MeterKind.TheVariants.{SrTcm, TrTcm, Rfc4115}
use Rattle.ds_domain.specs.declared.place.Place.{Place}
use Rattle.ds_domain.specs.declared.terms.Claim.{Claim}
use Rattle.ds_domain.specs.declared.terms.Claim.TheVariants as claims

-- the parameters of a meter of a kind, key by key
unfoldable pub parameters_at : Place → MeterKind → Members → Result Parameters DomainFault
parameters_at place SrTcm members = do
  cir ← rate_at place fields.Cir members
  cbs ← burst_at place fields.Cbs members
  ebs ← burst_at place fields.Ebs members
  Ok (parameters.SrTcm (record { committed_rate = cir; committed_burst = cbs; excess_burst = ebs }))
parameters_at place TrTcm members = do
  cir ← rate_at place fields.Cir members
  cbs ← burst_at place fields.Cbs members
  pir ← rate_at place fields.Pir members
  pbs ← burst_at place fields.Pbs members
  Ok (parameters.TrTcm (record { committed_rate = cir; committed_burst = cbs; peak_rate = pir; peak_burst = pbs }))
parameters_at place Rfc4115 members = do
  cir ← rate_at place fields.Cir members
  cbs ← burst_at place fields.Cbs members
  eir ← rate_at place fields.Eir members
  ebs ← burst_at place fields.Ebs members
  Ok (parameters.Rfc4115
      (record { committed_rate = cir; committed_burst = cbs; excess_rate = eir; excess_burst = ebs }))

-- the field that is named where the meter's standard refuses parameters
abbrev pub refused_field : MeterFault → Field
refused_field refusals.SizeZero = fields.Cbs
refused_field refusals.PeakBelowCommitted = fields.Pir

-- parameters that the meter's standard does not refuse
abbrev pub unless_refused : Place → Parameters → Option MeterFault → Result Parameters DomainFault
unless_refused place p None = Ok p
unless_refused place p (Some refusal) = Err (fault_here place kinds.Range (refused_field refusal))

unfoldable pub sound : Place → Parameters → Result Parameters DomainFault
sound place p = unless_refused place p (fault_of p)

-- a rate and a burst, key by key
unfoldable pub profile_at : Place → Field → Field → Members → Result Profile DomainFault
profile_at place rate_field burst_field members = do
  rate ← rate_at place rate_field members
  burst ← burst_at place burst_field members
  Ok (record { rate = rate; burst = burst })

-- an entry has a key
abbrev pub has_key : Field → Members → Bool
has_key field members = is_some (get_member (field_text field) members)

-- an entry has one of two keys
abbrev pub has_either : Field → Field → Members → Bool
has_either first second members = has_key first members || has_key second members

-- the excess rate and burst of a trusted contract: both or neither
unfoldable pub excess_at : Place → Members → Result (Option Profile) DomainFault
excess_at place members =
    if has_either fields.Eir fields.Ebs members then
    profile_at place fields.Eir fields.Ebs members >>= (λ excess. Ok (Some excess))
    else
    Ok None

-- the peak rate and burst of a trusted contract, and its excess: an excess needs a peak
unfoldable pub peak_at : Place → Members → Result (Option Peak) DomainFault
peak_at place members =
    if has_either fields.Pir fields.Pbs members || has_either fields.Eir fields.Ebs members then (do
      profile ← profile_at place fields.Pir fields.Pbs members
      excess ← excess_at place members
      Ok (Some (record { profile = profile; excess = excess })))
    else
    Ok None

-- what a contract says of its rates and bursts, before its parameters are judged
unfoldable pub claim_at : Place → ContractKind → Members → Result Claim DomainFault
claim_at place Trusted members = do
  committed ← profile_at place fields.Cir fields.Cbs members
  peak ← peak_at place members
  Ok (claims.Trusted committed peak)
claim_at place (Policed kind) members = do
  mode ← mode_at place members
  p ← parameters_at place kind members
  Ok (claims.Policed p mode)

-- the parameters of a policed contract are judged as those of a meter; a trusted contract has none
unfoldable pub terms_of : Place → Claim → Result Terms DomainFault
terms_of place (claims.Trusted committed peak) = Ok (terms.Trusted committed peak)
terms_of place (claims.Policed p mode) = sound place p >>= (λ s. Ok (terms.Policed s mode))
