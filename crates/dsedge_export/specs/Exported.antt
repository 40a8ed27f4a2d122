-- The words that set a device to the parameters of a meter of a domain text, what the device makes of them, and what the
-- checker says of the domain then.
use Rattle.std.specs.Prelude.{ℕ, true, false, List, ◌++◌, codes, Option, None, Some, Result, Ok, Err}
use Rattle.device_core.specs.declared.device.Device.{Device}
use Rattle.ds_checker.specs.Acceptance.{refusal_of}
use Rattle.ds_checker.specs.declared.refusal.Refusal.{Refusal}
use Rattle.ds_domain.specs.DomainTexts.{parse_of}
use Rattle.ds_domain_base.specs.Domains.{Domain, meter_of}
use Rattle.ds_domain_base.specs.Parameters.{Parameters}
use Rattle.ds_domain_base.specs.declared.contract.Contract.{Contract}
use Rattle.ds_domain_base.specs.declared.fault.DomainFault.{DomainFault}
use Rattle.ds_domain_base.specs.declared.parts.Meter.{Meter}
use Rattle.ds_export.specs.Made.{made_parameters, unmade_text}
use Rattle.ds_export.specs.Remade.{with_parameters}
use Rattle.ds_export.specs.declared.making.Unmade.{Unmade}
use Rattle.ds_quotes.specs.Quotes.{with_least}
use Rattle.dsedge_texts.specs.Quoted.{Told}
use Rattle.dsedge_texts.specs.Refused.{refusal_line}
use Rattle.dsedge_texts.specs.declared.quoting.QuoteFault.{QuoteFault}
use Rattle.dsedge_texts.specs.declared.quoting.QuoteFault.TheVariants as faults
use Rattle.dsedge_export.specs.Words.{device_words, made_lines}

-- lines, and behind them what the checker says
abbrev pub judged : List ℕ → List Contract → Option Refusal → Told
judged lines contracts None = (lines ++ codes "accepted\n", true)
judged lines contracts (Some refusal) = (lines ++ refusal_line contracts refusal, false)

-- the words that set a device, and what it makes of them
abbrev pub lines_of : Device → Parameters → Parameters → List ℕ
lines_of device p made = device_words device p ++ made_lines p made

-- `none`, and what the device cannot make
abbrev pub unmade_line : Unmade → List ℕ
unmade_line why = codes "none " ++ unmade_text why ++ codes "\n"

-- what is told of the meter of a name, by what a device makes of its parameters
abbrev pub told_made : Domain → List Contract → List ℕ → Device → Parameters → Result Parameters Unmade → Told
told_made d contracts name device p (Err why) = (unmade_line why, false)
told_made d contracts name device p (Ok made) =
    judged (lines_of device p made) contracts (refusal_of (with_least (with_parameters d name made) contracts))

-- a meter that the domain has not has no parameters
abbrev pub export_at : Domain → List Contract → List ℕ → Device → Option Meter → Result Told QuoteFault
export_at d contracts name device None = Err faults.NoField
export_at d contracts name device (Some m) =
    Ok (told_made d contracts name device m.parameters (made_parameters device m.parameters))

abbrev pub export_by : List ℕ → Device → Result (Domain × List Contract) DomainFault → Result Told QuoteFault
export_by name device (Err fault) = Err (faults.Domain fault)
export_by name device (Ok parsed) = export_at parsed.0 parsed.1 name device (meter_of parsed.0 name)

-- of the meter of a name in a domain text
abbrev pub export_in : List ℕ → List ℕ → Device → Result Told QuoteFault
export_in text name device = export_by name device (parse_of text)
