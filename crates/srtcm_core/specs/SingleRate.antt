-- The single-rate three-colour marker (RFC 2697).
use Rattle.std.specs.Prelude.{ℕ, ◌+◌, nat_lt, nat_eq, ◌&&◌, if◌then◌else◌, Option, None, Some}
use Rattle.std.specs.Fn.{iterate}
use Rattle.moment_core.specs.Excess.{committed_or_excess}
use Rattle.moment_core.specs.declared.bucket.Levels.{Levels}
use Rattle.moment_core.specs.Metering.{Rules}
use Rattle.moment_core.specs.Tokens.{tokens_at}
use Rattle.srtcm_core.specs.declared.parameters.SrTcmParameters.{SrTcmParameters}
use Rattle.srtcm_core.specs.declared.parameters.SrTcmFault.{SrTcmFault}
use Rattle.srtcm_core.specs.declared.parameters.SrTcmFault.TheVariants.{SizeZero}

-- what the standard asks of the parameters: not both bursts are 0 (RFC 2697 section 2)
abbrev pub fault_of : SrTcmParameters → Option SrTcmFault
fault_of p = if nat_eq p.committed_burst 0 && nat_eq p.excess_burst 0 then Some SizeZero else None

-- both buckets begin full (RFC 2697 section 3)
unfoldable pub full : SrTcmParameters → Levels
full p = record { committed = p.committed_burst; excess = p.excess_burst }

-- a token goes to the committed bucket where that is not full, else to the excess bucket where that is not full, else
-- it is lost (RFC 2697 section 3)
unfoldable pub with_token : SrTcmParameters → Levels → Levels
with_token p l =
    if nat_lt l.committed p.committed_burst then
    record l { committed = l.committed + 1 }
    else if nat_lt l.excess p.excess_burst then
    record l { excess = l.excess + 1 }
    else
    l

-- the tokens of the committed rate, one by one (RFC 2697 section 3)
unfoldable pub gain : SrTcmParameters → ℕ → ℕ → Levels → Levels
gain p origin moment l = iterate (with_token p) (tokens_at p.committed_rate origin moment) l

unfoldable pub single_rate : Rules SrTcmParameters Levels
single_rate = committed_or_excess full gain
