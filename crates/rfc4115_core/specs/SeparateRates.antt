-- The two-rate three-colour marker whose buckets are filled each at its own rate (RFC 4115).
use Rattle.std.specs.Prelude.{ℕ, nat_eq, ◌&&◌, if◌then◌else◌, Option, None, Some}
use Rattle.moment_core.specs.Excess.{committed_or_excess}
use Rattle.moment_core.specs.declared.bucket.Levels.{Levels}
use Rattle.moment_core.specs.Metering.{Rules}
use Rattle.moment_core.specs.Tokens.{tokens_at, with_tokens}
use Rattle.rfc4115_core.specs.declared.parameters.Rfc4115Parameters.{Rfc4115Parameters}
use Rattle.rfc4115_core.specs.declared.parameters.Rfc4115Fault.{Rfc4115Fault}
use Rattle.rfc4115_core.specs.declared.parameters.Rfc4115Fault.TheVariants.{SizeZero}

-- what is asked of the parameters: not both bursts are 0, since such a meter would admit nothing
abbrev pub fault_of : Rfc4115Parameters → Option Rfc4115Fault
fault_of p = if nat_eq p.committed_burst 0 && nat_eq p.excess_burst 0 then Some SizeZero else None

-- both buckets begin full (RFC 4115)
unfoldable pub full : Rfc4115Parameters → Levels
full p = record { committed = p.committed_burst; excess = p.excess_burst }

-- each bucket gains the tokens of its own rate, up to its size (RFC 4115)
unfoldable pub gain : Rfc4115Parameters → ℕ → ℕ → Levels → Levels
gain p origin moment l = record {
  committed = with_tokens p.committed_burst (tokens_at p.committed_rate origin moment) l.committed;
  excess = with_tokens p.excess_burst (tokens_at p.excess_rate origin moment) l.excess;
}

unfoldable pub separate_rates : Rules Rfc4115Parameters Levels
separate_rates = committed_or_excess full gain
