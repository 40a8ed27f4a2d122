-- The two-rate three-colour marker (RFC 2698).
use Rattle.std.specs.Prelude.{ℕ, ◌-◌, nat_lt, nat_eq, ◌||◌, if◌then◌else◌, Option, None, Some}
use Rattle.moment_core.specs.declared.colour.Colour.{Colour}
use Rattle.moment_core.specs.declared.colour.Colour.TheVariants.{Green, Yellow, Red}
use Rattle.moment_core.specs.Tokens.{tokens_at, with_tokens}
use Rattle.moment_core.specs.Metering.{Rules}
use Rattle.trtcm_core.specs.declared.meter.Levels.{Levels}
use Rattle.trtcm_core.specs.declared.parameters.TrTcmParameters.{TrTcmParameters}
use Rattle.trtcm_core.specs.declared.parameters.TrTcmFault.{TrTcmFault}
use Rattle.trtcm_core.specs.declared.parameters.TrTcmFault.TheVariants.{SizeZero, PeakBelowCommitted}

-- what the standard asks of the parameters (RFC 2698 section 2): bursts above 0, and a peak rate not below the
-- committed rate
abbrev pub fault_of : TrTcmParameters → Option TrTcmFault
fault_of p =
    if nat_eq p.committed_burst 0 || nat_eq p.peak_burst 0 then
    Some SizeZero
    else if nat_lt p.peak_rate p.committed_rate then
    Some PeakBelowCommitted
    else
    None

-- both buckets begin full (RFC 2698 section 3)
unfoldable pub full : TrTcmParameters → Levels
full p = record { committed = p.committed_burst; peak = p.peak_burst }

-- each bucket gains the tokens of its own rate, up to its size (RFC 2698 section 3)
unfoldable pub gain : TrTcmParameters → ℕ → ℕ → Levels → Levels
gain p origin moment l = record {
  committed = with_tokens p.committed_burst (tokens_at p.committed_rate origin moment) l.committed;
  peak = with_tokens p.peak_burst (tokens_at p.peak_rate origin moment) l.peak;
}

-- A packet of this size that comes in with this colour is red if it comes in red or the peak bucket has too little,
-- else yellow if it comes in yellow or the committed bucket has too little, else green (RFC 2698 section 3).
unfoldable pub coloured : Levels → ℕ → Colour → Colour
coloured l size Green = if nat_lt l.peak size then Red else if nat_lt l.committed size then Yellow else Green
coloured l size Yellow = if nat_lt l.peak size then Red else Yellow
coloured l size Red = Red

-- a green packet takes its bytes from both buckets, a yellow one from the peak bucket, a red one from none (RFC 2698
-- section 3)
unfoldable pub without : Levels → ℕ → Colour → Levels
without l size Green = record { committed = l.committed - size; peak = l.peak - size }
without l size Yellow = record l { peak = l.peak - size }
without l size Red = l

unfoldable pub two_rate : Rules TrTcmParameters Levels
two_rate = record { full = full; gain = gain; coloured = coloured; without = without }
