-- The colours of a meter with a committed and an excess bucket (RFC 2697, RFC 4115).
use Rattle.std.specs.Prelude.{ℕ, ◌-◌, nat_lt, if◌then◌else◌}
use Rattle.moment_core.specs.declared.colour.Colour.{Colour}
use Rattle.moment_core.specs.declared.colour.Colour.TheVariants.{Green, Yellow, Red}
use Rattle.moment_core.specs.declared.bucket.Levels.{Levels}
use Rattle.moment_core.specs.Metering.{Rules}

-- A packet of this size that comes in with this colour is green if it comes in green and the committed bucket has
-- enough, else yellow if it does not come in red and the excess bucket has enough, else red
-- (RFC 2697 section 3, RFC 4115).
unfoldable pub coloured : Levels → ℕ → Colour → Colour
coloured l size Green = if nat_lt l.committed size then if nat_lt l.excess size then Red else Yellow else Green
coloured l size Yellow = if nat_lt l.excess size then Red else Yellow
coloured l size Red = Red

-- a green packet takes its bytes from the committed bucket, a yellow one from the excess bucket, a red one from none
-- (RFC 2697 section 3, RFC 4115)
unfoldable pub without : Levels → ℕ → Colour → Levels
without l size Green = record l { committed = l.committed - size }
without l size Yellow = record l { excess = l.excess - size }
without l size Red = l

-- the rules of a meter with these two buckets, by its full buckets and what the tokens of a nanosecond do to their
-- levels
abbrev pub committed_or_excess : {P : Type 0} → (P → Levels) → (P → ℕ → ℕ → Levels → Levels) → Rules P Levels
committed_or_excess full gain = record { full = full; gain = gain; coloured = coloured; without = without }
