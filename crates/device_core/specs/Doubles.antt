-- Numbers as the C of the devices' programs has them: a double is a binary64 of IEEE 754.
use Rattle.std.specs.Prelude.{ℕ, ◌+◌, pos, if◌then◌else◌}
use Rattle.std.specs.Float.{Float, binary64}
use Rattle.std.specs.Float.Ieee

-- a whole number as a double
abbrev pub double_of : ℕ → Float
double_of number = Ieee.of_int binary64 (pos number)

abbrev pub quotient : Float → Float → Float
quotient a b = Ieee.div binary64 a b

abbrev pub product : Float → Float → Float
product a b = Ieee.mul binary64 a b

-- the whole part of a double that is not negative, as a cast to a whole number has it
unfoldable pub whole_part : Float → ℕ
whole_part x = Ieee.to_unsigned 64 x

-- the least whole number that is not below such a double
unfoldable pub rounded_up : Float → ℕ
rounded_up x = if Ieee.lt (double_of (whole_part x)) x then whole_part x + 1 else whole_part x
