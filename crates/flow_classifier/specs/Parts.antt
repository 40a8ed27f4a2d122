-- What the parts of a rule stand for.
use Rattle.std.specs.Prelude.{ℕ, ◌-◌, ◌*◌, ◌/◌, ◌^◌}

-- the addresses whose first bits, length many, are those of this address
pub record PrefixValue : Type 0 where
  pub address : ℕ
  pub length : ℕ

-- the first bits of 32, so many of them
abbrev pub mask_of : ℕ → ℕ
mask_of length = 2 ^ 32 - 2 ^ (32 - length)

-- an address in its first bits, and 0 in the others
abbrev pub network_of : ℕ → ℕ → ℕ
network_of address length = address / 2 ^ (32 - length) * 2 ^ (32 - length)

-- the ports from low to high, both included
pub record PortRangeValue : Type 0 where
  pub low : ℕ
  pub high : ℕ
