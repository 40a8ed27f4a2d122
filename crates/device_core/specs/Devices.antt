-- What each device makes of a bucket.
use Rattle.std.specs.Prelude.{ℕ, ◌+◌, ◌*◌, ◌^◌, ◌-◌, max, min, ◌&&◌, nat_eq, nat_le, Option, None, Some, if◌then◌else◌, option_map, option_and_then}
use Rattle.device_core.specs.RteMeter.{burst_by, bytes_a_second, rate_by, steps_of}
use Rattle.device_core.specs.Police.{burst_at, pace_of, rate_at, ticks_of}
use Rattle.device_core.specs.declared.device.Device.{Device}
use Rattle.device_core.specs.declared.device.Device.TheVariants.{Police, RteMeter}

-- the bits a second of the bucket that it makes of one of bytes a second
abbrev pub rate_on : Device → ℕ → ℕ
rate_on Police rate = rate_at (pace_of rate)
rate_on RteMeter rate = rate_by (steps_of rate)

-- the bytes that are there at the least of a bucket of so many
abbrev pub burst_on : Device → ℕ → ℕ → Option ℕ
burst_on Police rate burst = option_map (burst_at (pace_of rate)) (ticks_of rate burst)
burst_on RteMeter rate burst = Some (burst_by (steps_of rate) burst)

-- a rate that a meter of a domain may have: 1 where it is less, and 10^13 bits a second where it is more
abbrev pub in_rates : ℕ → ℕ
in_rates rate = max 1 (min rate (10 ^ 13))

-- and a burst of bytes, 2^32 - 1 where it is more: none is no bucket
abbrev pub if_burst : ℕ → Option ℕ
if_burst burst = if nat_le 1 burst then Some (min burst (2 ^ 32 - 1)) else None

-- what a device makes of a rate of bits a second, and of a bucket that such a rate fills
unfoldable pub made_rate : Device → ℕ → ℕ
made_rate device rate = in_rates (rate_on device (bytes_a_second rate))

unfoldable pub made_burst : Device → ℕ → ℕ → Option ℕ
made_burst device rate burst = option_and_then if_burst (burst_on device (bytes_a_second rate) burst)
