-- What iproute2 tells Linux of a policer's rate and burst, and what Linux makes of it: a bucket of nanoseconds.
use Rattle.std.specs.Prelude.{ℕ, suc, zero, ◌+◌, ◌*◌, ◌/◌, ◌^◌, nat_le, nat_lt, Option, None, Some, if◌then◌else◌, option_and_then}
use Rattle.std.specs.Float.{Float}
use Rattle.device_core.specs.Doubles.{double_of, product, quotient, whole_part}
use Rattle.device_core.specs.declared.police.Pace.{Pace}

-- a number that a C unsigned int of 32 bits has
abbrev pub narrow : ℕ → Option ℕ
narrow number = if nat_lt number (2 ^ 32) then Some number else None

-- the microseconds in which a rate of bytes a second sends a burst (tc_calc_xmittime)
abbrev pub microseconds_of : ℕ → ℕ → ℕ
microseconds_of rate burst = whole_part (product (double_of 1000000) (quotient (double_of burst) (double_of rate)))

-- the ticks of 64 nanoseconds of so many microseconds: 1000 for 64 (tc_core_time2tick, /proc/net/psched)
abbrev pub ticks_in : ℕ → ℕ
ticks_in microseconds = whole_part (product (double_of microseconds) (quotient (double_of 1000) (double_of 64)))

-- a burst as tc tells it: none where a number on the way does not fit
abbrev pub ticks_of : ℕ → ℕ → Option ℕ
ticks_of rate burst =
    option_and_then (λ microseconds. narrow (ticks_in microseconds)) (narrow (microseconds_of rate burst))

-- The fewest doublings of a unit from 1 on, 34 at most, after which 10^9 units by the rate have 32 binary digits
-- (psched_ratecfg_precompute).
unfoldable pub unit_from : ℕ → ℕ → ℕ → ℕ
unit_from zero rate unit = unit
unit_from (suc left) rate unit =
    if nat_le (2 ^ 31) (1000000000 * unit / rate) then unit else unit_from left rate (unit * 2)

-- what a byte takes: so many nanoseconds by a unit
unfoldable pub pace_of : ℕ → Pace
pace_of rate = record { nanoseconds = 1000000000 * unit_from 34 rate 1 / rate; unit = unit_from 34 rate 1 }

-- the bits a second that such a pace lets through, in whole numbers
abbrev pub rate_at : Pace → ℕ
rate_at pace = 8000000000 * pace.unit / pace.nanoseconds

-- the bytes that go through in so many ticks
abbrev pub burst_at : Pace → ℕ → ℕ
burst_at pace ticks = 64 * ticks * pace.unit / pace.nanoseconds
