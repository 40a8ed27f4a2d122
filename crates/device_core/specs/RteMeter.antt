-- How the meters of DPDK fill a bucket (rte_meter_get_tb_params, RTE_METER_TB_PERIOD_MIN), on a clock of 10^9 cycles a
-- second.
use Rattle.std.specs.Prelude.{ℕ, ◌+◌, ◌*◌, ◌/◌, ◌-◌, if◌then◌else◌}
use Rattle.std.specs.Float.{Float}
use Rattle.std.specs.Float.Ieee
use Rattle.device_core.specs.Doubles.{double_of, quotient, rounded_up, whole_part}
use Rattle.device_core.specs.declared.rte_meter.Steps.{Steps}

-- a rate in whole bytes a second, no fewer than its bits
abbrev pub bytes_a_second : ℕ → ℕ
bytes_a_second rate = (rate + 7) / 8

-- cycles a byte
abbrev pub period_of : ℕ → Float
period_of rate = quotient (double_of 1000000000) (double_of rate)

-- A byte each whole part of the period, where that is 100 cycles or more; else as many bytes as are due in 100 cycles
-- at the least, each whole part of their time.
unfoldable pub steps_of : ℕ → Steps
steps_of rate =
    if Ieee.le (double_of 100) (period_of rate) then
    record { bytes = 1; cycles = whole_part (period_of rate) }
    else
    record {
      bytes = rounded_up (quotient (double_of 100) (period_of rate));
      cycles = 1000000000 * rounded_up (quotient (double_of 100) (period_of rate)) / rate;
    }

-- the bits a second that such steps add, in whole numbers
abbrev pub rate_by : Steps → ℕ
rate_by steps = 8000000000 * steps.bytes / steps.cycles

-- what is there at the least of a bucket to which bytes are added so: one byte at once is the token law's own step
abbrev pub burst_by : Steps → ℕ → ℕ
burst_by steps burst = burst - (steps.bytes - 1)
