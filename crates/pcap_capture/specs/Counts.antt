-- Counts of a device: how often it failed, which goes round at 2^64, and how often it still answers.
use Rattle.std.specs.Prelude.{◌≡◌, ◌⊎◌, ℕ, ◌+◌, ◌%◌, ◌^◌, Bool, true, false, Result, Err}
use Rattle.pcap_capture.specs.declared.device.DeviceFault.{DeviceFault}
use Rattle.pcap_capture.specs.declared.device.DeviceFault.TheVariants.{Failed}

-- a count after one event more
abbrev pub next_count : ℕ → ℕ
next_count count = (count + 1) % 2 ^ 64

-- whether a device failed
abbrev pub is_failed : {T : Type 0} → Result T DeviceFault → Bool
is_failed (Err Failed) = true
is_failed _ = false

-- What a device that gives bytes counted, by whether it is told that it could not be read: then it failed once, or it
-- did not and was asked as often as it answers; and else it did not fail.
abbrev pub IsOfReads : Bool → ℕ → ℕ → ℕ → Type 0
IsOfReads true failed now calls = (now ≡ next_count failed) ⊎ ((now ≡ failed) × (calls ≡ 0))
IsOfReads false failed now calls = now ≡ failed
