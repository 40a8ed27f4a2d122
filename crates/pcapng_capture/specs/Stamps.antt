-- The moments of packets.
use Rattle.std.specs.Prelude.{ℕ, ◌+◌, ◌-◌, ◌*◌, ◌/◌, ◌^◌, min, nat_lt, if◌then◌else◌}
use Rattle.pcapng_capture.specs.declared.interface.Interface.{Interface}
use Rattle.pcapng_capture.specs.declared.interface.Offset.{Offset}
use Rattle.pcapng_capture.specs.declared.interface.Offset.TheVariants.{Ahead, Behind}

-- How many units of a stamp make a second: a power of 10, or, from 128 on, one of 2 (section 4.2, if_tsresol).
unfoldable pub units_of : ℕ → ℕ
units_of resolution = if nat_lt resolution 128 then 10 ^ resolution else 2 ^ (resolution - 128)

-- the whole nanoseconds of so many units
unfoldable pub nanoseconds_of : ℕ → ℕ → ℕ
nanoseconds_of resolution stamp = stamp * 1000000000 / units_of resolution

-- moved by whole seconds (section 4.2, if_tsoffset); what would be below 0 is 0
abbrev pub moved : Offset → ℕ → ℕ
moved (Ahead seconds) nanoseconds = nanoseconds + seconds * 1000000000
moved (Behind seconds) nanoseconds = nanoseconds - seconds * 1000000000

-- the moment of a stamp of an interface, in nanoseconds; what is beyond 2^63 - 1 is that
unfoldable pub moment_of : Interface → ℕ → ℕ
moment_of interface stamp =
    min (moved interface.offset (nanoseconds_of interface.resolution stamp)) 9223372036854775807
