-- The bytes that a rate gives in a span of time, and the time that it takes for some bytes, each rounded up (Cruz 1991,
-- section II: what a link of a given rate carries in a time, and its inverse).
use Rattle.std.specs.Prelude.{ℕ, ◌*◌}
use Rattle.std.specs.Int.{div_ceil}

-- the bytes of a rate in bits per second over nanoseconds; 8 000 000 000 bit-nanoseconds make a byte
abbrev pub bytes_over : ℕ → ℕ → ℕ
bytes_over rate gap = div_ceil (rate * gap) 8000000000

-- the nanoseconds after which a rate in bits per second has given so many bytes
abbrev pub nanoseconds_for : ℕ → ℕ → ℕ
nanoseconds_for rate bytes = div_ceil (bytes * 8000000000) rate
