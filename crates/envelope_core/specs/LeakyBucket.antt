-- A leaky bucket as a meter of traffic: it drains at a rate, each packet is poured in, and it overflows above its depth
-- (Turner 1986; Cruz 1991, section II). A level is in bytes times 8,000,000,000, of which each bit per second drains
-- one in a nanosecond, so that nothing is rounded.
use Rattle.std.specs.Prelude.{ℕ, Bool, ◌+◌, ◌-◌, ◌*◌, nat_lt, if◌then◌else◌, List, [], ◌∷◌, Option, None, Some}
use Rattle.envelope_core.specs.Curve.{Curve}

-- the level just after a packet, which finds what is left of a level since a moment
abbrev pub filled : ℕ → ℕ → ℕ → ℕ × ℕ → ℕ
filled rate level since item = (level - rate * (item.0 - since)) + 8000000000 * item.1

-- the index of the first packet at which a bucket overflows that had a level at a moment; the packets are counted from
-- an index
unfoldable pub overflow_from : ℕ → ℕ → ℕ → ℕ → ℕ → List (ℕ × ℕ) → Option ℕ
overflow_from rate burst level since index [] = None
overflow_from rate burst level since index (item ∷ items) =
    if nat_lt (8000000000 * burst) (filled rate level since item) then Some index
    else overflow_from rate burst (filled rate level since item) item.0 (index + 1) items

-- the index of the first packet at which an empty bucket overflows, whose depth is the burst; none where it takes them
-- all in
abbrev pub overflow_of : ℕ → ℕ → List (ℕ × ℕ) → Option ℕ
overflow_of rate burst items = overflow_from rate burst 0 0 0 items

-- a bucket that drains at the rate of a curve and is as deep as its burst, and its level at a moment
pub record Bucket : Type 0 where
  pub curve : Curve
  pub level : ℕ
  pub since : ℕ

-- the level just after a packet
abbrev pub level_with : Bucket → ℕ × ℕ → ℕ
level_with b item = filled b.curve.rate b.level b.since item

-- whether it overflows at a packet
abbrev pub overflows : Bucket → ℕ × ℕ → Bool
overflows b item = nat_lt (8000000000 * b.curve.burst) (level_with b item)

-- the bucket after a packet: one that overflows stays out, as if it had no bytes
abbrev pub poured : Bucket → ℕ × ℕ → Bucket
poured b item =
    record b { level = level_with b (if overflows b item then (item.0, 0) else item); since = item.0 }
