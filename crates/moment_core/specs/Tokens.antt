-- The token law: how many tokens a bucket has been given, and what a bucket does with one.
use Rattle.std.specs.Prelude.{ℕ, ◌+◌, ◌-◌, ◌*◌, ◌/◌, ◌%◌, zero, suc, nat_lt, if◌then◌else◌}
use Rattle.std.specs.Fn.{iterate}

-- A token is a byte. A rate in bits per second gives one in 8 000 000 000 bit-nanoseconds (RFC 2697 section 3, RFC 2698
-- section 3: the rates are measured in bytes per second), counted from the origin, so that no fraction is lost.
unfoldable pub given : ℕ → ℕ → ℕ → ℕ
given rate origin moment = rate * (moment - origin) / 8000000000

-- the part of its next token that a rate has given by a moment, in bit-nanoseconds
unfoldable pub begun_token : ℕ → ℕ → ℕ → ℕ
begun_token rate origin moment = rate * (moment - origin) % 8000000000

-- the tokens of one nanosecond
unfoldable pub tokens_at : ℕ → ℕ → ℕ → ℕ
tokens_at rate origin moment = given rate origin moment - given rate origin (moment - 1)

-- one step for each nanosecond after from, count of them, in order
unfoldable pub each_nanosecond : {L : Type 0} → (ℕ → L → L) → ℕ → ℕ → L → L
each_nanosecond step from zero levels = levels
each_nanosecond step from (suc count) levels = step (from + suc count) (each_nanosecond step from count levels)

-- a bucket takes a token where it is not full (RFC 2698 section 3); else the token is lost
unfoldable pub with_token : ℕ → ℕ → ℕ
with_token size level = if nat_lt level size then level + 1 else level

-- a bucket is given tokens, one by one
unfoldable pub with_tokens : ℕ → ℕ → ℕ → ℕ
with_tokens size count level = iterate (with_token size) count level

-- what a bucket holds, and what it can hold, in bytes
pub record Content : Type 0 where
  pub level : ℕ
  pub size : ℕ
