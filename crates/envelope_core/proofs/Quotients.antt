-- Quotients by the bit-nanoseconds of a byte.
use Rattle.std.proofs.Common.{ℕ, ◌+◌, ◌*◌, ◌/◌, ◌≤◌, arith}
use Rattle.std.specs.Int.{div_ceil}

-- what is not more gives not more bytes
pub bytes_mono : (a b : ℕ) → a ≤ b → a / 8000000000 ≤ b / 8000000000
bytes_mono a b h = omega arith

-- the bytes of two flows are not more than those of both together
pub bytes_add : (a b : ℕ) → a / 8000000000 + b / 8000000000 ≤ (a + b) / 8000000000
bytes_add a b = omega arith

-- a longer window has not more than the bytes of each part, one of them rounded up
pub bytes_longer : (a b : ℕ) → (a + b) / 8000000000 ≤ a / 8000000000 + div_ceil b 8000000000
bytes_longer a b = omega arith

-- a window can be tested with no division
pub bytes_within : (x b y : ℕ) → 8000000000 * x ≤ 8000000000 * b + y → x ≤ b + y / 8000000000
bytes_within x b y h = omega arith

pub bytes_within_back : (x b y : ℕ) → x ≤ b + y / 8000000000 → 8000000000 * x ≤ 8000000000 * b + y
bytes_within_back x b y h = omega arith
