-- Conformance to an envelope of rate and burst (Cruz 1991, section II: burstiness constraints).
use Rattle.std.specs.Prelude.{ℕ, ◌+◌, ◌-◌, ◌*◌, ◌/◌, ◌≤◌, nat_le, ◌&&◌, if◌then◌else◌, List, sum_by}

-- the bytes of a sized moment that lie in the window from start to end, both ends included
abbrev pub size_within : ℕ → ℕ → ℕ × ℕ → ℕ
size_within start end item = if nat_le start item.0 && nat_le item.0 end then item.1 else 0

-- Sized moments, in whatever order they stand, keep a rate in bits per second and a burst in bytes when no window
-- holds more than the burst and what the rate gives over the window's length in nanoseconds.
abbrev pub Keeps : ℕ → ℕ → List (ℕ × ℕ) → Type 0
Keeps rate burst items =
    (start end : ℕ) → start ≤ end → sum_by (size_within start end) items ≤ burst + rate * (end - start) / 8000000000

-- Up to a moment they keep them when no window that ends at that moment holds more.
abbrev pub KeepsUpTo : ℕ → ℕ → ℕ → List (ℕ × ℕ) → Type 0
KeepsUpTo end rate burst items =
    (start : ℕ) → start ≤ end → sum_by (size_within start end) items ≤ burst + rate * (end - start) / 8000000000
