-- Decimal digits, each from 0 to 9.
use Rattle.std.specs.Prelude.{◌≡◌, ℕ, ◌+◌, ◌*◌, ◌<◌, List, length, fold}
use Rattle.std.specs.Simd.Lanes.{Each1}

-- the number that digits say
abbrev pub number_in : List ℕ → ℕ
number_in digits = fold (λ value digit. 10 * value + digit) 0 digits

-- 16 digits
pub record AreDigits (lanes : List ℕ) : Type 0 where
  pub count : length lanes ≡ 16
  pub each : Each1 (λ digit. digit < 10) lanes
