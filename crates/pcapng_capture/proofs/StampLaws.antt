-- How many units make a second, and how many nanoseconds they are.
use Rattle.std.proofs.Common.{◌≡◌, ℕ, ◌-◌, ◌*◌, ◌/◌, ◌^◌, ◌<◌, ◌≤◌, Bool, true, false, cond, min, nat_lt, refl, sym, ◌∙◌, ap, inl, inr, arith}
use Rattle.std.proofs.Math.Nat.{div-eq_of_lt, pow-le-pow_right}
use Rattle.std.proofs.lemmas.Nat.{pow_pos}
use Rattle.std.proofs.lemmas.Bool.{cases_lt}
use Rattle.pcapng_capture.specs.Stamps.{nanoseconds_of, units_of}

-- a power of 10 that has room in 128 bits
pub ten_fits : (n : ℕ) → n ≤ 38 → 10 ^ n < 340282366920938463463374607431768211456
ten_fits n h =
    let most : 10 ^ n ≤ 10 ^ 38 = pow-le-pow_right (omega arith) h in
    omega (arith, most)

-- and one of 2
pub two_fits : (n : ℕ) → n ≤ 127 → 2 ^ n < 340282366920938463463374607431768211456
two_fits n h =
    let most : 2 ^ n ≤ 2 ^ 127 = pow-le-pow_right (omega arith) h in
    omega (arith, most)

pub ten_some : (n : ℕ) → 0 < 10 ^ n
ten_some n = pow-le-pow_right {n = 10} (omega arith) {i = 0} (omega arith)

units_some_by : (decimal : Bool) (n m : ℕ) → 0 < cond decimal (10 ^ n) (2 ^ m)
units_some_by true n m = ten_some n
units_some_by false n m = pow_pos m

pub units_some : (resolution : ℕ) → 0 < (cond (nat_lt resolution 128) (10 ^ min resolution 38) (2 ^ (resolution - 128)))
units_some resolution = units_some_by (nat_lt resolution 128) (min resolution 38) (resolution - 128)

-- of fewer nanoseconds than 10^38 none are whole units where more make a second
capped : (count resolution : ℕ) → count < 10 ^ 38 → count / 10 ^ min resolution 38 ≡ count / 10 ^ resolution
capped count resolution few = elim (cases_lt 38 resolution) [
  | inl more ↦
      let more_than : 38 ≤ resolution = omega arith in
      let least : 10 ^ 38 ≤ 10 ^ resolution = pow-le-pow_right {n = 10} (omega arith) more_than in
      let same : min resolution 38 ≡ 38 = omega arith in
      ap (λ n. count / 10 ^ n) same ∙ div-eq_of_lt few ∙ sym (div-eq_of_lt (omega (arith, few, least)))
  | inr few ↦
      let same : min resolution 38 ≡ resolution = omega arith in
      ap (λ n. count / 10 ^ n) same
]

capped_by : (decimal : Bool) (count resolution : ℕ) → count < 10 ^ 38
    → count / cond decimal (10 ^ min resolution 38) (2 ^ (resolution - 128)) ≡ count / cond decimal (10 ^ resolution) (2 ^ (resolution - 128))
capped_by true count resolution few = capped count resolution few
capped_by false count resolution few = refl

pub nanoseconds_are : (resolution stamp made : ℕ) → stamp < 2 ^ 64 → made ≡ cond (nat_lt resolution 128) (10 ^ min resolution 38) (2 ^ (resolution - 128))
    → stamp * 1000000000 / made ≡ nanoseconds_of resolution stamp
unfolding nanoseconds_of units_of
nanoseconds_are resolution stamp made fits is =
    ap (λ units. stamp * 1000000000 / units) is ∙ capped_by (nat_lt resolution 128) (stamp * 1000000000) resolution (omega (arith, fits))
