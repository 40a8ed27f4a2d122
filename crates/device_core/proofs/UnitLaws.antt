-- The unit of a pace, doubling by doubling.
use Rattle.std.proofs.Common.{◌≡◌, ℕ, zero, suc, ◌+◌, ◌-◌, ◌*◌, ◌/◌, ◌<◌, ◌≤◌, ◌^◌, true, false, nat_le, refl, arith, subst}
use Rattle.std.proofs.Math.Nat.{pow-succ'}
use Rattle.device_core.specs.Police.{unit_from}

-- one more doubling
pub unit-doubled : (left rate unit : ℕ) → 0 < left → 1000000000 * unit / rate < 2 ^ 31
    → unit_from (left - 1) rate (unit * 2) ≡ unit_from left rate unit
unfolding unit_from
unit-doubled zero rate unit some below = omega (arith, some)
unit-doubled (suc left) rate unit some below =
    let short : nat_le (2 ^ 31) (1000000000 * unit / rate) ≡ false = grind (arith, below) in
    let back : suc left - 1 ≡ left = omega arith in
    rw (short, back) refl

-- there are enough
pub unit-reached : (left rate unit : ℕ) → 2 ^ 31 ≤ 1000000000 * unit / rate → unit_from left rate unit ≡ unit
unfolding unit_from
unit-reached zero rate unit long = refl
unit-reached (suc left) rate unit long =
    let enough : nat_le (2 ^ 31) (1000000000 * unit / rate) ≡ true = grind (arith, long) in
    rw enough refl

-- none is left
pub unit-last : (left rate unit : ℕ) → left ≤ 0 → unit_from left rate unit ≡ unit
unfolding unit_from
unit-last zero rate unit none = refl
unit-last (suc left) rate unit none = omega (arith, none)

-- a doubling takes no more room than it had
pub unit-room : (left unit most : ℕ) → 0 < left → unit * 2 ^ left ≤ most → unit * 2 * 2 ^ (left - 1) ≤ most
unit-room zero unit most some room = omega (arith, some)
unit-room (suc left) unit most some room =
    let back : suc left - 1 ≡ left = omega arith in
    let twice : 2 ^ suc left ≡ 2 * 2 ^ left = pow-succ' 2 left in
    let wide : unit * (2 * 2 ^ left) ≤ most = subst (λ power. unit * power ≤ most) twice room in
    rw back (omega (arith, wide))
