-- How many bytes a rate can give over a gap.
use Rattle.std.proofs.Common.{ℕ, ◌*◌, ◌≤◌, ◌^◌, arith, mul-le-mul}
use Rattle.std.proofs.lemmas.Grind.{div_ceil_times}
use Rattle.moment_core.specs.Volume.{bytes_over}

-- 25 000 000 000 000 bytes at most
pub bytes_over_most : (rate gap : ℕ) → rate ≤ 2 * 10 ^ 13 → gap ≤ 10 ^ 10 → bytes_over rate gap ≤ 25 * 10 ^ 12
bytes_over_most rate gap slow short =
    let product : rate * gap ≤ 2 * 10 ^ 13 * 10 ^ 10 = mul-le-mul slow short in
    let times = div_ceil_times (rate * gap) 8000000000 (omega arith) in
    omega (arith, times)

-- a higher rate gives no less
pub bytes_over-rate : (rate more gap : ℕ) → rate ≤ more → bytes_over rate gap ≤ bytes_over more gap
bytes_over-rate rate more gap low =
    let same : gap ≤ gap = omega arith in
    let product : rate * gap ≤ more * gap = mul-le-mul low same in
    let times = div_ceil_times (rate * gap) 8000000000 (omega arith) in
    let others = div_ceil_times (more * gap) 8000000000 (omega arith) in
    omega (arith, times, others)
