-- What a packet does to a committed and an excess bucket.
use Rattle.std.proofs.Common.{ℕ, ◌+◌, ◌≤◌, true, false, cond, ltb, arith}
use Rattle.std.proofs.lemmas.Bool.Decides.{nat_tests}
use Rattle.moment_core.specs.Colours.{IsNoBetter, is_green, is_in_profile, is_yellow}
use Rattle.moment_core.specs.Excess.{coloured, without}
use Rattle.moment_core.specs.declared.bucket.Levels.{Levels}
use Rattle.moment_core.specs.declared.colour.Colour.{Colour}
use Rattle.moment_core.specs.declared.colour.Colour.TheVariants.{Green, Yellow, Red}

-- a packet never leaves with a better colour than it came in with
pub no_better : (l : Levels) (size : ℕ) (came : Colour) → IsNoBetter came (coloured l size came)
unfolding coloured
no_better l size Green = tt
no_better l size Yellow = elim (ltb l.excess size) as (λ b. IsNoBetter Yellow (cond b Red Yellow)) [ true ↦ tt | false ↦ tt ]
no_better l size Red = tt

-- green packets are paid out of the committed bucket
pub green_pays : (l : Levels) (size : ℕ) (came : Colour)
    → (without l size (coloured l size came)).committed + cond (is_green (coloured l size came)) size 0 ≤ l.committed
unfolding coloured without
green_pays l size Green = grind (arith, nat_tests)
green_pays l size Yellow = grind (arith, nat_tests)
green_pays l size Red = omega arith

-- yellow packets are paid out of the excess bucket
pub yellow_pays : (l : Levels) (size : ℕ) (came : Colour)
    → (without l size (coloured l size came)).excess + cond (is_yellow (coloured l size came)) size 0 ≤ l.excess
unfolding coloured without
yellow_pays l size Green = grind (arith, nat_tests)
yellow_pays l size Yellow = grind (arith, nat_tests)
yellow_pays l size Red = omega arith

-- packets in profile are paid out of both
pub both_pay : (l : Levels) (size : ℕ) (came : Colour)
    → (without l size (coloured l size came)).committed + (without l size (coloured l size came)).excess + cond (is_in_profile (coloured l size came)) size 0
    ≤ l.committed + l.excess
unfolding coloured without
both_pay l size Green = grind (arith, nat_tests)
both_pay l size Yellow = grind (arith, nat_tests)
both_pay l size Red = omega arith

-- a packet leaves each bucket with no more than it had
pub committed_falls : (l : Levels) (size : ℕ) (left : Colour) → (without l size left).committed ≤ l.committed
unfolding without
committed_falls l size Green = omega arith
committed_falls l size Yellow = omega arith
committed_falls l size Red = omega arith

pub excess_falls : (l : Levels) (size : ℕ) (left : Colour) → (without l size left).excess ≤ l.excess
unfolding without
excess_falls l size Green = omega arith
excess_falls l size Yellow = omega arith
excess_falls l size Red = omega arith
