-- How large what traffic keeps can be.
use Rattle.std.specs.Prelude.{ℕ, ◌*◌, ◌≤◌, ◌^◌}
use Rattle.envelope_core.specs.Curve.{Curve}
use Rattle.ds_certificate.specs.Columns.{Bound, InEach, bytes_in, envelope_in}
use Rattle.ds_certificate.specs.declared.source.Source.{Source}

-- what is declared: two rates of 10^13 at most, and two bursts below 2^32
abbrev pub IsModest : Curve → Type 0
IsModest curve = (curve.rate ≤ 2 * 10 ^ 13) × (curve.burst ≤ 2 ^ 34)

-- what is widened, over at most 10^10 nanoseconds
abbrev pub IsWide : Curve → Type 0
IsWide curve = (curve.rate ≤ 2 * 10 ^ 13) × (curve.burst ≤ 5 * 10 ^ 13)

abbrev pub IsModerate : Source → Type 0
IsModerate s = InEach (λ column. IsWide (envelope_in column s))

-- no column of a bound is above so many bytes
abbrev pub IsWithin : ℕ → Bound → Type 0
IsWithin most b = InEach (λ column. bytes_in column b ≤ most)
