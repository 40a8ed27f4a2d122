-- Bounds, and the part of a source and of a bound that stands in each column.
use Rattle.std.specs.Prelude.{ℕ, ◌^◌, ◌≤◌}
use Rattle.std.specs.List.{AllByRecursion}
use Rattle.moment_core.specs.Columns.{each_column}
use Rattle.moment_core.specs.declared.column.Column.{Column}
use Rattle.moment_core.specs.declared.column.Column.TheVariants.{Green, All, Excess}
use Rattle.envelope_core.specs.Curve.{Curve}
use Rattle.ds_certificate.specs.declared.source.Source.{Source}

-- a bound on the burst, in bytes, of green packets, of green and yellow ones, and of yellow ones
pub record Bound : Type 0 where
  pub green : ℕ
  pub all : ℕ
  pub excess : ℕ

-- what a source keeps in a column
abbrev pub envelope_in : Column → Source → Curve
envelope_in Green s = s.green
envelope_in All s = s.all
envelope_in Excess s = s.excess

-- the bytes of a bound in a column
abbrev pub bytes_in : Column → Bound → ℕ
bytes_in Green b = b.green
bytes_in All b = b.all
bytes_in Excess b = b.excess

-- a bound of so many bytes in each column
abbrev pub in_each : (Column → ℕ) → Bound
in_each bytes = record { green = bytes Green; all = bytes All; excess = bytes Excess }

-- what holds in each column
abbrev pub InEach : (Column → Type 0) → Type 0
InEach P = AllByRecursion P each_column

-- bounds go up to 10^15 bytes
abbrev pub IsInRange : Bound → Type 0
IsInRange b = InEach (λ column. bytes_in column b ≤ 10 ^ 15)
