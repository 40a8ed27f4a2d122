-- Traffic that keeps no more than other traffic has least bounds that are no greater.
use Rattle.std.proofs.Common.{ℕ, ◌≤◌, List, [], ◌∷◌, arith}
use Rattle.std.specs.List.{AllZip}
use Rattle.moment_core.specs.declared.column.Column.{Column}
use Rattle.moment_core.specs.declared.column.Column.TheVariants.{Green, All, Excess}
use Rattle.envelope_core.specs.Curve.{Curve, widened}
use Rattle.ds_certificate.specs.Bounds.{IsAtMost, delayed, entering, least_along, least_behind}
use Rattle.ds_certificate.specs.Columns.{Bound, InEach, bytes_in, envelope_in}
use Rattle.ds_certificate.specs.declared.source.Source.{Source}
use Rattle.ds_certificate.proofs.ColumnLaws.{each_of, in_column}
use Rattle.ds_certificate.proofs.Volumes.{bytes_over-rate}

-- neither rate nor burst is greater
abbrev pub IsUnder : Curve → Curve → Type 0
IsUnder a b = (a.rate ≤ b.rate) × (a.burst ≤ b.burst)

-- and so in each column
abbrev pub KeepsLess : Source → Source → Type 0
KeepsLess a b = InEach (λ column. IsUnder (envelope_in column a) (envelope_in column b))

pub KeepsLess-itself : (a : Source) → KeepsLess a a
KeepsLess-itself a = each_of (λ column. IsUnder (envelope_in column a) (envelope_in column a)) (λ column. (omega arith, omega arith))

-- the widened ones of two curves
pub widened-less : (a b : Curve) (gap : ℕ) → IsUnder a b → IsUnder (widened gap a) (widened gap b)
widened-less a b gap low = (low.0, omega (arith, low.1, bytes_over-rate a.rate b.rate gap low.0))

delayed-less : (column : Column) (a b : Source) (jitter : ℕ) (before other : Bound) → IsUnder (envelope_in column a) (envelope_in column b) → bytes_in column before ≤ bytes_in column other
    → bytes_in column (delayed a jitter before) ≤ bytes_in column (delayed b jitter other)
delayed-less Green a b jitter before other low below = omega (arith, below, bytes_over-rate a.green.rate b.green.rate jitter low.0)
delayed-less All a b jitter before other low below = omega (arith, below, bytes_over-rate a.all.rate b.all.rate jitter low.0)
delayed-less Excess a b jitter before other low below = omega (arith, below, bytes_over-rate a.excess.rate b.excess.rate jitter low.0)

entering-less : (column : Column) (a b : Source) → IsUnder (envelope_in column a) (envelope_in column b) → bytes_in column (entering a) ≤ bytes_in column (entering b)
entering-less Green a b low = low.1
entering-less All a b low = low.1
entering-less Excess a b low = low.1

least_behind-less : (a b : Source) (jitters : List ℕ) (before other : Bound) → KeepsLess a b → IsAtMost before other
    → AllZip IsAtMost (least_behind a jitters before) (least_behind b jitters other)
unfolding least_behind
least_behind-less a b [] before other low below = tt
least_behind-less a b (jitter ∷ jitters) before other low below =
    let next : IsAtMost (delayed a jitter before) (delayed b jitter other) =
    each_of (λ column. bytes_in column (delayed a jitter before) ≤ bytes_in column (delayed b jitter other))
    (λ column. delayed-less column a b jitter before other (in_column (λ k. IsUnder (envelope_in k a) (envelope_in k b)) low column)
    (in_column (λ k. bytes_in k before ≤ bytes_in k other) below column)) in
    (next, least_behind-less a b jitters (delayed a jitter before) (delayed b jitter other) low next)

pub least_along-less : (a b : Source) (jitters : List ℕ) → KeepsLess a b → AllZip IsAtMost (least_along a jitters) (least_along b jitters)
least_along-less a b jitters low =
    let first : IsAtMost (entering a) (entering b) =
    each_of (λ column. bytes_in column (entering a) ≤ bytes_in column (entering b))
    (λ column. entering-less column a b (in_column (λ k. IsUnder (envelope_in k a) (envelope_in k b)) low column)) in
    (first, least_behind-less a b jitters (entering a) (entering b) low first)
