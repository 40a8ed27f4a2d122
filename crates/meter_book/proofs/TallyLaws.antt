-- Sums by colour, added up.
use Rattle.std.proofs.Common.{◌≡◌, ℕ, ◌+◌, cond, List, [], ◌++◌, refl, sym, arith}
use Rattle.std.proofs.lemmas.List.Sums.{sum_by-append}
use Rattle.moment_core.specs.declared.colour.Colour.{Colour}
use Rattle.moment_core.specs.declared.colour.Colour.TheVariants.{Green, Yellow, Red}
use Rattle.moment_core.specs.Colours.{is_green, is_red, is_yellow}
use Rattle.meter_book.specs.declared.row.Row.{Row}
use Rattle.meter_book.specs.declared.tally.Tallies.{Tallies}
use Rattle.meter_book.specs.Tallies.{IsSized, packets_in, tallies_of, together, with_packet}

-- sums are equal where their numbers are
abbrev sums : ℕ → ℕ → ℕ → ℕ → ℕ → ℕ → Tallies
sums gp gb yp yb rp rb = record {
  green = record { packets = gp; bytes = gb };
  yellow = record { packets = yp; bytes = yb };
  red = record { packets = rp; bytes = rb };
}

same_sums : {gp gb yp yb rp rb gp' gb' yp' yb' rp' rb' : ℕ} → gp ≡ gp' → gb ≡ gb' → yp ≡ yp' → yb ≡ yb' → rp ≡ rp' → rb ≡ rb'
    → sums gp gb yp yb rp rb ≡ sums gp' gb' yp' yb' rp' rb'
same_sums e f g h i j = rw (e, f, g, h, i, j) refl

module _ (s : Tallies) where
  -- a packet more of one of two sums is one more of both
  pub together-packet : (t : Tallies) (left : Colour) (size : ℕ) → with_packet (together s t) left size ≡ together s (with_packet t left size)
  together-packet t Green size = same_sums (omega arith) (omega arith) refl refl refl refl
  together-packet t Yellow size = same_sums refl refl (omega arith) (omega arith) refl refl
  together-packet t Red size = same_sums refl refl refl refl (omega arith) (omega arith)

  -- no rows add nothing
  pub together-none : together s (tallies_of []) ≡ s
  together-none = same_sums (omega arith) (omega arith) (omega arith) (omega arith) (omega arith) (omega arith)

  pub together-assoc : (t u : Tallies) → together (together s t) u ≡ together s (together t u)
  together-assoc t u = same_sums (omega arith) (omega arith) (omega arith) (omega arith) (omega arith) (omega arith)

  pub packets_in-packet : (left : Colour) (size : ℕ) → packets_in (with_packet s left size) ≡ packets_in s + 1
  packets_in-packet Green size = omega arith
  packets_in-packet Yellow size = omega arith
  packets_in-packet Red size = omega arith

-- nothing stands before the first row
pub none-together : (s t : Tallies) → IsSized s → packets_in s ≡ 0 → together s t ≡ t
none-together s t sized none = same_sums
    (omega (arith, none)) (omega (arith, none, sized.green)) (omega (arith, none)) (omega (arith, none, sized.yellow)) (omega (arith, none)) (omega (arith, none, sized.red))

-- the sums of rows, and of more behind them
pub together-rows : (rows more : List Row) → together (tallies_of rows) (tallies_of more) ≡ tallies_of (rows ++ more)
together-rows rows more = same_sums
    (sym (sum_by-append (λ (r : Row). cond (is_green r.left) 1 0) rows more)) (sym (sum_by-append (λ (r : Row). cond (is_green r.left) r.size 0) rows more))
    (sym (sum_by-append (λ (r : Row). cond (is_yellow r.left) 1 0) rows more)) (sym (sum_by-append (λ (r : Row). cond (is_yellow r.left) r.size 0) rows more))
    (sym (sum_by-append (λ (r : Row). cond (is_red r.left) 1 0) rows more)) (sym (sum_by-append (λ (r : Row). cond (is_red r.left) r.size 0) rows more))
