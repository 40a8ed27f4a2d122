-- The rate and the burst of an envelope, and how envelopes grow and add (Cruz 1991, section II).
use Rattle.std.specs.Prelude.{ℕ, ◌+◌, ◌^◌, ◌≤◌, List, sum_by}
use Rattle.moment_core.specs.Conformance.{Keeps, KeepsUpTo}
use Rattle.moment_core.specs.Volume.{bytes_over}

-- a rate in bits per second and a burst in bytes
pub record Curve : Type 0 where
  pub rate : ℕ
  pub burst : ℕ

-- what an envelope can hold: up to 10^17 bits per second and 10^19 bytes
abbrev pub IsInRange : Curve → Type 0
IsInRange curve = (curve.rate ≤ 10 ^ 17) × (curve.burst ≤ 10 ^ 19)

-- sized moments keep an envelope
abbrev pub KeepsCurve : Curve → List (ℕ × ℕ) → Type 0
KeepsCurve curve items = Keeps curve.rate curve.burst items

-- they keep it up to a moment, in the windows that end at it
abbrev pub KeepsCurveUpTo : ℕ → Curve → List (ℕ × ℕ) → Type 0
KeepsCurveUpTo end curve items = KeepsUpTo end curve.rate curve.burst items

-- delays that differ by at most a gap add to the burst what the rate gives over that gap, rounded up
abbrev pub widened : ℕ → Curve → Curve
widened gap curve = record { rate = curve.rate; burst = curve.burst + bytes_over curve.rate gap }

-- flows that merge add their rates and their bursts
abbrev pub total : List Curve → Curve
total curves = record { rate = sum_by (λ curve. curve.rate) curves; burst = sum_by (λ curve. curve.burst) curves }
