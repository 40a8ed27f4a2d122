-- What leaves a two-rate meter: colours that are no better than those that came, and envelopes that are kept.
use Rattle.std.proofs.Common.{ℕ, ◌+◌, ◌≤◌, true, false, cond, ltb, List, arith}
use Rattle.std.proofs.lemmas.Bool.Decides.{nat_tests}
use Rattle.moment_core.specs.Colours.{IsNoBetter, is_green, is_in_profile, is_yellow, output}
use Rattle.moment_core.specs.Conformance.{Keeps}
use Rattle.moment_core.specs.Metering.{Offer, State, after, departures, how, opening}
use Rattle.moment_core.specs.declared.colour.Colour.{Colour}
use Rattle.moment_core.specs.declared.colour.Colour.TheVariants.{Green, Yellow, Red}
use Rattle.moment_core.specs.declared.colour.Mode.{Mode}
use Rattle.moment_core.proofs.OutputLaws as output_laws
use Rattle.trtcm_core.specs.declared.parameters.TrTcmParameters.{TrTcmParameters}
use Rattle.trtcm_core.specs.Sizes.{IsWithinSizes}
use Rattle.trtcm_core.specs.declared.meter.Levels.{Levels}
use Rattle.trtcm_core.specs.TwoRate.{coloured, full, two_rate, without}
use Rattle.trtcm_core.proofs.TwoRateLaws.{committed_filled, peak_filled}

-- a packet never leaves with a better colour than it came in with
pub no_better : (l : Levels) (size : ℕ) (came : Colour) → IsNoBetter came (two_rate.coloured l size came)
unfolding coloured two_rate
no_better l size Green = tt
no_better l size Yellow = elim (ltb l.peak size) as (λ b. IsNoBetter Yellow (cond b Red Yellow)) [ true ↦ tt | false ↦ tt ]
no_better l size Red = tt

green_pays : (l : Levels) (size : ℕ) (came : Colour) → (without l size (coloured l size came)).committed + cond (is_green (coloured l size came)) size 0 ≤ l.committed
unfolding coloured without
green_pays l size Green = grind (arith, nat_tests)
green_pays l size Yellow = grind (arith, nat_tests)
green_pays l size Red = omega arith

in_profile_pays : (l : Levels) (size : ℕ) (came : Colour) → (without l size (coloured l size came)).peak + cond (is_in_profile (coloured l size came)) size 0 ≤ l.peak
unfolding coloured without
in_profile_pays l size Green = grind (arith, nat_tests)
in_profile_pays l size Yellow = grind (arith, nat_tests)
in_profile_pays l size Red = omega arith

yellow_pays : (l : Levels) (size : ℕ) (came : Colour) → (without l size (coloured l size came)).peak + cond (is_yellow (coloured l size came)) size 0 ≤ l.peak
unfolding coloured without
yellow_pays l size Green = grind (arith, nat_tests)
yellow_pays l size Yellow = grind (arith, nat_tests)
yellow_pays l size Red = omega arith

committed_falls : (l : Levels) (size : ℕ) (left : Colour) → (without l size left).committed ≤ l.committed
unfolding without
committed_falls l size Green = omega arith
committed_falls l size Yellow = omega arith
committed_falls l size Red = omega arith

peak_falls : (l : Levels) (size : ℕ) (left : Colour) → (without l size left).peak ≤ l.peak
unfolding without
peak_falls l size Green = omega arith
peak_falls l size Yellow = omega arith
peak_falls l size Red = omega arith

-- the buckets of a meter are within their sizes at first
pub IsWithinSizes-opening : (p : TrTcmParameters) (mode : Mode) (origin : ℕ) → IsWithinSizes (opening two_rate p mode origin)
unfolding opening two_rate full
IsWithinSizes-opening p mode origin = record { committed = omega arith; peak = omega arith }

-- and stay within them
pub IsWithinSizes-after : (m : State TrTcmParameters Levels) (o : Offer) → IsWithinSizes m → IsWithinSizes (after two_rate m o)
unfolding after two_rate
IsWithinSizes-after m o ok =
    let committed = output_laws.fits_at two_rate (λ l. l.committed) (λ p. p.committed_burst) (λ p. p.committed_rate) committed_filled m o.moment ok.committed in
    let peak = output_laws.fits_at two_rate (λ l. l.peak) (λ p. p.peak_burst) (λ p. p.peak_rate) peak_filled m o.moment ok.peak in
    record {
      committed = output_laws.fits_after two_rate (λ l. l.committed) (λ p. p.committed_burst) committed_falls m o committed;
      peak = output_laws.fits_after two_rate (λ l. l.peak) (λ p. p.peak_burst) peak_falls m o peak;
    }

-- what leaves green keeps the committed rate, and a byte more than the committed burst
pub green_keeps : (m : State TrTcmParameters Levels) → IsWithinSizes m → (offers : List Offer)
    → Keeps m.parameters.committed_rate (m.parameters.committed_burst + 1) (output is_green (departures (how two_rate) m offers))
unfolding two_rate
green_keeps =
    output_laws.Keeps-bucket two_rate IsWithinSizes is_green (λ (l : Levels). l.committed) (λ (p : TrTcmParameters). p.committed_burst) (λ (p : TrTcmParameters). p.committed_rate)
    committed_filled (λ m ok. ok.committed) green_pays IsWithinSizes-after

-- what leaves green or yellow keeps the peak rate, and a byte more than the peak burst
pub in_profile_keeps : (m : State TrTcmParameters Levels) → IsWithinSizes m → (offers : List Offer)
    → Keeps m.parameters.peak_rate (m.parameters.peak_burst + 1) (output is_in_profile (departures (how two_rate) m offers))
unfolding two_rate
in_profile_keeps =
    output_laws.Keeps-bucket two_rate IsWithinSizes is_in_profile (λ (l : Levels). l.peak) (λ (p : TrTcmParameters). p.peak_burst) (λ (p : TrTcmParameters). p.peak_rate)
    peak_filled (λ m ok. ok.peak) in_profile_pays IsWithinSizes-after

-- what leaves yellow keeps the peak rate, and a byte more than the peak burst
pub yellow_keeps : (m : State TrTcmParameters Levels) → IsWithinSizes m → (offers : List Offer)
    → Keeps m.parameters.peak_rate (m.parameters.peak_burst + 1) (output is_yellow (departures (how two_rate) m offers))
unfolding two_rate
yellow_keeps =
    output_laws.Keeps-bucket two_rate IsWithinSizes is_yellow (λ (l : Levels). l.peak) (λ (p : TrTcmParameters). p.peak_burst) (λ (p : TrTcmParameters). p.peak_rate)
    peak_filled (λ m ok. ok.peak) yellow_pays IsWithinSizes-after
