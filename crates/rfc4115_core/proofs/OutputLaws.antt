-- What leaves a meter with two separate rates: colours that are no better than those that came, and envelopes that are kept.
use Rattle.std.proofs.Common.{ℕ, ◌+◌, ◌-◌, ◌≤◌, List, arith}
use Rattle.moment_core.specs.Colours.{IsNoBetter, is_green, is_in_profile, is_yellow, output}
use Rattle.moment_core.specs.Conformance.{Keeps}
use Rattle.moment_core.specs.declared.bucket.Levels.{Levels}
use Rattle.moment_core.specs.Metering.{Offer, State, after, departures, how, levels_at, opening, used}
use Rattle.moment_core.specs.Tokens.{given}
use Rattle.moment_core.specs.declared.colour.Colour.{Colour}
use Rattle.moment_core.specs.declared.colour.Mode.{Mode}
use Rattle.moment_core.proofs.ExcessLaws.{both_pay, committed_falls, excess_falls, green_pays, yellow_pays}
use Rattle.moment_core.proofs.ExcessLaws as excess_laws
use Rattle.moment_core.proofs.MeteringLaws.{newest_le-used}
use Rattle.moment_core.proofs.OutputLaws as output_laws
use Rattle.moment_core.proofs.TokenLaws.{given-mono}
use Rattle.rfc4115_core.specs.declared.parameters.Rfc4115Parameters.{Rfc4115Parameters}
use Rattle.rfc4115_core.specs.SeparateRates.{full, separate_rates}
use Rattle.rfc4115_core.specs.Sizes.{IsWithinSizes}
use Rattle.rfc4115_core.proofs.SeparateRatesLaws.{committed_filled, excess_filled}

-- a packet never leaves with a better colour than it came in with
pub no_better : (l : Levels) (size : ℕ) (came : Colour) → IsNoBetter came (separate_rates.coloured l size came)
unfolding separate_rates
no_better = excess_laws.no_better

-- what the buckets hold before a packet
both_gain : (m : State Rfc4115Parameters Levels) (moment : ℕ)
    → (levels_at separate_rates m (used m.newest moment)).committed + (levels_at separate_rates m (used m.newest moment)).excess
    ≤ m.levels.committed + m.levels.excess
    + ((given m.parameters.committed_rate m.origin (used m.newest moment) + given m.parameters.excess_rate m.origin (used m.newest moment))
    - (given m.parameters.committed_rate m.origin m.newest + given m.parameters.excess_rate m.origin m.newest))
both_gain m moment =
    let later = newest_le-used m.newest moment in
    let committed_more = given-mono m.parameters.committed_rate m.origin m.newest (used m.newest moment) later in
    let excess_more = given-mono m.parameters.excess_rate m.origin m.newest (used m.newest moment) later in
    let committed = output_laws.gains_at separate_rates (λ l. l.committed) (λ p. p.committed_burst) (λ p. p.committed_rate) committed_filled m moment in
    let excess = output_laws.gains_at separate_rates (λ l. l.excess) (λ p. p.excess_burst) (λ p. p.excess_rate) excess_filled m moment in
    omega (arith, committed, excess, committed_more, excess_more)

committed_fits : (m : State Rfc4115Parameters Levels) (moment : ℕ) → IsWithinSizes m → (levels_at separate_rates m (used m.newest moment)).committed ≤ m.parameters.committed_burst
committed_fits m moment ok = output_laws.fits_at separate_rates (λ l. l.committed) (λ p. p.committed_burst) (λ p. p.committed_rate) committed_filled m moment ok.committed

excess_fits : (m : State Rfc4115Parameters Levels) (moment : ℕ) → IsWithinSizes m → (levels_at separate_rates m (used m.newest moment)).excess ≤ m.parameters.excess_burst
excess_fits m moment ok = output_laws.fits_at separate_rates (λ l. l.excess) (λ p. p.excess_burst) (λ p. p.excess_rate) excess_filled m moment ok.excess

both_fit : (m : State Rfc4115Parameters Levels) (moment : ℕ) → IsWithinSizes m
    → (levels_at separate_rates m (used m.newest moment)).committed + (levels_at separate_rates m (used m.newest moment)).excess ≤ m.parameters.committed_burst + m.parameters.excess_burst
both_fit m moment ok = omega (arith, committed_fits m moment ok, excess_fits m moment ok)

-- the buckets of a meter are within their sizes at first
pub IsWithinSizes-opening : (p : Rfc4115Parameters) (mode : Mode) (origin : ℕ) → IsWithinSizes (opening separate_rates p mode origin)
unfolding opening separate_rates full
IsWithinSizes-opening p mode origin = record { committed = omega arith; excess = omega arith }

-- and stay within them
pub IsWithinSizes-after : (m : State Rfc4115Parameters Levels) (o : Offer) → IsWithinSizes m → IsWithinSizes (after separate_rates m o)
unfolding after separate_rates
IsWithinSizes-after m o ok = record {
  committed = output_laws.fits_after separate_rates (λ l. l.committed) (λ p. p.committed_burst) committed_falls m o (committed_fits m o.moment ok);
  excess = output_laws.fits_after separate_rates (λ l. l.excess) (λ p. p.excess_burst) excess_falls m o (excess_fits m o.moment ok);
}

-- what leaves green keeps the committed rate, and a byte more than the committed burst
pub green_keeps : (m : State Rfc4115Parameters Levels) → IsWithinSizes m → (offers : List Offer)
    → Keeps m.parameters.committed_rate (m.parameters.committed_burst + 1) (output is_green (departures (how separate_rates) m offers))
unfolding separate_rates
green_keeps =
    output_laws.Keeps-bucket separate_rates IsWithinSizes is_green (λ (l : Levels). l.committed) (λ (p : Rfc4115Parameters). p.committed_burst) (λ (p : Rfc4115Parameters). p.committed_rate)
    committed_filled (λ m ok. ok.committed) green_pays IsWithinSizes-after

-- what leaves green or yellow keeps both rates, and two bytes more than both bursts
pub in_profile_keeps : (m : State Rfc4115Parameters Levels) → IsWithinSizes m → (offers : List Offer)
    → Keeps (m.parameters.committed_rate + m.parameters.excess_rate) (m.parameters.committed_burst + m.parameters.excess_burst + 2)
    (output is_in_profile (departures (how separate_rates) m offers))
unfolding separate_rates
in_profile_keeps m ok offers =
    output_laws.Keeps-two_rates separate_rates IsWithinSizes is_in_profile (λ (l : Levels). l.committed + l.excess) (λ (p : Rfc4115Parameters). p.committed_burst + p.excess_burst) (λ (p : Rfc4115Parameters). p.committed_rate)
    (λ (p : Rfc4115Parameters). p.excess_rate) both_gain both_fit both_pay IsWithinSizes-after m ok offers

-- what leaves yellow keeps the excess rate, and a byte more than the excess burst
pub yellow_keeps : (m : State Rfc4115Parameters Levels) → IsWithinSizes m → (offers : List Offer)
    → Keeps m.parameters.excess_rate (m.parameters.excess_burst + 1) (output is_yellow (departures (how separate_rates) m offers))
unfolding separate_rates
yellow_keeps =
    output_laws.Keeps-bucket separate_rates IsWithinSizes is_yellow (λ (l : Levels). l.excess) (λ (p : Rfc4115Parameters). p.excess_burst) (λ (p : Rfc4115Parameters). p.excess_rate)
    excess_filled (λ m ok. ok.excess) yellow_pays IsWithinSizes-after
