-- What leaves a single-rate meter: colours that are no better than those that came, and envelopes that are kept.
use Rattle.std.proofs.Common.{ℕ, ◌+◌, ◌-◌, ◌≤◌, List, arith}
use Rattle.moment_core.specs.Colours.{IsNoBetter, is_green, is_in_profile, is_yellow, output}
use Rattle.moment_core.specs.Conformance.{Keeps}
use Rattle.moment_core.specs.declared.bucket.Levels.{Levels}
use Rattle.moment_core.specs.Metering.{Offer, State, after, departures, how, levels_at, opening, used}
use Rattle.moment_core.specs.Tokens.{with_tokens}
use Rattle.moment_core.specs.declared.colour.Colour.{Colour}
use Rattle.moment_core.specs.declared.colour.Mode.{Mode}
use Rattle.moment_core.proofs.ExcessLaws.{both_pay, committed_falls, excess_falls, green_pays, yellow_pays}
use Rattle.moment_core.proofs.ExcessLaws as excess_laws
use Rattle.moment_core.proofs.FillingLaws.{with_tokens_le, with_tokens_within}
use Rattle.moment_core.proofs.OutputLaws as output_laws
use Rattle.moment_core.proofs.RoomLaws.{with_tokens-grows}
use Rattle.srtcm_core.specs.declared.parameters.SrTcmParameters.{SrTcmParameters}
use Rattle.srtcm_core.specs.SingleRate.{full, single_rate}
use Rattle.srtcm_core.specs.Sizes.{IsWithinSizes}
use Rattle.srtcm_core.proofs.SingleRateLaws.{committed_filled, excess_level, gained}

-- a packet never leaves with a better colour than it came in with
pub no_better : (l : Levels) (size : ℕ) (came : Colour) → IsNoBetter came (single_rate.coloured l size came)
unfolding single_rate
no_better = excess_laws.no_better

-- the excess bucket gains no more than the tokens, of which it is given those that the committed one has no room for
excess_gains : (m : State SrTcmParameters Levels) (moment : ℕ) → (levels_at single_rate m (used m.newest moment)).excess ≤ m.levels.excess + gained m moment
excess_gains m moment =
    let kept = with_tokens-grows m.parameters.committed_burst (gained m moment) m.levels.committed in
    let surplus = m.levels.committed + gained m moment - with_tokens m.parameters.committed_burst (gained m moment) m.levels.committed in
    let excess = with_tokens_le m.parameters.excess_burst surplus m.levels.excess in
    rw (excess_level m moment) (omega (arith, kept, excess))

-- what the buckets hold before a packet
both_gain : (m : State SrTcmParameters Levels) (moment : ℕ)
    → (levels_at single_rate m (used m.newest moment)).committed + (levels_at single_rate m (used m.newest moment)).excess ≤ m.levels.committed + m.levels.excess + gained m moment
both_gain m moment =
    let committed = with_tokens_le m.parameters.committed_burst (gained m moment) m.levels.committed in
    let surplus = m.levels.committed + gained m moment - with_tokens m.parameters.committed_burst (gained m moment) m.levels.committed in
    let excess = with_tokens_le m.parameters.excess_burst surplus m.levels.excess in
    rw (excess_level m moment) (omega (arith, committed, excess, committed_filled m moment))

pub committed_fits : (m : State SrTcmParameters Levels) (moment : ℕ) → IsWithinSizes m → (levels_at single_rate m (used m.newest moment)).committed ≤ m.parameters.committed_burst
committed_fits m moment ok = rw (committed_filled m moment) (with_tokens_within m.parameters.committed_burst _ m.levels.committed ok.committed)

excess_fits : (m : State SrTcmParameters Levels) (moment : ℕ) → IsWithinSizes m → (levels_at single_rate m (used m.newest moment)).excess ≤ m.parameters.excess_burst
excess_fits m moment ok = rw (excess_level m moment) (with_tokens_within m.parameters.excess_burst _ m.levels.excess ok.excess)

both_fit : (m : State SrTcmParameters Levels) (moment : ℕ) → IsWithinSizes m
    → (levels_at single_rate m (used m.newest moment)).committed + (levels_at single_rate m (used m.newest moment)).excess ≤ m.parameters.committed_burst + m.parameters.excess_burst
both_fit m moment ok = omega (arith, committed_fits m moment ok, excess_fits m moment ok)

-- the buckets of a meter are within their sizes at first
pub IsWithinSizes-opening : (p : SrTcmParameters) (mode : Mode) (origin : ℕ) → IsWithinSizes (opening single_rate p mode origin)
unfolding opening single_rate full
IsWithinSizes-opening p mode origin = record { committed = omega arith; excess = omega arith }

-- and stay within them
pub IsWithinSizes-after : (m : State SrTcmParameters Levels) (o : Offer) → IsWithinSizes m → IsWithinSizes (after single_rate m o)
unfolding after single_rate
IsWithinSizes-after m o ok = record {
  committed = output_laws.fits_after single_rate (λ l. l.committed) (λ p. p.committed_burst) committed_falls m o (committed_fits m o.moment ok);
  excess = output_laws.fits_after single_rate (λ l. l.excess) (λ p. p.excess_burst) excess_falls m o (excess_fits m o.moment ok);
}

-- what leaves green keeps the committed rate, and a byte more than the committed burst
pub green_keeps : (m : State SrTcmParameters Levels) → IsWithinSizes m → (offers : List Offer)
    → Keeps m.parameters.committed_rate (m.parameters.committed_burst + 1) (output is_green (departures (how single_rate) m offers))
unfolding single_rate
green_keeps =
    output_laws.Keeps-bucket single_rate IsWithinSizes is_green (λ (l : Levels). l.committed) (λ (p : SrTcmParameters). p.committed_burst) (λ (p : SrTcmParameters). p.committed_rate)
    committed_filled (λ m ok. ok.committed) green_pays IsWithinSizes-after

-- what leaves green or yellow keeps the committed rate, and a byte more than both bursts
pub in_profile_keeps : (m : State SrTcmParameters Levels) → IsWithinSizes m → (offers : List Offer)
    → Keeps m.parameters.committed_rate (m.parameters.committed_burst + m.parameters.excess_burst + 1) (output is_in_profile (departures (how single_rate) m offers))
unfolding single_rate
in_profile_keeps m ok offers =
    output_laws.Keeps-one_rate single_rate IsWithinSizes is_in_profile (λ (l : Levels). l.committed + l.excess) (λ (p : SrTcmParameters). p.committed_burst + p.excess_burst) (λ (p : SrTcmParameters). p.committed_rate)
    both_gain both_fit both_pay IsWithinSizes-after m ok offers

-- what leaves yellow keeps the committed rate, and a byte more than the excess burst
pub yellow_keeps : (m : State SrTcmParameters Levels) → IsWithinSizes m → (offers : List Offer)
    → Keeps m.parameters.committed_rate (m.parameters.excess_burst + 1) (output is_yellow (departures (how single_rate) m offers))
unfolding single_rate
yellow_keeps =
    output_laws.Keeps-one_rate single_rate IsWithinSizes is_yellow (λ (l : Levels). l.excess) (λ (p : SrTcmParameters). p.excess_burst) (λ (p : SrTcmParameters). p.committed_rate)
    excess_gains excess_fits yellow_pays IsWithinSizes-after
