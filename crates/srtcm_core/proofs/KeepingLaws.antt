-- An aware single-rate meter keeps the colours of traffic that keeps what its buckets have.
use Rattle.std.proofs.Common.{◌≡◌, ℕ, ◌+◌, ◌-◌, ◌≤◌, ◌⊎◌, cond, List, refl, arith, inl, inr}
use Rattle.moment_core.specs.Colours.{is_green, is_in_profile, is_yellow}
use Rattle.moment_core.specs.Conformance.{KeepsUpTo}
use Rattle.moment_core.specs.declared.bucket.Levels.{Levels}
use Rattle.moment_core.specs.Metering.{Departure, Offer, State, after, colour_of, departures, how, levels_at, opening, used}
use Rattle.moment_core.specs.Tokens.{given, with_tokens}
use Rattle.moment_core.specs.declared.colour.Colour.{Colour}
use Rattle.moment_core.specs.declared.colour.Colour.TheVariants.{Green, Yellow, Red}
use Rattle.moment_core.specs.declared.colour.Mode.TheVariants.{Aware}
use Rattle.moment_core.proofs.KeepingLaws as keeping
use Rattle.moment_core.proofs.KeepingLaws.{both_drain, yellow_stays}
use Rattle.moment_core.proofs.MeteringLaws.{newest_le-used}
use Rattle.moment_core.proofs.RoomLaws.{Along-any, FillsUp, IsAware, IsAware-after, KeepingAt, Room-opening, departures-along, drains_aware, enough, input, left_aware, with_tokens-fills, with_tokens-grows}
use Rattle.moment_core.proofs.TokenLaws.{given-mono}
use Rattle.srtcm_core.specs.declared.parameters.SrTcmParameters.{SrTcmParameters}
use Rattle.srtcm_core.specs.SingleRate.{full, gain, single_rate}
use Rattle.srtcm_core.specs.Sizes.{IsWithinSizes}
use Rattle.srtcm_core.proofs.OutputLaws.{IsWithinSizes-after, IsWithinSizes-opening, committed_fits}
use Rattle.srtcm_core.proofs.SingleRateLaws.{committed_filled, excess_level, gained}

-- a green packet leaves green where, in the windows that end with it, green ones keep the committed rate and burst
pub green_stays_green : (end : ℕ) (p : SrTcmParameters) (origin : ℕ) (offers : List Offer)
    → KeepsUpTo end p.committed_rate p.committed_burst (input is_green (departures (how single_rate) (opening single_rate p Aware origin) offers))
    → KeepingAt end Green (departures (how single_rate) (opening single_rate p Aware origin) offers)
unfolding single_rate full
green_stays_green = keeping.green_stays_green full gain (λ p. p.committed_burst) (λ p. p.committed_rate) committed_filled (λ _. refl)

-- ---- yellow: the two buckets as one, which has the bytes of the committed bucket to spare

both_fill_to : (committed_size excess_size count committed excess : ℕ)
    → (committed + excess + count
    ≤ with_tokens committed_size count committed + with_tokens excess_size (committed + count - with_tokens committed_size count committed) excess)
    ⊎ (committed_size + excess_size
    ≤ with_tokens committed_size count committed + with_tokens excess_size (committed + count - with_tokens committed_size count committed) excess)
both_fill_to committed_size excess_size count committed excess =
    let surplus = committed + count - with_tokens committed_size count committed in
    let more = with_tokens-grows excess_size surplus excess in
    elim (with_tokens-fills committed_size count committed) [
      | inl all ↦ inl (omega (arith, all, more))
      | inr full ↦
          elim (with_tokens-fills excess_size surplus excess) [
            | inl all ↦ inl (omega (arith, all))
            | inr over ↦ inr (omega (arith, full, over))
          ]
    ]

both_fill : (m : State SrTcmParameters Levels) (moment : ℕ)
    → FillsUp (given m.parameters.committed_rate m.origin) (m.parameters.committed_burst + m.parameters.excess_burst) m.newest (m.levels.committed + m.levels.excess)
    (used m.newest moment) ((levels_at single_rate m (used m.newest moment)).committed + (levels_at single_rate m (used m.newest moment)).excess)
both_fill m moment =
    let more = given-mono m.parameters.committed_rate m.origin m.newest (used m.newest moment) (newest_le-used m.newest moment) in
    elim (both_fill_to m.parameters.committed_burst m.parameters.excess_burst (gained m moment) m.levels.committed m.levels.excess) [
      | inl all ↦ inl (omega (arith, all, more, committed_filled m moment, excess_level m moment))
      | inr full ↦ inr (omega (arith, full, committed_filled m moment, excess_level m moment))
    ]

-- an aware meter whose buckets are within their sizes
record IsFit (m : State SrTcmParameters Levels) : Type 0 where
  aware : IsAware m
  within : IsWithinSizes m

IsFit-after : (m : State SrTcmParameters Levels) (o : Offer) → IsFit m → IsFit (after single_rate m o)
IsFit-after m o fit = record { aware = IsAware-after single_rate m o fit.aware; within = IsWithinSizes-after m o fit.within }

yellow_held : (came : Colour) (size committed excess most : ℕ) → committed ≤ most → cond (is_in_profile came) size 0 + most ≤ committed + excess
    → cond (is_yellow came) size 0 ≤ excess
yellow_held Green size committed excess most within held = omega arith
yellow_held Yellow size committed excess most within held = omega (arith, within, held)
yellow_held Red size committed excess most within held = omega arith

-- before each packet that is metered at a moment the two buckets have the bytes of one in profile beside those of the
-- committed bucket
abbrev InProfileIsHeld : ℕ → State SrTcmParameters Levels → Offer → Type 0
InProfileIsHeld end m o =
    used m.newest o.moment ≡ end
    → cond (is_in_profile o.came) o.size 0 + m.parameters.committed_burst
    ≤ (levels_at single_rate m (used m.newest o.moment)).committed + (levels_at single_rate m (used m.newest o.moment)).excess

yellow_left : (end : ℕ) (m : State SrTcmParameters Levels) (o : Offer) → IsFit m → InProfileIsHeld end m o
    → used m.newest o.moment ≡ end → o.came ≡ Yellow → colour_of single_rate m o ≡ Yellow
unfolding single_rate
yellow_left end m o fit held last =
    let before = levels_at single_rate m (used m.newest o.moment) in
    let enough = yellow_held o.came o.size before.committed before.excess m.parameters.committed_burst (committed_fits m o.moment fit.within) (held last) in
    left_aware single_rate m o Yellow fit.aware (yellow_stays before o.size o.came enough)

-- a yellow packet leaves yellow where, in the windows that end with it, green and yellow ones keep the committed rate and
-- the excess burst
pub yellow_stays_yellow : (end : ℕ) (p : SrTcmParameters) (origin : ℕ) (offers : List Offer)
    → KeepsUpTo end p.committed_rate p.excess_burst (input is_in_profile (departures (how single_rate) (opening single_rate p Aware origin) offers))
    → KeepingAt end Yellow (departures (how single_rate) (opening single_rate p Aware origin) offers)
unfolding opening single_rate full
yellow_stays_yellow end p origin offers kept =
    let m = opening single_rate p Aware origin in
    let ds = departures (how single_rate) m offers in
    let fit : IsFit m = record { aware = refl; within = IsWithinSizes-opening p Aware origin } in
    let room = Room-opening p.committed_rate origin p.excess_burst (p.committed_burst + p.excess_burst) p.committed_burst is_in_profile end ds (omega arith) kept in
    let held = enough single_rate IsFit (λ _ _. Unit {0}) is_in_profile (λ (l : Levels). l.committed + l.excess) (λ (p : SrTcmParameters). p.committed_burst + p.excess_burst)
    (λ (p : SrTcmParameters). p.committed_burst) (λ (p : SrTcmParameters). given p.committed_rate) end both_fill
    (λ m o fit _. drains_aware single_rate is_in_profile (λ (l : Levels). l.committed + l.excess) m o fit.aware (both_drain (levels_at single_rate m (used m.newest o.moment)) o.size o.came))
    IsFit-after m fit offers (Along-any single_rate m offers) room
    in
    departures-along single_rate IsFit (InProfileIsHeld end) (λ _ _. Unit {0}) (λ (d : Departure). d.used ≡ end → d.came ≡ Yellow → d.left ≡ Yellow)
    (λ m o fit held _. yellow_left end m o fit held)
    IsFit-after m fit offers held (Along-any single_rate m offers)
