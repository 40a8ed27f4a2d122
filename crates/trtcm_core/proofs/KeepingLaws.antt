-- An aware two-rate meter keeps the colours of traffic that keeps what its buckets have.
use Rattle.std.proofs.Common.{◌≡◌, ℕ, ◌+◌, ◌≤◌, cond, List, refl, arith}
use Rattle.std.proofs.lemmas.Bool.Decides.{nat_tests}
use Rattle.moment_core.specs.Colours.{is_green, is_in_profile}
use Rattle.moment_core.specs.Conformance.{KeepsUpTo}
use Rattle.moment_core.specs.Metering.{Departure, Offer, State, colour_of, departures, how, levels_at, opening, used}
use Rattle.moment_core.specs.declared.colour.Colour.{Colour}
use Rattle.moment_core.specs.declared.colour.Colour.TheVariants.{Green, Yellow, Red}
use Rattle.moment_core.specs.declared.colour.Mode.TheVariants.{Aware}
use Rattle.moment_core.proofs.KeepingLaws.{not_short}
use Rattle.moment_core.proofs.RoomLaws.{Along, Along-any, Holds, IsAware, IsAware-after, KeepingAt, bucket_holds, departures-along, input, left_aware}
use Rattle.trtcm_core.specs.declared.parameters.TrTcmParameters.{TrTcmParameters}
use Rattle.trtcm_core.specs.declared.meter.Levels.{Levels}
use Rattle.trtcm_core.specs.TwoRate.{coloured, full, two_rate, without}
use Rattle.trtcm_core.proofs.TwoRateLaws.{committed_filled, peak_filled}

-- ---- buckets that have enough, and what packets take from them

-- a green packet for which both buckets have enough leaves green
green_stays : (l : Levels) (size : ℕ) (came : Colour) → cond (is_green came) size 0 + 0 ≤ l.committed → cond (is_in_profile came) size 0 + 0 ≤ l.peak
    → came ≡ Green → coloured l size came ≡ Green
unfolding coloured
green_stays l size Green held peak_held e = rw (not_short l.peak size (omega (arith, peak_held)), not_short l.committed size (omega (arith, held))) refl
green_stays l size Yellow held peak_held e = absurd (cc)
green_stays l size Red held peak_held e = absurd (cc)

-- a yellow packet for which the peak bucket has enough leaves yellow
yellow_stays : (l : Levels) (size : ℕ) (came : Colour) → cond (is_in_profile came) size 0 + 0 ≤ l.peak → came ≡ Yellow → coloured l size came ≡ Yellow
unfolding coloured
yellow_stays l size Green held e = absurd (cc)
yellow_stays l size Yellow held e = rw (not_short l.peak size (omega (arith, held))) refl
yellow_stays l size Red held e = absurd (cc)

-- green packets alone take from the committed bucket, and no more than their bytes
committed_drains : (l : Levels) (size : ℕ) (came : Colour) → l.committed ≤ (without l size (coloured l size came)).committed + cond (is_green came) size 0
unfolding coloured without
committed_drains l size Green = grind (arith, nat_tests)
committed_drains l size Yellow = grind (arith, nat_tests)
committed_drains l size Red = omega arith

-- packets in profile alone take from the peak bucket, and no more than their bytes
peak_drains : (l : Levels) (size : ℕ) (came : Colour) → l.peak ≤ (without l size (coloured l size came)).peak + cond (is_in_profile came) size 0
unfolding coloured without
peak_drains l size Green = grind (arith, nat_tests)
peak_drains l size Yellow = grind (arith, nat_tests)
peak_drains l size Red = omega arith

-- ---- the meter

-- the committed bucket has enough for a green packet that is metered at a moment, and the peak bucket for one in profile
abbrev GreenIsHeld : ℕ → State TrTcmParameters Levels → Offer → Type 0
GreenIsHeld = Holds two_rate is_green (λ l. l.committed)

abbrev InProfileIsHeld : ℕ → State TrTcmParameters Levels → Offer → Type 0
InProfileIsHeld = Holds two_rate is_in_profile (λ l. l.peak)

green_left : (end : ℕ) (m : State TrTcmParameters Levels) (o : Offer) → IsAware m → GreenIsHeld end m o → InProfileIsHeld end m o
    → used m.newest o.moment ≡ end → o.came ≡ Green → colour_of two_rate m o ≡ Green
unfolding two_rate
green_left end m o aware held peak_held last =
    left_aware two_rate m o Green aware (green_stays (levels_at two_rate m (used m.newest o.moment)) o.size o.came (held last) (peak_held last))

yellow_left : (end : ℕ) (m : State TrTcmParameters Levels) (o : Offer) → IsAware m → InProfileIsHeld end m o
    → used m.newest o.moment ≡ end → o.came ≡ Yellow → colour_of two_rate m o ≡ Yellow
unfolding two_rate
yellow_left end m o aware held last =
    left_aware two_rate m o Yellow aware (yellow_stays (levels_at two_rate m (used m.newest o.moment)) o.size o.came (held last))

green_held : (end : ℕ) (p : TrTcmParameters) (origin : ℕ) (offers : List Offer)
    → KeepsUpTo end p.committed_rate p.committed_burst (input is_green (departures (how two_rate) (opening two_rate p Aware origin) offers))
    → Along two_rate (GreenIsHeld end) (opening two_rate p Aware origin) offers
unfolding two_rate full
green_held end p origin offers kept =
    bucket_holds two_rate (λ _ _. Unit {0}) is_green (λ l. l.committed) (λ p. p.committed_burst) (λ p. p.committed_rate) end committed_filled (λ _. refl)
    (λ m o _ _. committed_drains (levels_at two_rate m (used m.newest o.moment)) o.size o.came) p origin offers (Along-any two_rate (opening two_rate p Aware origin) offers) kept

in_profile_held : (end : ℕ) (p : TrTcmParameters) (origin : ℕ) (offers : List Offer)
    → KeepsUpTo end p.peak_rate p.peak_burst (input is_in_profile (departures (how two_rate) (opening two_rate p Aware origin) offers))
    → Along two_rate (InProfileIsHeld end) (opening two_rate p Aware origin) offers
unfolding two_rate full
in_profile_held end p origin offers kept =
    bucket_holds two_rate (λ _ _. Unit {0}) is_in_profile (λ l. l.peak) (λ p. p.peak_burst) (λ p. p.peak_rate) end peak_filled (λ _. refl)
    (λ m o _ _. peak_drains (levels_at two_rate m (used m.newest o.moment)) o.size o.came) p origin offers (Along-any two_rate (opening two_rate p Aware origin) offers) kept

-- a green packet leaves green where, in the windows that end with it, green ones keep the committed rate and burst, and those
-- in profile the peak rate and burst
pub green_stays_green : (end : ℕ) (p : TrTcmParameters) (origin : ℕ) (offers : List Offer)
    → KeepsUpTo end p.committed_rate p.committed_burst (input is_green (departures (how two_rate) (opening two_rate p Aware origin) offers))
    → KeepsUpTo end p.peak_rate p.peak_burst (input is_in_profile (departures (how two_rate) (opening two_rate p Aware origin) offers))
    → KeepingAt end Green (departures (how two_rate) (opening two_rate p Aware origin) offers)
unfolding opening
green_stays_green end p origin offers kept all_kept =
    departures-along two_rate IsAware (GreenIsHeld end) (InProfileIsHeld end) (λ (d : Departure). d.used ≡ end → d.came ≡ Green → d.left ≡ Green) (green_left end)
    (IsAware-after two_rate) (opening two_rate p Aware origin) refl offers (green_held end p origin offers kept) (in_profile_held end p origin offers all_kept)

-- a yellow packet leaves yellow where, in the windows that end with it, those in profile keep the peak rate and burst
pub yellow_stays_yellow : (end : ℕ) (p : TrTcmParameters) (origin : ℕ) (offers : List Offer)
    → KeepsUpTo end p.peak_rate p.peak_burst (input is_in_profile (departures (how two_rate) (opening two_rate p Aware origin) offers))
    → KeepingAt end Yellow (departures (how two_rate) (opening two_rate p Aware origin) offers)
unfolding opening
yellow_stays_yellow end p origin offers kept =
    let held = in_profile_held end p origin offers kept in
    departures-along two_rate IsAware (InProfileIsHeld end) (InProfileIsHeld end) (λ (d : Departure). d.used ≡ end → d.came ≡ Yellow → d.left ≡ Yellow)
    (λ m o aware held _. yellow_left end m o aware held)
    (IsAware-after two_rate) (opening two_rate p Aware origin) refl offers held held
