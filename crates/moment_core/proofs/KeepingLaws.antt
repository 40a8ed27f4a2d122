-- A committed and an excess bucket that have enough keep the colours of packets, and what the packets take from them.
use Rattle.std.proofs.Common.{◌≡◌, ℕ, ◌+◌, ◌≤◌, false, cond, ltb, List, refl, arith}
use Rattle.std.proofs.lemmas.Bool.Decides.{nat_tests}
use Rattle.moment_core.specs.Colours.{is_green, is_in_profile, is_yellow}
use Rattle.moment_core.specs.Conformance.{KeepsUpTo}
use Rattle.moment_core.specs.Excess.{coloured, committed_or_excess, without}
use Rattle.moment_core.specs.declared.bucket.Levels.{Levels}
use Rattle.moment_core.specs.Metering.{Departure, Offer, departures, how, levels_at, opening, used}
use Rattle.moment_core.specs.declared.colour.Colour.{Colour}
use Rattle.moment_core.specs.declared.colour.Colour.TheVariants.{Green, Yellow, Red}
use Rattle.moment_core.specs.declared.colour.Mode.TheVariants.{Aware}
use Rattle.moment_core.proofs.MeteringLaws.{IsFilledAt}
use Rattle.moment_core.proofs.RoomLaws.{Along-any, Holds, IsAware, IsAware-after, KeepingAt, bucket_holds, departures-along, input, left_aware}

pub not_short : (level size : ℕ) → size ≤ level → ltb level size ≡ false
not_short level size h = grind (arith, nat_tests)

-- a green packet for which the committed bucket has enough leaves green
pub green_stays : (l : Levels) (size : ℕ) (came : Colour) → cond (is_green came) size 0 + 0 ≤ l.committed → came ≡ Green → coloured l size came ≡ Green
unfolding coloured
green_stays l size Green held e = rw (not_short l.committed size (omega (arith, held))) refl
green_stays l size Yellow held e = absurd (cc)
green_stays l size Red held e = absurd (cc)

-- a yellow packet for which the excess bucket has enough leaves yellow
pub yellow_stays : (l : Levels) (size : ℕ) (came : Colour) → cond (is_yellow came) size 0 ≤ l.excess → came ≡ Yellow → coloured l size came ≡ Yellow
unfolding coloured
yellow_stays l size Green held e = absurd (cc)
yellow_stays l size Yellow held e = rw (not_short l.excess size held) refl
yellow_stays l size Red held e = absurd (cc)

-- green packets alone take from the committed bucket, and no more than their bytes
pub committed_drains : (l : Levels) (size : ℕ) (came : Colour)
    → l.committed ≤ (without l size (coloured l size came)).committed + cond (is_green came) size 0
unfolding coloured without
committed_drains l size Green = grind (arith, nat_tests)
committed_drains l size Yellow = grind (arith, nat_tests)
committed_drains l size Red = omega arith

-- packets in profile alone take from the two buckets, and no more than their bytes
pub both_drain : (l : Levels) (size : ℕ) (came : Colour)
    → l.committed + l.excess
    ≤ (without l size (coloured l size came)).committed + (without l size (coloured l size came)).excess + cond (is_in_profile came) size 0
unfolding coloured without
both_drain l size Green = grind (arith, nat_tests)
both_drain l size Yellow = grind (arith, nat_tests)
both_drain l size Red = omega arith

-- where green packets stay green, yellow ones alone take from the excess bucket, and no more than their bytes
pub excess_drains : (l : Levels) (size : ℕ) (came : Colour) → (came ≡ Green → coloured l size came ≡ Green)
    → l.excess ≤ (without l size (coloured l size came)).excess + cond (is_yellow came) size 0
unfolding coloured without
excess_drains l size Green stays = rw (stays refl) (omega arith)
excess_drains l size Yellow stays = grind (arith, nat_tests)
excess_drains l size Red stays = omega arith

-- so in a meter with these buckets a green packet leaves green where, in the windows that end with it, green packets keep
-- the committed bucket's rate and size
pub green_stays_green : {P : Type 0} (full : P → Levels) (gain : P → ℕ → ℕ → Levels → Levels) (size rate : P → ℕ)
    → IsFilledAt (committed_or_excess full gain) (λ l. l.committed) size rate → ((p : P) → (full p).committed ≡ size p)
    → (end : ℕ) (p : P) (origin : ℕ) (offers : List Offer)
    → KeepsUpTo end (rate p) (size p) (input is_green (departures (how (committed_or_excess full gain)) (opening (committed_or_excess full gain) p Aware origin) offers))
    → KeepingAt end Green (departures (how (committed_or_excess full gain)) (opening (committed_or_excess full gain) p Aware origin) offers)
unfolding opening
green_stays_green full gain size rate fill is_full end p origin offers kept =
    let rules = committed_or_excess full gain in
    let m = opening rules p Aware origin in
    let held = bucket_holds rules (λ _ _. Unit {0}) is_green (λ l. l.committed) size rate end fill is_full
    (λ m o _ _. committed_drains (levels_at rules m (used m.newest o.moment)) o.size o.came) p origin offers (Along-any rules m offers) kept
    in
    departures-along rules IsAware (Holds rules is_green (λ l. l.committed) end) (λ _ _. Unit {0})
    (λ (d : Departure). d.used ≡ end → d.came ≡ Green → d.left ≡ Green)
    (λ m o aware held _ last. left_aware rules m o Green aware (green_stays (levels_at rules m (used m.newest o.moment)) o.size o.came (held last)))
    (IsAware-after rules) m refl offers held (Along-any rules m offers)
