-- An aware meter with two separate rates keeps the colours of traffic that keeps what its buckets have.
use Rattle.std.proofs.Common.{◌≡◌, ℕ, List, ap, refl, sym, ◌∙◌, arith}
use Rattle.moment_core.specs.Colours.{is_green, is_yellow}
use Rattle.moment_core.specs.Conformance.{KeepsUpTo}
use Rattle.moment_core.specs.Excess.{coloured}
use Rattle.moment_core.specs.declared.bucket.Levels.{Levels}
use Rattle.moment_core.specs.Metering.{Departure, Offer, State, colour_of, departures, how, levels_at, opening, seen, used}
use Rattle.moment_core.specs.declared.colour.Colour.TheVariants.{Green, Yellow}
use Rattle.moment_core.specs.declared.colour.Mode.TheVariants.{Aware}
use Rattle.moment_core.proofs.KeepingLaws as keeping
use Rattle.moment_core.proofs.KeepingLaws.{excess_drains, yellow_stays}
use Rattle.moment_core.proofs.RoomLaws.{Along-departures, Holds, IsAware, IsAware-after, Keeping, KeepingAt, bucket_holds, departures-along, input, left_aware}
use Rattle.rfc4115_core.specs.declared.parameters.Rfc4115Parameters.{Rfc4115Parameters}
use Rattle.rfc4115_core.specs.SeparateRates.{full, gain, separate_rates}
use Rattle.rfc4115_core.proofs.SeparateRatesLaws.{committed_filled, excess_filled}

-- a green packet leaves green where, in the windows that end with it, green ones keep the committed rate and burst
pub green_stays_green : (end : ℕ) (p : Rfc4115Parameters) (origin : ℕ) (offers : List Offer)
    → KeepsUpTo end p.committed_rate p.committed_burst (input is_green (departures (how separate_rates) (opening separate_rates p Aware origin) offers))
    → KeepingAt end Green (departures (how separate_rates) (opening separate_rates p Aware origin) offers)
unfolding separate_rates full
green_stays_green = keeping.green_stays_green full gain (λ p. p.committed_burst) (λ p. p.committed_rate) committed_filled (λ _. refl)

abbrev GreenStays : State Rfc4115Parameters Levels → Offer → Type 0
GreenStays m o = o.came ≡ Green → colour_of separate_rates m o ≡ Green

-- where the mode is aware, the colour that is seen is the one that came
green_seen : (m : State Rfc4115Parameters Levels) (o : Offer) → IsAware m → GreenStays m o
    → o.came ≡ Green → coloured (levels_at separate_rates m (used m.newest o.moment)) o.size o.came ≡ Green
unfolding colour_of separate_rates
green_seen m o aware stays green =
    sym (ap (λ mode. coloured (levels_at separate_rates m (used m.newest o.moment)) o.size (seen mode o.came)) aware) ∙ stays green

-- where green packets leave green, a yellow one leaves yellow if, in the windows that end with it, yellow ones keep the excess
-- rate and burst
pub yellow_stays_yellow : (end : ℕ) (p : Rfc4115Parameters) (origin : ℕ) (offers : List Offer)
    → Keeping Green (departures (how separate_rates) (opening separate_rates p Aware origin) offers)
    → KeepsUpTo end p.excess_rate p.excess_burst (input is_yellow (departures (how separate_rates) (opening separate_rates p Aware origin) offers))
    → KeepingAt end Yellow (departures (how separate_rates) (opening separate_rates p Aware origin) offers)
unfolding opening separate_rates full
yellow_stays_yellow end p origin offers greens kept =
    let m = opening separate_rates p Aware origin in
    let stays = Along-departures separate_rates (λ (d : Departure). d.came ≡ Green → d.left ≡ Green) m offers greens in
    let held = bucket_holds separate_rates GreenStays is_yellow (λ l. l.excess) (λ p. p.excess_burst) (λ p. p.excess_rate) end excess_filled (λ _. refl)
    (λ m o aware green. excess_drains (levels_at separate_rates m (used m.newest o.moment)) o.size o.came (green_seen m o aware green)) p origin offers stays kept
    in
    departures-along separate_rates IsAware (Holds separate_rates is_yellow (λ l. l.excess) end) GreenStays
    (λ (d : Departure). d.used ≡ end → d.came ≡ Yellow → d.left ≡ Yellow)
    (λ m o aware held _ last. left_aware separate_rates m o Yellow aware (yellow_stays (levels_at separate_rates m (used m.newest o.moment)) o.size o.came (omega (arith, held last))))
    (IsAware-after separate_rates) m refl offers held stays
