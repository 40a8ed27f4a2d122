-- How late arrivals are that come in an order that keeps rounds.
use Rattle.std.proofs.Common.{◌≡◌, ℕ, zero, suc, ◌+◌, ◌<◌, ◌≤◌, List, [], ◌∷◌, length, map, filter, get_or, sym, subst, subst₂, arith, nat_eq, All, AllPairs}
use Rattle.std.proofs.lemmas.Bool.Decides.{nat_tests}
use Rattle.std.proofs.lemmas.List.{get_or-map, length-map}
use Rattle.std.proofs.lemmas.List.Kept.{AllPairs-filter}
use Rattle.moment_core.specs.Metering.{used}
use Rattle.meter_book_base.specs.AnyMeter.{after_any, newest_of}
use Rattle.meter_book_base.specs.OutputLaws.{goes_on-any}
use Rattle.meter_book_base.specs.declared.any_meter.AnyMeter.{AnyMeter}
use Rattle.meter_book.specs.Replay.{offer_of, replay, rows_from}
use Rattle.meter_book.specs.declared.row.Arrival.{Arrival}
use Rattle.meter_book.specs.declared.row.Row.{Row}
use Rattle.ds_rounds.specs.Orders.{DoNotFall, KeepsRounds, moments_at}
use Rattle.ds_rounds.specs.Rounds.{AreRounds}
use Rattle.ds_rounds.specs.declared.visit.Visit.{Visit}
use Rattle.ds_rounds.proofs.OrderLaws.{none_late}

-- ---- moments, and what has them

-- no moment is more than the skew before one that stands in front of it
abbrev pub AreSoon : ℕ → List ℕ → Type 0
AreSoon skew moments = AllPairs (λ x y. x ≤ y + skew) moments

pub soon-moments : (skew : ℕ) (visits : List Visit) → AllPairs (λ v w. v.moment ≤ w.moment + skew) visits
    → AreSoon skew (map (λ (v : Visit). v.moment) visits)
soon-moments skew [] all i j d first below = absurd (omega (arith, below))
soon-moments skew (v ∷ visits) all i j d first below =
    let f : Visit → ℕ = λ w. w.moment in
    let short : j < length (v ∷ visits) = omega (arith, below, length-map (v ∷ visits) f) in
    let low : i < length (v ∷ visits) = omega (arith, first, short) in
    subst₂ (λ x y. x ≤ y + skew) (sym (get_or-map f (v ∷ visits) i v d low)) (sym (get_or-map f (v ∷ visits) j v d short)) (all i j v first short)

pub soon-arrivals : (skew : ℕ) (arrivals : List Arrival) → AreSoon skew (map (λ (a : Arrival). a.moment) arrivals)
    → AllPairs (λ (a b : Arrival). a.moment ≤ b.moment + skew) arrivals
soon-arrivals skew arrivals all i j d first below =
    let f : Arrival → ℕ = λ a. a.moment in
    let short : j < length (map f arrivals) = omega (arith, below, length-map arrivals f) in
    let low : i < length arrivals = omega (arith, first, below) in
    subst₂ (λ x y. x ≤ y + skew) (get_or-map f arrivals i d 0 low) (get_or-map f arrivals j d 0 below) (all i j 0 first short)

-- ---- rows

used_soon : (newest moment end : ℕ) → newest ≤ end → moment ≤ end → used newest moment ≤ end
unfolding used
used_soon newest moment end h k = grind (arith, nat_tests)

-- rows are late by the skew at most where the meter's newest moment is, and no arrival is more than that before others
pub rows_soon : (skew : ℕ) (m : AnyMeter) (place : ℕ) (arrivals : List Arrival)
    → All (λ (a : Arrival). newest_of m ≤ a.moment + skew) arrivals
    → AllPairs (λ (a b : Arrival). a.moment ≤ b.moment + skew) arrivals
    → All (λ (r : Row). r.late ≤ skew) (rows_from m place arrivals)
rows_soon skew m place [] near soon k d below = absurd (omega (arith, below))
rows_soon skew m place (a ∷ as_) near soon zero d below =
    let here : used (newest_of m) a.moment ≤ a.moment + skew = used_soon (newest_of m) a.moment (a.moment + skew) (near 0 a (omega arith)) (omega arith) in
    omega (arith, here)
rows_soon skew m place (a ∷ as_) near soon (suc k) d below =
    rows_soon skew (after_any m (offer_of a)) (place + 1) as_
    (λ j b under.
    let later = used_soon (newest_of m) a.moment ((get_or as_ j b).moment + skew) (near (suc j) b (omega (arith, under))) (soon 0 (suc j) b (omega arith) (omega (arith, under))) in
    omega (arith, later, goes_on-any m (offer_of a)))
    (λ i j b first under. soon (suc i) (suc j) b (omega (arith, first)) (omega (arith, under)))
    k d (omega (arith, below))

pub none_arrives_late : (skew : ℕ) (visits : List Visit) (counts : List ℕ) (order : List Visit) → DoNotFall visits
    → AreRounds skew visits counts
    → KeepsRounds counts visits order → (site : ℕ) (m : AnyMeter) (arrivals : List Arrival)
    → map (λ (a : Arrival). a.moment) arrivals ≡ moments_at site order
    → All (λ (a : Arrival). newest_of m ≤ a.moment) arrivals
    → All (λ (r : Row). r.late ≤ skew) (replay m arrivals)
none_arrives_late skew visits counts order rise are keeps site m arrivals those after_origin =
    let all = AllPairs-filter (λ (v w : Visit). v.moment ≤ w.moment + skew) (λ (v : Visit). nat_eq v.hop.site site) order (none_late skew visits counts order rise are keeps) in
    let soon = soon-moments skew (filter (λ (v : Visit). nat_eq v.hop.site site) order) all in
    rows_soon skew m 0 arrivals (λ k d below. omega (arith, after_origin k d below)) (soon-arrivals skew arrivals (subst (AreSoon skew) (sym those) soon))
