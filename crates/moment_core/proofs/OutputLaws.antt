-- What every meter's output keeps: colours, the order of time, and envelopes.
use Rattle.std.proofs.Common.{◌≡◌, ℕ, ◌+◌, ◌-◌, ◌*◌, ◌/◌, ◌<◌, ◌≤◌, zero, suc, Bool, true, false, cond, List, [], ◌∷◌, map, sum_by, refl, sym, arith, zero-add, inl, inr}
use Rattle.std.specs.List.{All, AllPairs, filter}
use Rattle.std.proofs.lemmas.Bool.{cases_lt}
use Rattle.std.proofs.lemmas.Bool.Decides.{nat_tests}
use Rattle.std.proofs.lemmas.List.Sums.{sum_by-cons}
use Rattle.moment_core.specs.Colours.{IsNoBetter, output}
use Rattle.moment_core.specs.Conformance.{Keeps, size_within}
use Rattle.moment_core.specs.Metering.{Departure, How, Offer, Rules, State, after, colour_of, departures, how, levels_at, seen, used}
use Rattle.moment_core.specs.declared.colour.Colour.{Colour}
use Rattle.moment_core.specs.declared.colour.Mode.TheVariants.{Aware}
use Rattle.moment_core.specs.Tokens.{given}
use Rattle.moment_core.proofs.FillingLaws.{given-window, given-window_of_two, with_tokens_le, with_tokens_within}
use Rattle.moment_core.proofs.MeteringLaws.{IsFilledAt, newest_le-used}
use Rattle.moment_core.proofs.TokenLaws.{given-mono}

-- a meter whose rules never improve a colour never does so where it heeds the colour
pub never_improves : {P L : Type 0} (rules : Rules P L) → ((l : L) (size : ℕ) (came : Colour) → IsNoBetter came (rules.coloured l size came))
    → (m : State P L) (o : Offer) → m.mode ≡ Aware → IsNoBetter o.came (colour_of rules m o)
unfolding colour_of levels_at
never_improves rules no_better m o aware = rw aware (no_better (levels_at rules m (used m.newest o.moment)) o.size o.came)

-- the bytes of a departure whose colour is picked
abbrev pub taken : (Colour → Bool) → Departure → ℕ
taken picked d = cond (picked d.left) d.size 0

-- a fund that is given tokens up to the moment that a packet is metered at, and is left with the rest once it paid
pub record IsPaid (given : ℕ → ℕ) (size newest level used bytes rest : ℕ) : Type 0 where
  pub later : newest ≤ used
  pub gained : rest + bytes ≤ level + (given used - given newest)
  pub within : rest + bytes ≤ size

-- a fund of some size pays for each departure of a picked colour
abbrev pub Funded : (ℕ → ℕ) → ℕ → (Colour → Bool) → ℕ → ℕ → List Departure → Type 0
Funded given size picked newest level [] = Unit {0}
Funded given size picked newest level (d ∷ ds) =
    (rest : ℕ) × IsPaid given size newest level d.used (taken picked d) rest × Funded given size picked d.used rest ds

-- the bytes that a window holds of one packet, if it is picked
abbrev pub weight : ℕ → ℕ → Bool → ℕ → ℕ → ℕ
weight start end picked moment bytes = cond picked (size_within start end (moment, bytes)) 0

weight-le : (start end : ℕ) (picked : Bool) (moment bytes : ℕ) → weight start end picked moment bytes ≤ cond picked bytes 0
weight-le start end picked moment bytes = grind (arith, nat_tests)

weight-before : (start end : ℕ) (picked : Bool) (moment bytes : ℕ) → moment < start → weight start end picked moment bytes ≤ 0
weight-before start end picked moment bytes h = grind (arith, nat_tests)

weight-past : (start end : ℕ) (picked : Bool) (moment bytes : ℕ) → end < moment → weight start end picked moment bytes ≤ 0
weight-past start end picked moment bytes h = grind (arith, nat_tests)

pub sum_where : {X Y : Type 0} (f : X → Y) (g : Y → ℕ) (b : Bool) (x : X) (xs : List X)
    → sum_by g (map f (cond b (x ∷ xs) xs)) ≡ cond b (g (f x)) 0 + sum_by g (map f xs)
sum_where f g true x xs = sum_by-cons g (f x) (map f xs)
sum_where f g false x xs = sym (zero-add (sum_by g (map f xs)))

-- the bytes that a window holds of what left with a picked colour
abbrev pub held : ℕ → ℕ → (Colour → Bool) → List Departure → ℕ
held start end picked ds = sum_by (size_within start end) (output picked ds)

held-cons : (start end : ℕ) (picked : Colour → Bool) (d : Departure) (ds : List Departure)
    → held start end picked (d ∷ ds) ≡ weight start end (picked d.left) d.used d.size + held start end picked ds
held-cons start end picked d ds =
    sum_where (λ (d : Departure). (d.used, d.size)) (size_within start end) (picked d.left) d (filter (λ (d : Departure). picked d.left) ds)

-- a window that has ended holds nothing
held_past : (given : ℕ → ℕ) (size : ℕ) (picked : Colour → Bool) (start end newest level : ℕ) (ds : List Departure)
    → Funded given size picked newest level ds → end < newest → held start end picked ds ≤ 0
held_past given size picked start end newest level [] f h = omega arith
held_past given size picked start end newest level (d ∷ ds) f h =
    let paid = f.1 in
    let more = held_past given size picked start end d.used f.0 ds f.2 (omega (arith, paid.later)) in
    let one = weight-past start end (picked d.left) d.used d.size (omega (arith, paid.later)) in
    rw held-cons (omega (arith, more, one))

-- a window holds no more than the level and what is given up to its end
held_from_level : (given : ℕ → ℕ) → ((s e : ℕ) → s ≤ e → given s ≤ given e) → (size : ℕ) (picked : Colour → Bool) (start end newest level : ℕ) (ds : List Departure)
    → Funded given size picked newest level ds → held start end picked ds ≤ level + (given end - given newest)
held_from_level given mono size picked start end newest level [] f = omega arith
held_from_level given mono size picked start end newest level (d ∷ ds) f =
    let paid = f.1 in
    elim (cases_lt end d.used) [
      | inl past ↦
          let more = held_past given size picked start end d.used f.0 ds f.2 past in
          let one = weight-past start end (picked d.left) d.used d.size past in
          rw held-cons (omega (arith, more, one))
      | inr reached ↦
          let more = held_from_level given mono size picked start end d.used f.0 ds f.2 in
          let one = weight-le start end (picked d.left) d.used d.size in
          rw held-cons (omega (arith, more, one, paid.gained, mono newest d.used paid.later, mono d.used end reached))
    ]

-- a window holds no more than the size and what is given in it
held_from_size : (given : ℕ → ℕ) → ((s e : ℕ) → s ≤ e → given s ≤ given e) → (size : ℕ) (picked : Colour → Bool) (start end newest level : ℕ) (ds : List Departure)
    → Funded given size picked newest level ds → held start end picked ds ≤ size + (given end - given start)
held_from_size given mono size picked start end newest level [] f = omega arith
held_from_size given mono size picked start end newest level (d ∷ ds) f =
    let paid = f.1 in
    elim (cases_lt d.used start) [
      | inl before ↦
          let more = held_from_size given mono size picked start end d.used f.0 ds f.2 in
          let one = weight-before start end (picked d.left) d.used d.size before in
          rw held-cons (omega (arith, more, one))
      | inr begun ↦
          let more = held_from_level given mono size picked start end d.used f.0 ds f.2 in
          let one = weight-le start end (picked d.left) d.used d.size in
          rw held-cons (omega (arith, more, one, paid.within, mono start d.used begun))
    ]

-- So what a fund pays for keeps the envelope that its size and the tokens of a window come to.
pub Keeps-Funded : (given : ℕ → ℕ) → ((s e : ℕ) → s ≤ e → given s ≤ given e) → (size rate burst : ℕ)
    → ((s e : ℕ) → s ≤ e → size + (given e - given s) ≤ burst + rate * (e - s) / 8000000000)
    → (picked : Colour → Bool) (newest level : ℕ) (ds : List Departure) → Funded given size picked newest level ds → Keeps rate burst (output picked ds)
Keeps-Funded given mono size rate burst enough picked newest level ds f start end h =
    let most = held_from_size given mono size picked start end newest level ds f in
    omega (arith, most, enough start end h)

-- A meter's fund, as a number of its levels, pays for its departures: it gains no more than it is given, it is within
-- its size before each packet, and each packet of a picked colour takes its bytes out.
pub funded : {P L : Type 0} (rules : Rules P L) (fits : State P L → Type 0) (picked : Colour → Bool) (level : L → ℕ) (size : P → ℕ) (given : P → ℕ → ℕ → ℕ)
    → ((m : State P L) (moment : ℕ) → level (levels_at rules m (used m.newest moment)) ≤ level m.levels + (given m.parameters m.origin (used m.newest moment) - given m.parameters m.origin m.newest))
    → ((m : State P L) (moment : ℕ) → fits m → level (levels_at rules m (used m.newest moment)) ≤ size m.parameters)
    → ((l : L) (bytes : ℕ) (came : Colour) → level (rules.without l bytes (rules.coloured l bytes came)) + cond (picked (rules.coloured l bytes came)) bytes 0 ≤ level l)
    → ((m : State P L) (o : Offer) → fits m → fits (after rules m o))
    → (m : State P L) → fits m → (offers : List Offer)
    → Funded (given m.parameters m.origin) (size m.parameters) picked m.newest (level m.levels) (departures (how rules) m offers)
unfolding after colour_of
funded rules fits picked level size given gains within pays stays m ok [] = tt
funded rules fits picked level size given gains within pays stays m ok (o ∷ os) =
    let before = levels_at rules m (used m.newest o.moment) in
    let paid = pays before o.size (seen m.mode o.came) in (
      level (after rules m o).levels,
      record {
        later = newest_le-used m.newest o.moment;
        gained = omega (arith, paid, gains m o.moment);
        within = omega (arith, paid, within m o.moment ok);
      },
      funded rules fits picked level size given gains within pays stays (after rules m o) (stays m o ok) os,
    )

-- so where the fund is filled at one rate, the output keeps that rate, and a byte more than its size as a burst
pub Keeps-one_rate : {P L : Type 0} (rules : Rules P L) (fits : State P L → Type 0) (picked : Colour → Bool) (level : L → ℕ) (size rate : P → ℕ)
    → ((m : State P L) (moment : ℕ) → level (levels_at rules m (used m.newest moment)) ≤ level m.levels + (given (rate m.parameters) m.origin (used m.newest moment) - given (rate m.parameters) m.origin m.newest))
    → ((m : State P L) (moment : ℕ) → fits m → level (levels_at rules m (used m.newest moment)) ≤ size m.parameters)
    → ((l : L) (bytes : ℕ) (came : Colour) → level (rules.without l bytes (rules.coloured l bytes came)) + cond (picked (rules.coloured l bytes came)) bytes 0 ≤ level l)
    → ((m : State P L) (o : Offer) → fits m → fits (after rules m o))
    → (m : State P L) → fits m → (offers : List Offer)
    → Keeps (rate m.parameters) (size m.parameters + 1) (output picked (departures (how rules) m offers))
Keeps-one_rate rules fits picked level size rate gains within pays stays m ok offers =
    let r = rate m.parameters in
    let b = size m.parameters in
    Keeps-Funded (given r m.origin) (given-mono r m.origin) b r (b + 1) (λ s e h. omega (arith, given-window r m.origin s e h)) picked m.newest (level m.levels)
    (departures (how rules) m offers) (funded rules fits picked level size (λ p. given (rate p)) gains within pays stays m ok offers)

-- a bucket that a rate fills gains no more than the tokens of the rate
pub gains_at : {P L : Type 0} (rules : Rules P L) (level : L → ℕ) (size rate : P → ℕ) → IsFilledAt rules level size rate → (m : State P L) (moment : ℕ)
    → level (levels_at rules m (used m.newest moment)) ≤ level m.levels + (given (rate m.parameters) m.origin (used m.newest moment) - given (rate m.parameters) m.origin m.newest)
gains_at rules level size rate fill m moment = rw (fill m moment) (with_tokens_le (size m.parameters) _ (level m.levels))

-- and stays within its size
pub fits_at : {P L : Type 0} (rules : Rules P L) (level : L → ℕ) (size rate : P → ℕ) → IsFilledAt rules level size rate → (m : State P L) (moment : ℕ)
    → level m.levels ≤ size m.parameters → level (levels_at rules m (used m.newest moment)) ≤ size m.parameters
fits_at rules level size rate fill m moment within = rw (fill m moment) (with_tokens_within (size m.parameters) _ (level m.levels) within)

-- also after a packet, where that leaves it with no more than it had
pub fits_after : {P L : Type 0} (rules : Rules P L) (level : L → ℕ) (most : P → ℕ) → ((l : L) (bytes : ℕ) (left : Colour) → level (rules.without l bytes left) ≤ level l)
    → (m : State P L) (o : Offer) → level (levels_at rules m (used m.newest o.moment)) ≤ most m.parameters → level (after rules m o).levels ≤ most m.parameters
unfolding after
fits_after rules level most falls m o within =
    omega (arith, within, falls (levels_at rules m (used m.newest o.moment)) o.size (colour_of rules m o))

-- so what such a bucket pays for keeps its rate, and a byte more than its size as a burst
pub Keeps-bucket : {P L : Type 0} (rules : Rules P L) (fits : State P L → Type 0) (picked : Colour → Bool) (level : L → ℕ) (size rate : P → ℕ)
    → IsFilledAt rules level size rate
    → ((m : State P L) → fits m → level m.levels ≤ size m.parameters)
    → ((l : L) (bytes : ℕ) (came : Colour) → level (rules.without l bytes (rules.coloured l bytes came)) + cond (picked (rules.coloured l bytes came)) bytes 0 ≤ level l)
    → ((m : State P L) (o : Offer) → fits m → fits (after rules m o))
    → (m : State P L) → fits m → (offers : List Offer)
    → Keeps (rate m.parameters) (size m.parameters + 1) (output picked (departures (how rules) m offers))
Keeps-bucket rules fits picked level size rate fill within pays stays =
    Keeps-one_rate rules fits picked level size rate (gains_at rules level size rate fill) (λ m moment ok. fits_at rules level size rate fill m moment (within m ok)) pays stays

-- and where a fund is filled at two rates, both rates, and two bytes more
pub Keeps-two_rates : {P L : Type 0} (rules : Rules P L) (fits : State P L → Type 0) (picked : Colour → Bool) (level : L → ℕ) (size rate other : P → ℕ)
    → ((m : State P L) (moment : ℕ) → level (levels_at rules m (used m.newest moment))
    ≤ level m.levels
    + ((given (rate m.parameters) m.origin (used m.newest moment) + given (other m.parameters) m.origin (used m.newest moment))
    - (given (rate m.parameters) m.origin m.newest + given (other m.parameters) m.origin m.newest)))
    → ((m : State P L) (moment : ℕ) → fits m → level (levels_at rules m (used m.newest moment)) ≤ size m.parameters)
    → ((l : L) (bytes : ℕ) (came : Colour) → level (rules.without l bytes (rules.coloured l bytes came)) + cond (picked (rules.coloured l bytes came)) bytes 0 ≤ level l)
    → ((m : State P L) (o : Offer) → fits m → fits (after rules m o))
    → (m : State P L) → fits m → (offers : List Offer)
    → Keeps (rate m.parameters + other m.parameters) (size m.parameters + 2) (output picked (departures (how rules) m offers))
Keeps-two_rates rules fits picked level size rate other gains within pays stays m ok offers =
    let r = rate m.parameters in
    let q = other m.parameters in
    let b = size m.parameters in
    Keeps-Funded (λ t. given r m.origin t + given q m.origin t) (λ s e h. omega (arith, given-mono r m.origin s e h, given-mono q m.origin s e h)) b (r + q) (b + 2)
    (λ s e h. omega (arith, given-window_of_two r q m.origin s e h)) picked m.newest (level m.levels) (departures (how rules) m offers)
    (funded rules fits picked level size (λ p o t. given (rate p) o t + given (other p) o t) gains within pays stays m ok offers)

-- no packet is metered before the meter's newest moment
pub departures_later : {S : Type 0} (h : How S) → ((m : S) (o : Offer) → h.newest (h.after m o) ≡ used (h.newest m) o.moment)
    → (m : S) (offers : List Offer) → All (λ (d : Departure). h.newest m ≤ d.used) (departures h m offers)
departures_later h moves m [] k d below = absurd (omega (arith, below))
departures_later h moves m (o ∷ os) zero d below = newest_le-used (h.newest m) o.moment
departures_later h moves m (o ∷ os) (suc k) d below =
    omega (arith, departures_later h moves (h.after m o) os k d (omega (arith, below)), moves m o, newest_le-used (h.newest m) o.moment)

-- nor before the packet in front of it
pub departures_in_order : {S : Type 0} (h : How S) → ((m : S) (o : Offer) → h.newest (h.after m o) ≡ used (h.newest m) o.moment)
    → (m : S) (offers : List Offer) → AllPairs (λ (a b : Departure). a.used ≤ b.used) (departures h m offers)
departures_in_order h moves m [] i j d first below = absurd (omega (arith, below))
departures_in_order h moves m (o ∷ os) i zero d first below = absurd (omega (arith, first))
departures_in_order h moves m (o ∷ os) zero (suc j) d first below =
    omega (arith, departures_later h moves (h.after m o) os j d (omega (arith, below)), moves m o)
departures_in_order h moves m (o ∷ os) (suc i) (suc j) d first below =
    departures_in_order h moves (h.after m o) os i j d (omega (arith, first)) (omega (arith, below))

-- meters that follow some rules move on to the moment that they meter at
pub newest-after : {P L : Type 0} (rules : Rules P L) (m : State P L) (o : Offer) → (after rules m o).newest ≡ used m.newest o.moment
unfolding after
newest-after rules m o = refl

-- a meter that stands for another one has its departures
pub departures-same : {S T : Type 0} (f : S → T) (h : How S) (k : How T) → ((m : S) → k.newest (f m) ≡ h.newest m) → ((m : S) (o : Offer) → k.left (f m) o ≡ h.left m o)
    → ((m : S) (o : Offer) → k.after (f m) o ≡ f (h.after m o)) → (m : S) (offers : List Offer) → departures k (f m) offers ≡ departures h m offers
departures-same f h k newest left after m [] = refl
departures-same f h k newest left after m (o ∷ os) =
    rw (newest m, left m o, after m o, departures-same f h k newest left after (h.after m o) os) refl
