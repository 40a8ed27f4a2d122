-- Ids that are held count up: where one stands among them, or that it does not.
use Rattle.std.proofs.Common.{◌≡◌, ◌≤◌, ◌<◌, ◌+◌, ◌-◌, ℕ, zero, suc, false, List, [], ◌∷◌, ◌++◌, None, refl, ap, arith, inl, inr, get_or}
use Rattle.std.specs.Prelude.{⊤, length, map, nat_eq}
use Rattle.std.specs.List.{AllByRecursion}
use Rattle.std.specs.List.Sorted.{IsStrictlyIncreasing}
use Rattle.std.proofs.lemmas.Bool.{cases_Bool}
use Rattle.std.proofs.lemmas.List.{length-map}
use Rattle.ds_broker.specs.Books.{holding_of}
use Rattle.ds_broker.specs.Found.{IsFirst}
use Rattle.ds_broker.specs.Histories.{Holding, Standing, after, begun, opening, standing_of, with_released, with_retired}
use Rattle.ds_broker.specs.Kept.{ids_in}
use Rattle.ds_broker.specs.declared.command.Command.{Command}
use Rattle.ds_broker.specs.declared.command.Command.TheVariants.{Reserve, Release, Retire}
use Rattle.ds_broker.proofs.StandingLaws.{IsBounded, bounded-after, fold-keeps}
use Rattle.ds_broker.proofs.HoldingLaws.{AllByRecursion-push, all-released, all-retired}

-- no id is above another behind it
unfoldable pub IsRising : List Holding → Type 0
IsRising [] = ⊤
IsRising (h ∷ held) = AllByRecursion (λ g. h.id < g.id) held × IsRising held

rising-push : (held : List Holding) (h : Holding) → AllByRecursion (λ g. g.id < h.id) held → IsRising held → IsRising (held ++ h ∷ [])
unfolding IsRising
rising-push [] h below rising = (tt, tt)
rising-push (g ∷ held) h below rising = (AllByRecursion-push (λ x. g.id < x.id) held h rising.0 below.0, rising-push held h below.1 rising.1)

rising-released : (id moment : ℕ) (held : List Holding) → IsRising held → IsRising (with_released id moment held)
unfolding IsRising with_released
rising-released id moment [] rising = tt
rising-released id moment (h ∷ held) rising = elim (cases_Bool (nat_eq id h.id)) [
  | inl same ↦ rw same rising
  | inr other ↦ rw other (all-released (λ g. h.id < g.id) id moment held (λ g own. own) rising.0, rising-released id moment held rising.1)
]

rising-retired : (id : ℕ) (held : List Holding) → IsRising held → IsRising (with_retired id held)
unfolding IsRising with_retired
rising-retired id [] rising = tt
rising-retired id (h ∷ held) rising = elim (cases_Bool (nat_eq id h.id)) [
  | inl same ↦ rw same rising.1
  | inr other ↦ rw other (all-retired (λ g. h.id < g.id) id held rising.0, rising-retired id held rising.1)
]

below-next : (granted newest : ℕ) (held : List Holding) → AllByRecursion (IsBounded granted newest) held → AllByRecursion (λ g. g.id < granted + 1) held
below-next granted newest [] all = tt
below-next granted newest (g ∷ held) all = (omega (arith, all.0.0), below-next granted newest held all.1)

rising-after : (s : Standing) (command : Command) → AllByRecursion (IsBounded s.granted s.newest) s.held → IsRising s.held → IsRising (after s command).held
rising-after s (Reserve c) bounded rising =
    rising-push s.held (record { id = s.granted + 1; contract = begun s.newest c; released = false }) (below-next s.granted s.newest s.held bounded) rising
rising-after s (Release id at) bounded rising = rising-released id _ s.held rising
rising-after s (Retire id moment) bounded rising = rising-retired id s.held rising

pub standing-rising : (history : List Command) → IsRising (standing_of history).held
unfolding standing_of IsRising
standing-rising history =
    (fold-keeps (λ s. AllByRecursion (IsBounded s.granted s.newest) s.held × IsRising s.held)
    (λ s command own. (bounded-after s command own.0, rising-after s command own.0 own.1)) opening history (tt, tt)).1

above-at : (n : ℕ) (held : List Holding) (place : ℕ) → AllByRecursion (λ g. n < g.id) held → place < length (ids_in held) → n < get_or (ids_in held) place 0
above-at n [] place all within = absurd (let none : ⊥ = omega (arith, within) in none)
above-at n (h ∷ held) zero all within = all.0
above-at n (h ∷ held) (suc place) all within = above-at n held place all.1 (omega (arith, within))

-- so they are sorted
pub rising-sorted : (held : List Holding) → IsRising held → (i j : ℕ) → i ≤ j → j < length (ids_in held) → get_or (ids_in held) i 0 ≤ get_or (ids_in held) j 0
unfolding IsRising
rising-sorted [] rising i j lower within = absurd (let none : ⊥ = omega (arith, within) in none)
rising-sorted (h ∷ held) rising zero zero lower within = omega arith
rising-sorted (h ∷ held) rising zero (suc j) lower within = omega (arith, above-at h.id held j rising.0 (omega (arith, within)))
rising-sorted (h ∷ held) rising (suc i) zero lower within = absurd (let none : ⊥ = omega (arith, lower) in none)
rising-sorted (h ∷ held) rising (suc i) (suc j) lower within = rising-sorted held rising.1 i j (omega (arith, lower)) (omega (arith, within))

-- the place of an id is that of its contract
pub first-rising : (id : ℕ) (held : List Holding) (place : ℕ) → IsRising held → place < length (ids_in held) → get_or (ids_in held) place 0 ≡ id → IsFirst id held place
unfolding IsRising IsFirst
first-rising id [] place rising within here = absurd (let none : ⊥ = omega (arith, within) in none)
first-rising id (h ∷ held) zero rising within here = grind (arith, here)
first-rising id (h ∷ held) (suc place) rising within here =
    let inside : place < length (ids_in held) = omega (arith, within) in
    let above = above-at h.id held place rising.0 inside in
    (grind (arith, above, here), first-rising id held place rising.1 inside here)

-- and where none is the id, nothing is held under it
pub missing-apart : (id : ℕ) (held : List Holding) → ((k : ℕ) → k < length (ids_in held) → get_or (ids_in held) k 0 ≡ id → ⊥) → holding_of id held ≡ None
missing-apart id [] none = refl
missing-apart id (h ∷ held) none = elim (cases_Bool (nat_eq id h.id)) [
  | inl same ↦ absurd (none 0 (omega arith) (grind (arith, same)))
  | inr other ↦ rw other (missing-apart id held (λ k within here. none (suc k) (omega (arith, within)) here))
]

-- ---- the flows of what is held, each the id less 1

-- no id is 0
abbrev AreGiven : List Holding → Type 0
AreGiven held = AllByRecursion (λ h. 0 < h.id) held

given-after : (s : Standing) (command : Command) → AreGiven s.held → AreGiven (after s command).held
given-after s (Reserve c) all = AllByRecursion-push (λ g. 0 < g.id) s.held (record { id = s.granted + 1; contract = begun s.newest c; released = false }) all (omega arith)
given-after s (Release id at) all = all-released (λ g. 0 < g.id) id _ s.held (λ g own. own) all
given-after s (Retire id moment) all = all-retired (λ g. 0 < g.id) id s.held all

standing-given : (history : List Command) → AreGiven (standing_of history).held
unfolding standing_of
standing-given history = fold-keeps (λ s. AreGiven s.held) given-after opening history tt

id-next : (held : List Holding) (k : ℕ) → IsRising held → suc k < length (ids_in held) → get_or (ids_in held) k 0 < get_or (ids_in held) (suc k) 0
unfolding IsRising
id-next [] k rising within = absurd (let none : ⊥ = omega (arith, within) in none)
id-next (h ∷ held) zero rising within = above-at h.id held 0 rising.0 (omega (arith, within))
id-next (h ∷ held) (suc k) rising within = id-next held k rising.1 (omega (arith, within))

flow-at : (held : List Holding) (k : ℕ) → get_or (map (λ h. h.id - 1) held) k 0 ≡ get_or (ids_in held) k 0 - 1
flow-at [] k = refl
flow-at (h ∷ held) zero = refl
flow-at (h ∷ held) (suc k) = flow-at held k

-- the flows of what is held behind any history rise
pub flows-rising : (history : List Command) → IsStrictlyIncreasing (map (λ h. h.id - 1) (standing_of history).held)
flows-rising history k within =
    let held = (standing_of history).held in
    let next : suc k ≡ k + 1 = omega arith in
    let long : length (map (λ h. h.id - 1) held) ≡ length held = length-map held (λ h. h.id - 1) in
    let many : length (ids_in held) ≡ length held = length-map held (λ h. h.id) in
    let given : 0 < get_or (ids_in held) k 0 = above-at 0 held k (standing-given history) (omega (arith, within, long, many)) in
    let more : get_or (ids_in held) k 0 < get_or (ids_in held) (suc k) 0 = id-next held k (standing-rising history) (omega (arith, within, long, many)) in
    let there = ap (λ i. get_or (ids_in held) i 0) next in
    omega (arith, given, more, there, flow-at held k, flow-at held (k + 1))
