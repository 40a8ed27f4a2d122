-- What holds of envelopes whatever the order of the sized moments (Cruz 1991, section II).
use Rattle.std.specs.Prelude.{◌≡◌, ℕ, ◌+◌, ◌<◌, ◌≤◌, ◌↔◌, List, ◌++◌, All, length, map, filter, take, Bool, None, Some}
use Rattle.std.specs.List.{flat_map}
use Rattle.std.specs.List.Sorted.{IsPermutation}
use Rattle.moment_core.specs.Conformance.{Keeps}
use Rattle.envelope_core.specs.Curve.{Curve, KeepsCurve, widened, total}
use Rattle.envelope_core.specs.LeakyBucket.{overflow_of}
use Rattle.envelope_core.specs.Order.{IsInOrder}

-- a flow: its envelope and its sized moments
pub record Flow : Type 0 where
  pub curve : Curve
  pub items : List (ℕ × ℕ)

-- a packet that is sent at a moment and arrives after a delay
pub record Journey : Type 0 where
  pub sent : ℕ
  pub delay : ℕ
  pub size : ℕ

abbrev pub departure : Journey → ℕ × ℕ
departure journey = (journey.sent, journey.size)

abbrev pub arrival : Journey → ℕ × ℕ
arrival journey = (journey.sent + journey.delay, journey.size)

-- two flows that merge keep the sums of their rates and of their bursts
abbrev pub TwoFlowsAdd : Type 0
TwoFlowsAdd =
    (rate burst more_rate more_burst : ℕ) (items more : List (ℕ × ℕ))
    → Keeps rate burst items
    → Keeps more_rate more_burst more
    → Keeps (rate + more_rate) (burst + more_burst) (items ++ more)

-- any number of flows that merge keep the sums of their rates and of their bursts
abbrev pub FlowsAdd : Type 0
FlowsAdd =
    (flows : List Flow)
    → All (λ flow. KeepsCurve flow.curve flow.items) flows
    → KeepsCurve (total (map (λ flow. flow.curve) flows)) (flat_map (λ flow. flow.items) flows)

-- Delays between a floor and a floor plus a jitter widen the burst by what the rate gives over the jitter, rounded up,
-- even where packets overtake one another.
abbrev pub DelaysWiden : Type 0
DelaysWiden =
    (curve : Curve) (floor jitter : ℕ) (journeys : List Journey)
    → All (λ journey. (floor ≤ journey.delay) × (journey.delay ≤ floor + jitter)) journeys
    → KeepsCurve curve (map departure journeys)
    → KeepsCurve (widened jitter curve) (map arrival journeys)

-- the order in which sized moments are listed does not matter
abbrev pub OrderIsFree : Type 0
OrderIsFree = (rate burst : ℕ) (items others : List (ℕ × ℕ)) → IsPermutation items others → Keeps rate burst items
    → Keeps rate burst others

-- a part of a flow keeps what the whole keeps
abbrev pub PartsKeep : Type 0
PartsKeep =
    (rate burst : ℕ) (whole part rest : List (ℕ × ℕ)) → IsPermutation whole (part ++ rest) → Keeps rate burst whole
    → Keeps rate burst part

-- what passes a test keeps what the whole keeps
abbrev pub SelectionsKeep : Type 0
SelectionsKeep = (rate burst : ℕ) (test : ℕ × ℕ → Bool) (items : List (ℕ × ℕ)) → Keeps rate burst items
    → Keeps rate burst (filter test items)

-- an envelope with no less rate and no less burst is kept too
abbrev pub LooserEnvelopesAreKept : Type 0
LooserEnvelopesAreKept =
    (rate burst more_rate more_burst : ℕ) (items : List (ℕ × ℕ))
    → rate ≤ more_rate
    → burst ≤ more_burst
    → Keeps rate burst items
    → Keeps more_rate more_burst items

-- An index is the first at which sized moments leave an envelope: those before it keep it, and with its own they do
-- not.
abbrev pub IsFirstBeyond : ℕ → ℕ → List (ℕ × ℕ) → ℕ → Type 0
IsFirstBeyond rate burst items index =
    (index < length items) × Keeps rate burst (take index items) × ¬ Keeps rate burst (take (index + 1) items)

-- Over sized moments in order a leaky bucket takes all in exactly where they keep its rate and its depth, and overflows
-- only at the first at which they do not.
abbrev pub BucketsTell : Type 0
BucketsTell =
    (rate burst : ℕ) (items : List (ℕ × ℕ))
    → IsInOrder items
    → ((overflow_of rate burst items ≡ None) ↔ Keeps rate burst items)
    × ((index : ℕ) → overflow_of rate burst items ≡ Some index → IsFirstBeyond rate burst items index)
