-- Flows that come and go, each with a share of a rate and of a burst for a time (Cruz 1991, section II).
use Rattle.std.proofs.Common.{◌≡◌, ℕ, ◌+◌, ◌-◌, ◌*◌, ◌/◌, ◌<◌, ◌≤◌, zero, suc, inl, inr, Bool, true, false, cond, List, [], ◌∷◌, refl, sym, ◌∙◌, ap, arith, get_or, Option, None, Some}
use Rattle.std.proofs.Math.Nat.{mul_comm, mul-le-mul_left, mul-add}
use Rattle.std.proofs.lemmas.Grind.{div_ceil_times}
use Rattle.std.proofs.lemmas.Bool.{cases_lt}
use Rattle.std.specs.List.{sum_by, filter, flat_map, All}
use Rattle.std.specs.Option.{ForSome}
use Rattle.moment_core.specs.Conformance.{size_within, Keeps}
use Rattle.moment_core.specs.Volume.{nanoseconds_for}
use Rattle.envelope_core.proofs.Quotients.{bytes_within, bytes_within_back}
use Rattle.envelope_core.proofs.Windows.{size_within_after, size_within_cases, size_within_inside, sum_by-filter, sum_by-flat_map, sum_by-mono, sum_by-none, sum_by-split}
use Rattle.std.proofs.lemmas.List.Sums.{sum_by-cons}
use Rattle.std.proofs.lemmas.Option.{same_Some, none-some}

-- in how many of so many nanoseconds from a moment on a share is reserved
unfoldable pub reserved_in : (ℕ → Bool) → ℕ → ℕ → ℕ
reserved_in reserved start zero = 0
reserved_in reserved start (suc count) = reserved_in reserved start count + cond (reserved (start + count)) 1 0

-- no fewer than there are from a first moment until before a last one, at each of which it is
reserved_in-least : (reserved : ℕ → Bool) (start count first last : ℕ) → start ≤ first → last ≤ start + count
    → ((moment : ℕ) → first ≤ moment → moment < last → reserved moment ≡ true)
    → last ≤ first + reserved_in reserved start count
unfolding reserved_in
reserved_in-least reserved start zero first last begun ended held = omega (arith, begun, ended)
reserved_in-least reserved start (suc count) first last begun ended held =
    elim (cases_lt first last) [
      | inr none ↦ omega (arith, none)
      | inl some ↦
          elim (cases_lt (start + count) last) [
            | inl newest ↦
                let here = counted (reserved (start + count)) (held (start + count) (omega (arith, some, newest, ended)) newest) in
                omega (arith, here, ended, reserved_in-least reserved start count first (start + count) begun (omega arith) (λ moment from before. held moment from (omega (arith, before, newest))))
            | inr older ↦ omega (arith, reserved_in-least reserved start count first last begun older held)
          ]
    ]
  where
    counted : (here : Bool) → here ≡ true → 1 ≤ cond here 1 0
    counted here is = rw is (omega arith)

-- in the time that a rate takes for some bytes it gives them
pub bytes_given : (rate bytes time : ℕ) → 1 ≤ rate → nanoseconds_for rate bytes ≤ time → 8000000000 * bytes ≤ rate * time
bytes_given rate bytes time some long =
    omega (
      arith,
      (div_ceil_times (bytes * 8000000000) rate some).0,
      mul_comm (nanoseconds_for rate bytes) rate,
      mul-le-mul_left rate long,
    )

-- ---- one flow

-- In each window a flow brings no more than its rate gives in the time for which its share is reserved, and its burst
-- where the share is reserved at the window's end. A byte counts as 8 000 000 000 bit-nanoseconds.
abbrev pub IsPaid : ℕ → ℕ → (ℕ → Bool) → List (ℕ × ℕ) → Type 0
IsPaid rate burst reserved items =
    (start end : ℕ) → start ≤ end
    → 8000000000 * sum_by (size_within start end) items ≤ cond (reserved end) (8000000000 * burst) 0 + rate * reserved_in reserved start (end - start)

-- what weighs nothing is paid by any share
pub paid-nothing : (rate burst : ℕ) (reserved : ℕ → Bool) (items : List (ℕ × ℕ)) → ((start end : ℕ) → start ≤ end → sum_by (size_within start end) items ≡ 0) → IsPaid rate burst reserved items
paid-nothing rate burst reserved items nothing start end ordered = omega (arith, nothing start end ordered)

-- its items end by a moment, whose distance to the retirement gives its burst
pub record IsOver (rate burst retirement : ℕ) (items : List (ℕ × ℕ)) : Type 0 where
  pub last : ℕ
  pub ended : All (λ item. item.0 ≤ last) items
  pub held : last ≤ retirement
  pub burst_paid : 8000000000 * burst ≤ rate * (retirement - last)

-- no item is in a window that ends before the first
none-before : (from start end : ℕ) (items : List (ℕ × ℕ)) → All (λ item. from ≤ item.0) items → end < from → sum_by (size_within start end) items ≡ 0
none-before from start end items begun early =
    sum_by-none (size_within start end) items (λ k d h. let by = begun k d h in size_within_after start end (get_or items k d) (omega (arith, by, early)))

-- a window may be cut to what holds all items
narrower : (start end first last : ℕ) (items : List (ℕ × ℕ))
    → All (λ item. start ≤ item.0 → first ≤ item.0) items → All (λ item. item.0 ≤ end → item.0 ≤ last) items
    → sum_by (size_within start end) items ≤ sum_by (size_within first last) items
narrower start end first last items begun ended = sum_by-mono (size_within start end) (size_within first last) items (λ k d h. one (get_or items k d) (begun k d h) (ended k d h))
  where
    one : (item : ℕ × ℕ) → (start ≤ item.0 → first ≤ item.0) → (item.0 ≤ end → item.0 ≤ last) → size_within start end item ≤ size_within first last item
    one item from until =
        elim (size_within_cases start end item) [
          | inr none ↦ omega (arith, none.1)
          | inl inside ↦ omega (arith, inside.2, size_within_inside first last item (from inside.0) (until inside.1))
        ]

-- where a share is reserved from a first moment in a window up to its end
paid-held : (rate burst : ℕ) (reserved : ℕ → Bool) (items : List (ℕ × ℕ)) (start first end : ℕ) → Keeps rate burst items
    → start ≤ first → first ≤ end → All (λ item. start ≤ item.0 → first ≤ item.0) items
    → ((moment : ℕ) → first ≤ moment → moment ≤ end → reserved moment ≡ true)
    → 8000000000 * sum_by (size_within start end) items ≤ cond (reserved end) (8000000000 * burst) 0 + rate * reserved_in reserved start (end - start)
paid-held rate burst reserved items start first end kept behind ordered begun held =
    let less = narrower start end first end items begun (λ k d h until. until) in
    let bytes = bytes_within_back (sum_by (size_within first end) items) burst (rate * (end - first)) (kept first end ordered) in
    let time = reserved_in-least reserved start (end - start) first end behind (omega (arith, behind, ordered)) (λ moment from before. held moment from (omega (arith, before))) in
    let longer : end - first ≤ reserved_in reserved start (end - start) = omega (arith, time) in
    let product = mul-le-mul_left rate longer in
    rw (held end ordered (omega arith)) (omega (arith, less, bytes, product))

-- where it was retired in a window or before
paid-retired : (rate burst : ℕ) (reserved : ℕ → Bool) (items : List (ℕ × ℕ)) (start first end retirement : ℕ) → Keeps rate burst items
    → IsOver rate burst retirement items
    → start ≤ first → retirement ≤ end → All (λ item. start ≤ item.0 → first ≤ item.0) items
    → ((moment : ℕ) → first ≤ moment → moment < retirement → reserved moment ≡ true)
    → 8000000000 * sum_by (size_within start end) items ≤ rate * reserved_in reserved start (end - start)
paid-retired rate burst reserved items start first end retirement kept over behind retired begun held =
    elim (cases_lt over.last first) [
      | inl none ↦
          let nothing : sum_by (size_within start end) items ≡ 0 =
          sum_by-none (size_within start end) items (λ k d h. outside (get_or items k d) (begun k d h) (over.ended k d h) none)
          in
          omega (arith, nothing)
      | inr some ↦
          let less = narrower start end first over.last items begun (λ k d h until. over.ended k d h) in
          let bytes = bytes_within_back (sum_by (size_within first over.last) items) burst (rate * (over.last - first)) (kept first over.last some) in
          let time = reserved_in-least reserved start (end - start) first retirement behind (omega (arith, behind, some, over.held, retired)) held in
          let parts : (retirement - over.last) + (over.last - first) ≤ reserved_in reserved start (end - start) = omega (arith, time, some, over.held) in
          let product = mul-le-mul_left rate parts in
          omega (arith, less, bytes, over.burst_paid, product, mul-add rate (retirement - over.last) (over.last - first))
    ]
  where
    outside : (item : ℕ × ℕ) → (start ≤ item.0 → first ≤ item.0) → item.0 ≤ over.last → over.last < first → size_within start end item ≡ 0
    outside item from until none =
        elim (size_within_cases start end item) [
          | inr out ↦ out.1
          | inl inside ↦ let there = from inside.0 in absurd (omega (arith, there, until, none))
        ]

-- A flow that keeps its envelope, begins no earlier than its share is reserved, and is held until its rate alone has
-- paid for its burst, is paid by its share.
pub reserved-paid : (rate burst from : ℕ) (retirement : Option ℕ) (reserved : ℕ → Bool) (items : List (ℕ × ℕ)) → Keeps rate burst items
    → All (λ item. from ≤ item.0) items
    → ForSome retirement (λ moment. IsOver rate burst moment items)
    → ((moment : ℕ) → from ≤ moment → ForSome retirement (λ end. moment < end) → reserved moment ≡ true)
    → IsPaid rate burst reserved items
reserved-paid rate burst from retirement reserved items kept begun over held start end ordered =
    elim (cases_lt end from) [
      | inl early ↦ omega (arith, none-before from start end items begun early)
      | inr granted ↦
          elim (cases_lt start from) [
            | inl before ↦ by_end retirement over held from (omega (arith, before)) granted (λ k d h later. begun k d h) (omega arith)
            | inr behind ↦ by_end retirement over held start (omega arith) ordered (λ k d h later. later) behind
          ]
    ]
  where
    by_end : (known : Option ℕ) → ForSome known (λ moment. IsOver rate burst moment items)
        → ((moment : ℕ) → from ≤ moment → ForSome known (λ end. moment < end) → reserved moment ≡ true)
        → (first : ℕ) → start ≤ first → first ≤ end → All (λ item. start ≤ item.0 → first ≤ item.0) items → from ≤ first
        → 8000000000 * sum_by (size_within start end) items ≤ cond (reserved end) (8000000000 * burst) 0 + rate * reserved_in reserved start (end - start)
    by_end None over held first behind inside later granted =
        paid-held rate burst reserved items start first end kept behind inside later (λ moment since until. held moment (omega (arith, since, granted)) (λ x none. absurd (none-some x none)))
    by_end (Some moment) over held first behind inside later granted =
        elim (cases_lt end moment) [
          | inl early ↦
              paid-held rate burst reserved items start first end kept behind inside later
              (λ m since until. held m (omega (arith, since, granted)) (λ x is. let same = same_Some moment x is in omega (arith, same, until, early)))
          | inr retired ↦
              let less = paid-retired rate burst reserved items start first end moment kept (over moment refl) behind retired later
              (λ m since before. held m (omega (arith, since, granted)) (λ x is. let same = same_Some moment x is in omega (arith, same, before))) in
              omega (arith, less)
        ]

-- ---- all flows together

-- what rates give while they are reserved is no more than what one rate gives, if at no moment they are more together
rates-paid : {F : Type 0} (rate : F → ℕ) (reserved : F → ℕ → Bool) (flows : List F) (most start count : ℕ)
    → ((moment : ℕ) → sum_by rate (filter (λ f. reserved f moment) flows) ≤ most)
    → sum_by (λ f. rate f * reserved_in (reserved f) start count) flows ≤ most * count
unfolding reserved_in
rates-paid rate reserved flows most start zero within =
    omega (arith, sum_by-none (λ f. rate f * 0) flows (λ k d h. nothing (rate (get_or flows k d))))
  where
    nothing : (n : ℕ) → n * 0 ≡ 0
    nothing n = omega arith
rates-paid rate reserved flows most start (suc count) within =
    let before = λ (f : _). rate f * reserved_in (reserved f) start count in
    let now = λ (f : _). cond (reserved f (start + count)) (rate f) 0 in
    let split = sum_by-split (λ f. rate f * (reserved_in (reserved f) start count + cond (reserved f (start + count)) 1 0)) before now flows
    (λ k d h. let f = get_or flows k d in one_more (rate f) (reserved_in (reserved f) start count) (reserved f (start + count))) in
    omega (arith, split, rates-paid rate reserved flows most start count within, within (start + count), sum_by-filter rate (λ f. reserved f (start + count)) flows, mul-add most count 1)
  where
    one_more : (n time : ℕ) (here : Bool) → n * (time + cond here 1 0) ≤ n * time + cond here n 0
    one_more n time true = omega (arith, mul-add n time 1)
    one_more n time false = omega (arith, mul-add n time 0)

scaled : {F : Type 0} (scale : ℕ) (f : F → ℕ) (flows : List F) → sum_by (λ x. scale * f x) flows ≡ scale * sum_by f flows
scaled scale f [] = omega arith
scaled scale f (x ∷ flows) =
    sum_by-cons (λ y. scale * f y) x flows ∙ ap (λ n. scale * f x + n) (scaled scale f flows)
    ∙ sym (mul-add scale (f x) (sum_by f flows)) ∙ ap (λ n. scale * n) (sym (sum_by-cons f x flows))

-- Flows that are paid by their shares keep a rate and a burst together, in the windows that end at a moment at which the
-- bursts that are reserved are within that burst, if at no moment the rates that are reserved are above that rate.
pub shares-keep : {F : Type 0} (rate burst : F → ℕ) (reserved : F → ℕ → Bool) (items : F → List (ℕ × ℕ)) (flows : List F) (most_rate most_burst : ℕ)
    → All (λ f. IsPaid (rate f) (burst f) (reserved f) (items f)) flows
    → ((moment : ℕ) → sum_by rate (filter (λ f. reserved f moment) flows) ≤ most_rate)
    → (end : ℕ) → sum_by burst (filter (λ f. reserved f end) flows) ≤ most_burst
    → (start : ℕ) → start ≤ end
    → sum_by (size_within start end) (flat_map items flows) ≤ most_burst + most_rate * (end - start) / 8000000000
shares-keep rate burst reserved items flows most_rate most_burst paid within end enough start ordered =
    let weigh = size_within start end in
    let brought = λ (f : _). sum_by weigh (items f) in
    let kept = λ (f : _). cond (reserved f end) (burst f) 0 in
    let given = λ (f : _). rate f * reserved_in (reserved f) start (end - start) in
    let split = sum_by-split (λ f. 8000000000 * brought f) (λ f. 8000000000 * kept f) given flows
    (λ k d h. let f = get_or flows k d in one (reserved f end) (burst f) (8000000000 * brought f) (given f) (paid k d h start end ordered)) in
    let rates = rates-paid rate reserved flows most_rate start (end - start) within in
    let bursts = sum_by-filter burst (λ f. reserved f end) flows in
    bytes_within (sum_by weigh (flat_map items flows)) most_burst (most_rate * (end - start))
    (omega (arith, split, rates, bursts, enough, scaled 8000000000 brought flows, scaled 8000000000 kept flows, sum_by-flat_map weigh items flows))
  where
    one : (here : Bool) (b brought given : ℕ) → brought ≤ cond here (8000000000 * b) 0 + given → brought ≤ 8000000000 * cond here b 0 + given
    one true b brought given h = h
    one false b brought given h = omega (arith, h)
