-- The linear pass: the backlog of a link says of each window that ends now whether it is within an envelope.
use Rattle.std.proofs.Common.{◌≡◌, ℕ, ◌+◌, ◌-◌, ◌*◌, ◌<◌, ◌≤◌, inl, inr, List, [], ◌∷◌, ◌++◌, arith, length, take, get_or, refl, sym, ap, ◌∙◌}
use Rattle.std.proofs.Math.Nat.{mul-zero, mul-add, mul-le-mul_left}
use Rattle.std.proofs.lemmas.Bool.{cases_lt}
use Rattle.std.proofs.lemmas.List.{take_more, get_or_default}
use Rattle.std.proofs.lemmas.List.Sums.{sum_by_push, sum_by-take-le}
use Rattle.std.proofs.lemmas.List.Elements.{All-push, All-weaker, All-nil}
use Rattle.std.specs.List.{sum_by, All}
use Rattle.moment_core.specs.Conformance.{size_within, Keeps}
use Rattle.envelope_core.specs.Order.{IsInOrder}
use Rattle.envelope_core.proofs.Quotients.{bytes_within, bytes_within_back}
use Rattle.envelope_core.proofs.Windows.{sum_by-mono, sum_by-none, size_within_inside, size_within_before, size_within_after}

-- no item is later than a moment
abbrev pub AllBy : ℕ → List (ℕ × ℕ) → Type 0
AllBy newest items = All (λ item. item.0 ≤ newest) items

-- What a link of a rate has still to send of items at the newest moment, in bit-nanoseconds: no window that ends there
-- holds more than this and what the rate gives over the window, and one holds as much.
pub record IsBacklog (rate level newest : ℕ) (items : List (ℕ × ℕ)) : Type 0 where
  pub past : AllBy newest items
  pub most : (start : ℕ) → start ≤ newest → 8000000000 * sum_by (size_within start newest) items ≤ level + rate * (newest - start)
  pub from : ℕ
  pub from_past : from ≤ newest
  pub attained : 8000000000 * sum_by (size_within from newest) items ≡ level + rate * (newest - from)

-- a window may end at the newest moment as well as later
pub sum_within_past : (start newest end : ℕ) (items : List (ℕ × ℕ)) → AllBy newest items → newest ≤ end
    → sum_by (size_within start end) items ≡ sum_by (size_within start newest) items
sum_within_past start newest end items past later =
    let up = sum_by-mono (size_within start end) (size_within start newest) items (λ k d h. (same (get_or items k d) (past k d h)).0) in
    let down = sum_by-mono (size_within start newest) (size_within start end) items (λ k d h. (same (get_or items k d) (past k d h)).1) in
    omega (arith, up, down)
  where
    same : (item : ℕ × ℕ) → item.0 ≤ newest
        → (size_within start end item ≤ size_within start newest item) × (size_within start newest item ≤ size_within start end item)
    same item by =
        elim (cases_lt item.0 start) [
          | inl early ↦
              let one = size_within_before start end item early in
              let other = size_within_before start newest item early in
              (omega arith, omega arith)
          | inr begun ↦
              let one = size_within_inside start end item begun (omega arith) in
              let other = size_within_inside start newest item begun by in
              (omega arith, omega arith)
        ]

-- a window that begins after the newest moment holds nothing
pub sum_within_future : (start end newest : ℕ) (items : List (ℕ × ℕ)) → AllBy newest items → newest < start
    → sum_by (size_within start end) items ≡ 0
sum_within_future start end newest items past later =
    sum_by-none (size_within start end) items (λ k d h. let by = past k d h in size_within_before start end (get_or items k d) (omega (arith, by)))

-- what a rate gives over a span is what it gives over its parts
product_split : (rate a b c : ℕ) → a ≤ b → b ≤ c → rate * (c - a) ≡ rate * (c - b) + rate * (b - a)
product_split rate a b c low high =
    let whole : c - a ≡ (c - b) + (b - a) = omega arith in
    rw (whole, mul-add) refl

level_most : (sum size level drained given : ℕ) → 8000000000 * sum ≤ level + given
    → 8000000000 * (sum + size) ≤ (level - drained) + 8000000000 * size + (drained + given)
level_most sum size level drained given h = omega arith

level_attained : (sum size level drained given : ℕ) → drained ≤ level → 8000000000 * sum ≡ level + given
    → 8000000000 * (sum + size) ≡ (level - drained) + 8000000000 * size + (drained + given)
level_attained sum size level drained given enough h = omega arith

-- one more item, not earlier than the newest moment
pub IsBacklog-more : (rate level newest : ℕ) (items : List (ℕ × ℕ)) (item : ℕ × ℕ) → newest ≤ item.0
    → IsBacklog rate level newest items
    → IsBacklog rate ((level - rate * (item.0 - newest)) + 8000000000 * item.1) item.0 (items ++ item ∷ [])
IsBacklog-more rate level newest items item later b =
    elim (cases_lt level drained) [
      | inr busy ↦
          record {
            past = past;
            most = most;
            from = b.from;
            from_past = omega (arith, b.from_past);
            attained =
                rw (push_from b.from (omega (arith, b.from_past)), sum_within_past b.from newest item.0 items b.past later, product_split rate b.from newest item.0 b.from_past later)
                (level_attained (sum_by (size_within b.from newest) items) item.1 level drained (rate * (newest - b.from)) busy b.attained);
          }
      | inl idle ↦
          record {
            past = past;
            most = most;
            from = item.0;
            from_past = omega arith;
            attained =
                let apart : newest < item.0 = after_idle rate level newest item.0 later idle in
                let alone : item.0 - item.0 ≡ 0 = omega arith in
                rw (push_from item.0 (omega arith), sum_within_future item.0 item.0 newest items b.past apart, alone, mul-zero)
                (omega (arith, idle));
          }
    ]
  where
    drained : ℕ
    drained = rate * (item.0 - newest)

    past : AllBy item.0 (items ++ item ∷ [])
    past = All-push (λ i. i.0 ≤ item.0) items item (All-weaker (λ i. i.0 ≤ newest) (λ i. i.0 ≤ item.0) (λ i by. omega arith) items b.past) (omega arith)

    push_from : (start : ℕ) → start ≤ item.0 → sum_by (size_within start item.0) (items ++ item ∷ []) ≡ sum_by (size_within start item.0) items + item.1
    push_from start in' = omega (arith, sum_by_push (size_within start item.0) items item, size_within_inside start item.0 item in' (omega arith))

    most : (start : ℕ) → start ≤ item.0
        → 8000000000 * sum_by (size_within start item.0) (items ++ item ∷ []) ≤ (level - drained) + 8000000000 * item.1 + rate * (item.0 - start)
    most start in' =
        rw (push_from start in')
        (elim (cases_lt newest start) [
          | inr before ↦
              rw (sum_within_past start newest item.0 items b.past later, product_split rate start newest item.0 before later)
              (level_most (sum_by (size_within start newest) items) item.1 level drained (rate * (newest - start)) (b.most start before))
          | inl after ↦ omega (arith, sum_within_future start item.0 newest items b.past after)
        ])

    after_idle : (rate level newest moment : ℕ) → newest ≤ moment → level < rate * (moment - newest) → newest < moment
    after_idle rate level newest moment later idle =
        elim (cases_lt newest moment) [
          | inl yes' ↦ yes'
          | inr no' ↦
              let none : moment - newest ≡ 0 = omega arith in
              absurd (omega (arith, rw (none, mul-zero) at idle))
        ]

-- nothing is left of nothing
pub IsBacklog-nil : (rate : ℕ) → IsBacklog rate 0 0 []
IsBacklog-nil rate = record {
  past = All-nil (λ item. item.0 ≤ 0);
  most = λ start in'. omega arith;
  from = 0;
  from_past = omega arith;
  attained = omega (arith, mul-zero rate);
}

-- Where the backlog is within the burst, the windows that end at the newest moment or later are within the envelope; those
-- that end before it are so where the items before the last keep it.
pub Keeps-more : (rate level burst : ℕ) (items : List (ℕ × ℕ)) (item : ℕ × ℕ) → level ≤ 8000000000 * burst
    → IsBacklog rate level item.0 (items ++ item ∷ [])
    → Keeps rate burst items
    → Keeps rate burst (items ++ item ∷ [])
Keeps-more rate level burst items item within b kept start end ordered =
    elim (cases_lt end item.0) [
      | inl earlier ↦
          let front = kept start end ordered in
          omega (arith, front, sum_by_push (size_within start end) items item, size_within_after start end item earlier)
      | inr ended ↦
          elim (cases_lt item.0 start) [
            | inl later ↦ omega (arith, sum_within_future start end item.0 (items ++ item ∷ []) b.past later)
            | inr begun ↦
                rw (sum_within_past start item.0 end (items ++ item ∷ []) b.past ended)
                (let most = b.most start begun in
                let longer : item.0 - start ≤ end - start = omega arith in
                let product = mul-le-mul_left rate longer in
                bytes_within (sum_by (size_within start item.0) (items ++ item ∷ [])) burst (rate * (end - start)) (omega (arith, most, within, product)))
          ]
    ]

-- where it is above the burst, a window is not
pub Keeps-over : (rate level burst newest : ℕ) (items : List (ℕ × ℕ)) → 8000000000 * burst < level
    → IsBacklog rate level newest items
    → Keeps rate burst items
    → ⊥
Keeps-over rate level burst newest items above b kept =
    let window = bytes_within_back (sum_by (size_within b.from newest) items) burst (rate * (newest - b.from)) (kept b.from newest b.from_past) in
    omega (arith, above, window, b.attained)

-- the first items keep what all of them keep
pub Keeps-take : (rate burst n : ℕ) (items : List (ℕ × ℕ)) → Keeps rate burst items → Keeps rate burst (take n items)
Keeps-take rate burst n items kept start end ordered =
    let whole = kept start end ordered in
    omega (arith, whole, sum_by-take-le (size_within start end) items n)

-- ---- by index, as the pass goes

take_more_read : (items : List (ℕ × ℕ)) (i : ℕ) (item : ℕ × ℕ) → i < length items → item ≡ get_or items i item
    → take (i + 1) items ≡ take i items ++ item ∷ []
take_more_read items i item in' read = take_more items i item in' ∙ ap (λ (x : ℕ × ℕ). take i items ++ x ∷ []) (sym read)

-- the backlog after the item at an index
pub IsBacklog-take_more : (rate level newest i next moment : ℕ) (items : List (ℕ × ℕ)) (item : ℕ × ℕ)
    → i < length items
    → item ≡ get_or items i item
    → newest ≤ (get_or items i item).0
    → moment ≡ item.0
    → next ≡ (level - rate * (item.0 - newest)) + 8000000000 * item.1
    → IsBacklog rate level newest (take i items)
    → IsBacklog rate next moment (take (i + 1) items)
IsBacklog-take_more rate level newest i next moment items item in' read later at is b =
    rw (at, is, take_more_read items i item in' read) (IsBacklog-more rate level newest (take i items) item (omega (arith, later, ap (λ (x : ℕ × ℕ). x.0) read)) b)

-- in a list in order the next item is not earlier
pub IsInOrder-next : (items : List (ℕ × ℕ)) (i moment : ℕ) (item : ℕ × ℕ)
    → IsInOrder items
    → item ≡ get_or items i item
    → moment ≡ item.0
    → (d : ℕ × ℕ)
    → i + 1 < length items
    → moment ≤ (get_or items (i + 1) d).0
IsInOrder-next items i moment item ordered read at d fits =
    rw (at, ← get_or_default items (i + 1) item d fits)
    (omega (arith, ordered i (i + 1) item (omega arith) fits, ap (λ (x : ℕ × ℕ). x.0) read))

-- the envelope is kept up to and including the item at an index
pub Keeps-take_more : (rate level burst i moment : ℕ) (items : List (ℕ × ℕ)) (item : ℕ × ℕ)
    → i < length items
    → item ≡ get_or items i item
    → moment ≡ item.0
    → level ≤ 8000000000 * burst
    → IsBacklog rate level moment (take (i + 1) items)
    → Keeps rate burst (take i items)
    → Keeps rate burst (take (i + 1) items)
Keeps-take_more rate level burst i moment items item in' read at within b kept =
    let one = take_more_read items i item in' read in
    rw one (Keeps-more rate level burst (take i items) item within (rw (at, one) at b) kept)
