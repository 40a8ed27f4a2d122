-- Leaky buckets: the level is the backlog of a link, so a bucket overflows first where its envelope is left.
use Rattle.std.proofs.Common.{◌≡◌, ℕ, true, false, ◌+◌, ◌*◌, ◌<◌, ◌≤◌, ◌↔◌, suc, inl, inr, List, [], ◌∷◌, ◌++◌, Option, None, Some, arith, length, take, get_or, refl, ap, append_assoc, length-append}
use Rattle.std.proofs.lemmas.Bool.{cases_lt, lt-ltb, le-ltb}
use Rattle.std.proofs.lemmas.Bool.Decides.{nat_tests}
use Rattle.std.proofs.lemmas.List.{append-nil, take-append-le, take_all}
use Rattle.moment_core.specs.Conformance.{Keeps}
use Rattle.envelope_core.specs.Curve.{Curve}
use Rattle.envelope_core.specs.Laws.{BucketsTell, IsFirstBeyond}
use Rattle.envelope_core.specs.LeakyBucket.{Bucket, filled, level_with, overflow_from, overflow_of, overflows, poured}
use Rattle.envelope_core.specs.Order.{IsInOrder}
use Rattle.envelope_core.proofs.LinearPass.{IsBacklog, IsBacklog-more, IsBacklog-nil, IsBacklog-take_more, Keeps-more, Keeps-over, Keeps-take}

-- what a verdict says: none where the envelope is kept, else the first index at which it is left
abbrev pub IsVerdict : ℕ → ℕ → List (ℕ × ℕ) → Option ℕ → Type 0
IsVerdict rate burst items None = Keeps rate burst items
IsVerdict rate burst items (Some index) = IsFirstBeyond rate burst items index

-- sized moments from a moment on, none earlier than the one before
abbrev Rises : ℕ → List (ℕ × ℕ) → Type 0
Rises since [] = Unit {0}
Rises since (item ∷ items) = (since ≤ item.0) × Rises item.0 items

in_order_rises : (since : ℕ) (items : List (ℕ × ℕ)) → IsInOrder items → ((d : ℕ × ℕ) → 0 < length items → since ≤ (get_or items 0 d).0) → Rises since items
in_order_rises since [] ordered first = tt
in_order_rises since (item ∷ items) ordered first = (
  first item (omega arith),
  in_order_rises item.0 items (λ i j d le in'. ordered (suc i) (suc j) d (omega arith) (omega arith)) (λ d some. ordered 0 1 d (omega arith) (omega arith)),
)

pub overflow_from-over : (rate burst level since index : ℕ) (item : ℕ × ℕ) (items : List (ℕ × ℕ)) → 8000000000 * burst < filled rate level since item
    → overflow_from rate burst level since index (item ∷ items) ≡ Some index
unfolding overflow_from
overflow_from-over rate burst level since index item items over = rw (lt-ltb (8000000000 * burst) (filled rate level since item) over) refl

pub overflow_from-within : (rate burst level since index : ℕ) (item : ℕ × ℕ) (items : List (ℕ × ℕ)) → filled rate level since item ≤ 8000000000 * burst
    → overflow_from rate burst level since index (item ∷ items) ≡ overflow_from rate burst (filled rate level since item) item.0 (index + 1) items
unfolding overflow_from
overflow_from-within rate burst level since index item items within = rw (le-ltb (8000000000 * burst) (filled rate level since item) within) refl

pub overflow_from-nil : (rate burst level since index : ℕ) → overflow_from rate burst level since index [] ≡ None
unfolding overflow_from
overflow_from-nil rate burst level since index = refl

-- the first items of a list that goes on
take_front : (front more : List (ℕ × ℕ)) (n : ℕ) → n ≡ length front → take n (front ++ more) ≡ front
take_front front more n e = rw (e, take-append-le (length front) front more (omega arith)) (take_all (length front) front (omega arith))

-- a bucket that took some items in, at the items behind them
verdict_from : (rate burst level since index : ℕ) (front items : List (ℕ × ℕ))
    → index ≡ length front
    → IsBacklog rate level since front
    → Keeps rate burst front
    → Rises since items
    → IsVerdict rate burst (front ++ items) (overflow_from rate burst level since index items)
verdict_from rate burst level since index front [] at b kept rises =
    rw (overflow_from-nil rate burst level since index, append-nil front) kept
verdict_from rate burst level since index front (item ∷ items) at b kept rises =
    elim (cases_lt (8000000000 * burst) now) [
      | inl over ↦
          rw (overflow_from-over rate burst level since index item items over) (
            omega (arith, length-append front (item ∷ items)),
            rw (take_front front (item ∷ items) index at) kept,
            rw (← append_assoc front (item ∷ []) items, take_front (front ++ item ∷ []) items (index + 1) further)
                (Keeps-over rate now burst item.0 (front ++ item ∷ []) over more),
          )
      | inr within ↦
          rw (overflow_from-within rate burst level since index item items within, ← append_assoc front (item ∷ []) items)
          (verdict_from rate burst now item.0 (index + 1) (front ++ item ∷ []) items further more
          (Keeps-more rate now burst front item within more kept) rises.1)
    ]
  where
    now : ℕ
    now = filled rate level since item

    further : index + 1 ≡ length (front ++ item ∷ [])
    further = omega (arith, length-append front (item ∷ []))

    more : IsBacklog rate now item.0 (front ++ item ∷ [])
    more = IsBacklog-more rate level since front item rises.0 b

pub verdict_of_bucket : (rate burst : ℕ) (items : List (ℕ × ℕ)) → IsInOrder items → IsVerdict rate burst items (overflow_of rate burst items)
verdict_of_bucket rate burst items ordered =
    verdict_from rate burst 0 0 0 [] items refl (IsBacklog-nil rate) (λ start end le. omega arith) (in_order_rises 0 items ordered (λ d some. omega arith))

-- a verdict in the words of the law
verdict_tells : (rate burst : ℕ) (items : List (ℕ × ℕ)) (verdict : Option ℕ) → IsVerdict rate burst items verdict
    → ((verdict ≡ None) ↔ Keeps rate burst items) × ((index : ℕ) → verdict ≡ Some index → IsFirstBeyond rate burst items index)
verdict_tells rate burst items None h = ((λ _. h, λ _. refl), λ index e. absurd (cc))
verdict_tells rate burst items (Some j) h = (
  (λ e. absurd (cc), λ kept. absurd (h.2 (Keeps-take rate burst (j + 1) items kept))),
  λ index e. let same : j ≡ index = cc in rw (← same) h,
)

pub buckets_tell_all : BucketsTell
buckets_tell_all = λ rate burst items ordered. verdict_tells rate burst items (overflow_of rate burst items) (verdict_of_bucket rate burst items ordered)

-- ---- a bucket, packet by packet

-- where it overflows, its level would be above its depth
pub overflows-above : (b : Bucket) (item : ℕ × ℕ) → overflows b item ≡ true → 8000000000 * b.curve.burst < level_with b item
overflows-above b item over = grind (arith, nat_tests)

-- else it is within
pub overflows-within : (b : Bucket) (item : ℕ × ℕ) → overflows b item ≡ false → level_with b item ≤ 8000000000 * b.curve.burst
overflows-within b item within = grind (arith, nat_tests)

-- what it takes in is in it
pub poured-within : (b : Bucket) (item : ℕ × ℕ) → overflows b item ≡ false → poured b item ≡ record b { level = level_with b item; since = item.0 }
poured-within b item within = rw within refl

-- its level behind the item at an index is the backlog
pub bucket-take_more : (b : Bucket) (curve : Curve) (i : ℕ) (items : List (ℕ × ℕ)) (item : ℕ × ℕ)
    → b.curve ≡ curve
    → i < length items
    → item ≡ get_or items i item
    → b.since ≤ (get_or items i item).0
    → IsBacklog curve.rate b.level b.since (take i items)
    → IsBacklog curve.rate (level_with b item) item.0 (take (i + 1) items)
bucket-take_more b curve i items item same in' read later before =
    IsBacklog-take_more curve.rate b.level b.since i (level_with b item) item.0 items item in' read later refl
    (ap (λ (c : Curve). filled c.rate b.level b.since item) same) before
