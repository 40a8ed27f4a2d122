-- Sums over a window, and what keeps an envelope.
use Rattle.std.proofs.Common.{◌≡◌, ℕ, ◌+◌, ◌-◌, ◌*◌, ◌/◌, ◌<◌, ◌≤◌, ◌⊎◌, inl, inr, Bool, true, false, cond, List, [], ◌∷◌, ◌++◌, map, refl, sym, ◌∙◌, ap, arith, get_or}
use Rattle.std.proofs.Math.Nat.{mul-le-mul_left, mul-le-mul_right, add-mul}
use Rattle.std.proofs.lemmas.Bool.{cases_lt}
use Rattle.std.proofs.lemmas.Bool.Decides.{nat_tests}
use Rattle.std.proofs.lemmas.List.Sums.{sum_by-cons, sum_by-append}
use Rattle.std.proofs.lemmas.List.Sorted.{sum_by-IsPermutation}
use Rattle.std.proofs.lemmas.List.Elements.{All-head, All-tail}
use Rattle.std.specs.List.{sum_by, filter, flat_map, All}
use Rattle.std.specs.List.Sorted.{IsPermutation}
use Rattle.moment_core.specs.Conformance.{size_within, Keeps, KeepsUpTo}
use Rattle.moment_core.specs.Volume.{bytes_over}
use Rattle.envelope_core.proofs.Quotients.{bytes_mono, bytes_add, bytes_longer}

-- ---- sums

-- a sum of terms that are not more is not more
pub sum_by-mono : {P : Type 0} (f g : P → ℕ) (ps : List P) → All (λ p. f p ≤ g p) ps → sum_by f ps ≤ sum_by g ps
sum_by-mono f g [] all = omega arith
sum_by-mono f g (p ∷ ps) all =
    let head = All-head (λ p. f p ≤ g p) p ps all in
    omega (arith, head, sum_by-mono f g ps (All-tail (λ p. f p ≤ g p) p ps all), sum_by-cons f p ps, sum_by-cons g p ps)

-- a sum of terms that are not more than two together is not more than both sums
pub sum_by-split : {P : Type 0} (whole some rest : P → ℕ) (ps : List P) → All (λ p. whole p ≤ some p + rest p) ps → sum_by whole ps ≤ sum_by some ps + sum_by rest ps
sum_by-split whole some rest [] all = omega arith
sum_by-split whole some rest (p ∷ ps) all =
    let head = All-head (λ p. whole p ≤ some p + rest p) p ps all in
    omega (
      arith,
      head,
      sum_by-split whole some rest ps (All-tail (λ p. whole p ≤ some p + rest p) p ps all),
      sum_by-cons whole p ps,
      sum_by-cons some p ps,
      sum_by-cons rest p ps,
    )

-- terms that are nothing sum to nothing
pub sum_by-none : {P : Type 0} (f : P → ℕ) (ps : List P) → All (λ p. f p ≡ 0) ps → sum_by f ps ≡ 0
sum_by-none f [] all = refl
sum_by-none f (p ∷ ps) all =
    let head = All-head (λ p. f p ≡ 0) p ps all in
    omega (arith, head, sum_by-none f ps (All-tail (λ p. f p ≡ 0) p ps all), sum_by-cons f p ps)

pub sum_by-map : {P X : Type 0} (f : X → ℕ) (g : P → X) (ps : List P) → sum_by f (map g ps) ≡ sum_by (λ p. f (g p)) ps
sum_by-map f g [] = refl
sum_by-map f g (p ∷ ps) = sum_by-cons f (g p) (map g ps) ∙ ap (λ n. f (g p) + n) (sum_by-map f g ps) ∙ sym (sum_by-cons (λ p. f (g p)) p ps)

pub sum_by-flat_map : {P X : Type 0} (f : X → ℕ) (g : P → List X) (ps : List P) → sum_by f (flat_map g ps) ≡ sum_by (λ p. sum_by f (g p)) ps
sum_by-flat_map f g [] = refl
sum_by-flat_map f g (p ∷ ps) =
    sum_by-append f (g p) (flat_map g ps) ∙ ap (λ n. sum_by f (g p) + n) (sum_by-flat_map f g ps) ∙ sym (sum_by-cons (λ p. sum_by f (g p)) p ps)

-- what is filtered sums as the whole does, with nothing for what does not pass
pub sum_by-filter : {P : Type 0} (f : P → ℕ) (test : P → Bool) (ps : List P) → sum_by f (filter test ps) ≡ sum_by (λ p. cond (test p) (f p) 0) ps
sum_by-filter f test [] = refl
sum_by-filter f test (p ∷ ps) =
    sum_by-filter-cons f test p ps (test p) ∙ ap (λ n. cond (test p) (f p) 0 + n) (sum_by-filter f test ps) ∙ sym (sum_by-cons (λ q. cond (test q) (f q) 0) p ps)
  where
    sum_by-filter-cons : {P : Type 0} (f : P → ℕ) (test : P → Bool) (p : P) (ps : List P) (passed : Bool)
        → sum_by f (cond passed (p ∷ filter test ps) (filter test ps)) ≡ cond passed (f p) 0 + sum_by f (filter test ps)
    sum_by-filter-cons f test p ps true = sum_by-cons f p (filter test ps)
    sum_by-filter-cons f test p ps false = omega arith

-- ---- what an item weighs in a window

-- an item in a window weighs its size there, and any other nothing
pub size_within_cases : (start end : ℕ) (item : ℕ × ℕ)
    → ((start ≤ item.0) × (item.0 ≤ end) × (size_within start end item ≡ item.1)) ⊎ (((item.0 < start) ⊎ (end < item.0)) × (size_within start end item ≡ 0))
size_within_cases start end item =
    elim (cases_lt item.0 start) [
      | inl early ↦ inr (inl early, grind (arith, nat_tests))
      | inr begun ↦
          elim (cases_lt end item.0) [
            | inl late ↦ inr (inr late, grind (arith, nat_tests))
            | inr ended ↦ inl (begun, ended, grind (arith, nat_tests))
          ]
    ]

pub size_within_inside : (start end : ℕ) (item : ℕ × ℕ) → start ≤ item.0 → item.0 ≤ end → size_within start end item ≡ item.1
size_within_inside start end item begun ended = grind (arith, nat_tests)

pub size_within_before : (start end : ℕ) (item : ℕ × ℕ) → item.0 < start → size_within start end item ≡ 0
size_within_before start end item early = grind (arith, nat_tests)

pub size_within_after : (start end : ℕ) (item : ℕ × ℕ) → end < item.0 → size_within start end item ≡ 0
size_within_after start end item late = grind (arith, nat_tests)

-- ---- what keeps an envelope

-- Things that weigh no more in each window, each as an item, keep what the first items keep.
pub Keeps-lighter : {P : Type 0} (before after : P → ℕ × ℕ) (rate burst : ℕ) (ps : List P)
    → ((start end : ℕ) → All (λ p. size_within start end (after p) ≤ size_within start end (before p)) ps)
    → Keeps rate burst (map before ps)
    → Keeps rate burst (map after ps)
Keeps-lighter before after rate burst ps lighter kept start end ordered =
    let less = sum_by-mono (λ p. size_within start end (after p)) (λ p. size_within start end (before p)) ps (lighter start end) in
    let whole = kept start end ordered in
    omega (arith, less, whole, sum_by-map (size_within start end) after ps, sum_by-map (size_within start end) before ps)

-- the order of the items is free
pub Keeps-IsPermutation : (rate burst : ℕ) (items others : List (ℕ × ℕ)) → IsPermutation items others → Keeps rate burst items → Keeps rate burst others
Keeps-IsPermutation rate burst items others same kept start end ordered =
    let whole = kept start end ordered in
    omega (arith, whole, sum_by-IsPermutation (size_within start end) items others same)

-- a front and a rest keep what both together keep
pub Keeps-front : (rate burst : ℕ) (front rest : List (ℕ × ℕ)) → Keeps rate burst (front ++ rest) → Keeps rate burst front
Keeps-front rate burst front rest kept start end ordered =
    let whole = kept start end ordered in
    omega (arith, whole, sum_by-append (size_within start end) front rest)

-- a part of the items keeps what the whole keeps
pub Keeps-part : (rate burst : ℕ) (whole part rest : List (ℕ × ℕ)) → IsPermutation whole (part ++ rest) → Keeps rate burst whole → Keeps rate burst part
Keeps-part rate burst whole part rest same kept =
    Keeps-front rate burst part rest (Keeps-IsPermutation rate burst whole (part ++ rest) same kept)

-- what passes a test keeps what the whole keeps
pub Keeps-filter : (rate burst : ℕ) (test : ℕ × ℕ → Bool) (items : List (ℕ × ℕ)) → Keeps rate burst items → Keeps rate burst (filter test items)
Keeps-filter rate burst test items kept start end ordered =
    let weigh = λ (item : ℕ × ℕ). size_within start end item in
    let whole = kept start end ordered in
    let less = sum_by-mono (λ item. cond (test item) (weigh item) 0) weigh items (λ k d h. cond-le (test (get_or items k d)) (weigh (get_or items k d))) in
    omega (arith, whole, less, sum_by-filter (size_within start end) test items)
  where
    cond-le : (passed : Bool) (n : ℕ) → cond passed n 0 ≤ n
    cond-le false n = omega arith
    cond-le true n = omega arith

-- a greater rate and a greater burst are kept too, in the windows that end at a moment
pub KeepsUpTo-looser : (end rate burst more_rate more_burst : ℕ) (items : List (ℕ × ℕ))
    → rate ≤ more_rate
    → burst ≤ more_burst
    → KeepsUpTo end rate burst items
    → KeepsUpTo end more_rate more_burst items
KeepsUpTo-looser end rate burst more_rate more_burst items faster larger kept start ordered =
    let whole = kept start ordered in
    omega (arith, whole, larger, bytes_mono (rate * (end - start)) (more_rate * (end - start)) (mul-le-mul_right (end - start) faster))

-- and in all windows
pub Keeps-looser : (rate burst more_rate more_burst : ℕ) (items : List (ℕ × ℕ))
    → rate ≤ more_rate
    → burst ≤ more_burst
    → Keeps rate burst items
    → Keeps more_rate more_burst items
Keeps-looser rate burst more_rate more_burst items faster larger kept start end =
    KeepsUpTo-looser end rate burst more_rate more_burst items faster larger (λ s h. kept s end h) start

-- two flows that merge
pub Keeps-append : (rate burst more_rate more_burst : ℕ) (items more : List (ℕ × ℕ))
    → Keeps rate burst items
    → Keeps more_rate more_burst more
    → Keeps (rate + more_rate) (burst + more_burst) (items ++ more)
Keeps-append rate burst more_rate more_burst items more kept more_kept start end ordered =
    let one = kept start end ordered in
    let other = more_kept start end ordered in
    let gap = end - start in
    omega (arith, one, other, sum_by-append (size_within start end) items more, bytes_add (rate * gap) (more_rate * gap), ap (λ n. n / 8000000000) (sym (add-mul rate more_rate gap)))

-- nothing keeps every envelope
pub Keeps-nil : (rate burst : ℕ) → Keeps rate burst []
Keeps-nil rate burst start end ordered = omega arith

-- Any number of flows that merge, each with a rate, a burst and items of its own.
pub Keeps-flat_map : {F : Type 0} (rate burst : F → ℕ) (items : F → List (ℕ × ℕ)) (flows : List F)
    → All (λ f. Keeps (rate f) (burst f) (items f)) flows
    → Keeps (sum_by rate flows) (sum_by burst flows) (flat_map items flows)
Keeps-flat_map rate burst items [] all = Keeps-nil 0 0
Keeps-flat_map rate burst items (f ∷ fs) all =
    let one = All-head (λ f. Keeps (rate f) (burst f) (items f)) f fs all in
    let others = Keeps-flat_map rate burst items fs (All-tail (λ f. Keeps (rate f) (burst f) (items f)) f fs all) in
    rw (sum_by-cons rate f fs, sum_by-cons burst f fs)
    (Keeps-append (rate f) (burst f) (sum_by rate fs) (sum_by burst fs) (items f) (flat_map items fs) one others)

-- ---- delays

-- An item that arrives with no more bytes than it had, later by a delay from a floor to a floor plus a jitter; one that
-- arrives with no bytes may come at any time.
abbrev pub IsDelayed : ℕ → ℕ → ℕ × ℕ → ℕ × ℕ → Type 0
IsDelayed floor jitter before after =
    0 < after.1 → (after.1 ≤ before.1) × (before.0 + floor ≤ after.0) × (after.0 ≤ before.0 + floor + jitter)

-- what arrives in a window was sent in a window that is longer by the jitter
pub size_within-delayed : (floor jitter start end : ℕ) (before after : ℕ × ℕ) → IsDelayed floor jitter before after
    → size_within start end after ≤ size_within (start - (floor + jitter)) (end - floor) before
size_within-delayed floor jitter start end before after delayed =
    elim (size_within_cases start end after) [
      | inr none ↦ omega (arith, none.1)
      | inl inside ↦
          elim (cases_lt 0 after.1) [
            | inr empty ↦ omega (arith, inside.2, empty)
            | inl some ↦
                let late = delayed some in
                let there = size_within_inside (start - (floor + jitter)) (end - floor) before (omega (arith, inside.0, late.2)) (omega (arith, inside.1, late.1)) in
                omega (arith, inside.2, late.0, there)
          ]
    ]

-- that window's length
pub bytes_delayed : (rate short long jitter : ℕ) → short ≤ long + jitter → rate * short / 8000000000 ≤ rate * long / 8000000000 + bytes_over rate jitter
bytes_delayed rate short long jitter h =
    let product : rate * short ≤ rate * long + rate * jitter = omega (arith, mul-le-mul_left rate h) in
    omega (arith, bytes_mono (rate * short) (rate * long + rate * jitter) product, bytes_longer (rate * long) (rate * jitter))

-- Things whose items are delayed, in whatever order they arrive, keep an envelope that is widened by the jitter.
pub Keeps-delayed : {P : Type 0} (before after : P → ℕ × ℕ) (floor jitter rate burst : ℕ) (ps : List P)
    → All (λ p. IsDelayed floor jitter (before p) (after p)) ps
    → Keeps rate burst (map before ps)
    → Keeps rate (burst + bytes_over rate jitter) (map after ps)
Keeps-delayed before after floor jitter rate burst ps delayed kept start end ordered =
    let first = start - (floor + jitter) in
    let last = end - floor in
    let less = sum_by-mono (λ p. size_within start end (after p)) (λ p. size_within first last (before p)) ps
    (λ k d h. size_within-delayed floor jitter start end (before (get_or ps k d)) (after (get_or ps k d)) (delayed k d h)) in
    let whole = kept first last (omega arith) in
    let gain = bytes_delayed rate (last - first) (end - start) jitter (omega arith) in
    omega (arith, less, whole, gain, sum_by-map (size_within start end) after ps, sum_by-map (size_within first last) before ps)
