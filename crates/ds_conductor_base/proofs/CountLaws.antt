-- How many visits the packets of some places still make.
use Rattle.std.proofs.Common.{◌≡◌, ◌⊎◌, inl, inr, ◌<◌, ◌≤◌, ◌+◌, ◌-◌, ℕ, zero, suc, Bool, true, false, cond, List, [], ◌∷◌, ◌++◌, length, length-append, length-set, get_or, map, refl, sym, ap, ◌∙◌, subst, arith, ◌||◌, IsPermutation, count_by, nat_eq, nat_lt, slice_index, slice_set, get_or-set_other, get_or-set_same}
use Rattle.std.specs.List.{All, list_any}
use Rattle.std.proofs.lemmas.Bool.{cases_eq}
use Rattle.std.proofs.lemmas.Bool.Decides.{nat_tests}
use Rattle.std.proofs.lemmas.List.Elements.{All-head, All-tail}
use Rattle.std.proofs.lemmas.List.Sorted.{sum_by-IsPermutation}
use Rattle.std.proofs.lemmas.List.Sums.{sum_by-append}
use Rattle.ds_conductor_base.specs.KeptStreams.{AreCounted}
use Rattle.ds_conductor_base.specs.Visits.{visit_to}
use Rattle.ds_conductor_base.specs.declared.sent.Sent.{Sent}
use Rattle.ds_conductor_base.specs.declared.visit.Visit.{Visit}
use Rattle.ds_conductor_base.specs.Ways.{Stop}

-- ---- counts

count-cons : {A : Type 0} (p : A → Bool) (x : A) (xs : List A) → count_by p (x ∷ xs) ≡ cond (p x) 1 0 + count_by p xs
count-cons p x xs = sum_by-append (λ y. cond (p y) 1 0) (x ∷ []) xs ∙ omega arith

count-yes : {A : Type 0} (p : A → Bool) (x : A) (xs : List A) → p x ≡ true → count_by p (x ∷ xs) ≡ suc (count_by p xs)
count-yes p x xs holds = count-cons p x xs ∙ ap (λ b. cond b 1 0 + count_by p xs) holds ∙ omega arith

count-no : {A : Type 0} (p : A → Bool) (x : A) (xs : List A) → p x ≡ false → count_by p (x ∷ xs) ≡ count_by p xs
count-no p x xs fails = count-cons p x xs ∙ ap (λ b. cond b 1 0 + count_by p xs) fails ∙ omega arith

count-none : {A : Type 0} (p : A → Bool) (xs : List A) → All (λ x. p x ≡ false) xs → count_by p xs ≡ 0
count-none p [] none = refl
count-none p (x ∷ xs) none = count-no p x xs (All-head (λ x. p x ≡ false) x xs none) ∙ count-none p xs (All-tail (λ x. p x ≡ false) x xs none)

-- there is one where they count to more than nothing
pub any_counted : {A : Type 0} (p : A → Bool) (xs : List A) → list_any p xs ≡ nat_lt 0 (count_by p xs)
any_counted p [] = refl
any_counted {A} p (x ∷ xs) = by_test (p x) refl (any_counted p xs)
  where
    by_test : (b : Bool) → p x ≡ b → list_any p xs ≡ nat_lt 0 (count_by p xs) → (b || list_any p xs) ≡ nat_lt 0 (count_by p (x ∷ xs))
    by_test true holds further = let more = count-yes p x xs holds in grind (arith, nat_tests, more)
    by_test false fails further = further ∙ ap (nat_lt 0) (sym (count-no p x xs fails))

-- ---- a visit that is made

here_at : (v : Visit) (first i : ℕ) → first ≤ v.place → i ≡ v.place - first → nat_eq v.place (first + i) ≡ true
here_at v first i from is = grind (arith, nat_tests)

other_at : (v : Visit) (first i k : ℕ) → first ≤ v.place → i ≡ v.place - first → (k ≡ i → ⊥) → nat_eq v.place (first + k) ≡ false
other_at v first i k from is other = grind (arith, nat_tests)

pub counted_left : (first : ℕ) (lefts : List ℕ) (v : Visit) (rest : List Visit) → first ≤ v.place → v.place - first < length lefts → AreCounted first lefts (v ∷ rest)
    → 0 < slice_index lefts (v.place - first)
counted_left first lefts v rest from short counted =
    let one = count-yes (λ w. nat_eq w.place (first + (v.place - first))) v rest (here_at v first (v.place - first) from refl) in
    let here = counted (v.place - first) short in
    omega (arith, one, here)

pub counted_made : (first : ℕ) (lefts : List ℕ) (v : Visit) (rest : List Visit) → first ≤ v.place → v.place - first < length lefts → AreCounted first lefts (v ∷ rest)
    → AreCounted first (slice_set lefts (v.place - first) (slice_index lefts (v.place - first) - 1)) rest
counted_made first lefts v rest from short counted k within =
    by_case (cases_eq k (v.place - first))
  where
    i : ℕ
    i = v.place - first

    by_case : (k ≡ i) ⊎ (k ≡ i → ⊥) → slice_index (slice_set lefts i (slice_index lefts i - 1)) k ≡ count_by (λ w. nat_eq w.place (first + k)) rest
    by_case (inl same) =
        let one = count-yes (λ w. nat_eq w.place (first + i)) v rest (here_at v first i from refl) in
        let here = counted i short in
        let told : slice_index lefts i - 1 ≡ count_by (λ w. nat_eq w.place (first + i)) rest = omega (arith, one, here) in
        subst (λ j. slice_index (slice_set lefts i (slice_index lefts i - 1)) j ≡ count_by (λ w. nat_eq w.place (first + j)) rest) (sym same)
        (get_or-set_same lefts i (slice_index lefts i - 1) 0 short ∙ told)
    by_case (inr other) =
        let long = length-set lefts i (slice_index lefts i - 1) in
        get_or-set_other lefts i k (slice_index lefts i - 1) 0 other ∙ counted k (omega (arith, within, long))
        ∙ count-no (λ w. nat_eq w.place (first + k)) v rest (other_at v first i k from refl other)

-- ---- before the first packet

pub counted_none : (first : ℕ) (lefts : List ℕ) (visits : List Visit) → lefts ≡ [] → AreCounted first lefts visits
counted_none first lefts visits none k within = absurd (omega (arith, within, ap length none))

-- ---- a packet that is handed out

pub counted_behind : (first left : ℕ) (lefts : List ℕ) (visits : List Visit) → AreCounted first (left ∷ lefts) visits → AreCounted (suc first) lefts visits
counted_behind first left lefts visits counted k within =
    let next : first + suc k ≡ suc first + k = omega arith in
    subst (λ n. slice_index lefts k ≡ count_by (λ v. nat_eq v.place n) visits) next (counted (suc k) (omega (arith, within)))

pub counted_first : (first left : ℕ) (lefts : List ℕ) (visits : List Visit) → AreCounted first (left ∷ lefts) visits
    → list_any (λ v. nat_eq v.place first) visits ≡ nat_lt 0 left
counted_first first left lefts visits counted =
    let none : first + 0 ≡ first = omega arith in
    any_counted (λ v. nat_eq v.place first) visits
    ∙ ap (nat_lt 0) (sym (subst (λ n. left ≡ count_by (λ v. nat_eq v.place n) visits) none (counted 0 (omega arith))))

-- ---- a packet that is sent

at_own : (place : ℕ) (s : Sent) (stops : List Stop) → count_by (λ v. nat_eq v.place place) (map (visit_to place s) stops) ≡ length stops
at_own place s [] = refl
at_own place s (r ∷ stops) =
    count-yes (λ v. nat_eq v.place place) (visit_to place s r) (map (visit_to place s) stops) (grind (arith, nat_tests)) ∙ ap suc (at_own place s stops)

at_others : (place other : ℕ) (s : Sent) (stops : List Stop) → other < place → count_by (λ v. nat_eq v.place other) (map (visit_to place s) stops) ≡ 0
at_others place other s [] below = refl
at_others place other s (r ∷ stops) below =
    count-no (λ v. nat_eq v.place other) (visit_to place s r) (map (visit_to place s) stops) (grind (arith, nat_tests)) ∙ at_others place other s stops below

none_yet : (place : ℕ) (visits : List Visit) → All (λ v. v.place < place) visits → count_by (λ v. nat_eq v.place place) visits ≡ 0
none_yet place visits before = count-none (λ v. nat_eq v.place place) visits (λ k d short. below_apart (get_or visits k d).place place (before k d short))
  where
    below_apart : (m n : ℕ) → m < n → nat_eq m n ≡ false
    below_apart m n below = grind (arith, nat_tests)

index_front : (xs ys : List ℕ) (k : ℕ) → k < length xs → slice_index (xs ++ ys) k ≡ slice_index xs k
index_front [] ys k short = absurd (omega (arith, short))
index_front (x ∷ xs) ys zero short = refl
index_front (x ∷ xs) ys (suc k) short = index_front xs ys k (omega (arith, short))

index_last : (xs : List ℕ) (y k : ℕ) → k ≡ length xs → slice_index (xs ++ y ∷ []) k ≡ y
index_last [] y zero is = refl
index_last [] y (suc k) is = absurd (omega (arith, is))
index_last (x ∷ xs) y zero is = absurd (omega (arith, is))
index_last (x ∷ xs) y (suc k) is = index_last xs y k (omega (arith, is))

pub counted_sent : (first : ℕ) (lefts : List ℕ) (waiting after : List Visit) (s : Sent) (stops : List Stop)
    → AreCounted first lefts waiting → All (λ v. v.place < first + length lefts) waiting
    → IsPermutation (waiting ++ map (visit_to (first + length lefts) s) stops) after → AreCounted first (lefts ++ length stops ∷ []) after
counted_sent first lefts waiting after s stops counted before moved k within = by_case (cases_eq k (length lefts))
  where
    own : List Visit
    own = map (visit_to (first + length lefts) s) stops

    all : (place : ℕ) → count_by (λ v. nat_eq v.place place) after ≡ count_by (λ v. nat_eq v.place place) waiting + count_by (λ v. nat_eq v.place place) own
    all place = sum_by-IsPermutation (λ v. cond (nat_eq v.place place) 1 0) (waiting ++ own) after moved ∙ sum_by-append (λ v. cond (nat_eq v.place place) 1 0) waiting own

    by_case : (k ≡ length lefts) ⊎ (k ≡ length lefts → ⊥) → slice_index (lefts ++ length stops ∷ []) k ≡ count_by (λ v. nat_eq v.place (first + k)) after
    by_case (inl same) =
        let sum = all (first + length lefts) in
        let yet = none_yet (first + length lefts) waiting before in
        let mine = at_own (first + length lefts) s stops in
        let told : length stops ≡ count_by (λ v. nat_eq v.place (first + length lefts)) after = omega (arith, sum, yet, mine) in
        index_last lefts (length stops) k same ∙ told ∙ ap (λ n. count_by (λ v. nat_eq v.place (first + n)) after) (sym same)
    by_case (inr other) =
        let long = length-append lefts (length stops ∷ []) in
        let short : k < length lefts = omega (arith, within, other, long) in
        let sum = all (first + k) in
        let theirs = at_others (first + length lefts) (first + k) s stops (omega (arith, short)) in
        let told = counted k short in
        index_front lefts (length stops ∷ []) k short ∙ omega (arith, sum, theirs, told)
