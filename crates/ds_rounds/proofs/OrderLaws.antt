-- What every order keeps that keeps rounds.
use Rattle.std.proofs.Common.{ℕ, suc, ◌+◌, ◌≤◌, List, [], ◌∷◌, ◌++◌, length, take, drop, sym, ap, subst, subst₂, ◌∙◌, arith, All, AllPairs, IsPermutation}
use Rattle.std.proofs.lemmas.List.{get_or-take, get_or-drop, get_or_default, length-take, length-drop, take-append-drop}
use Rattle.std.proofs.lemmas.List.Elements.{All-append, All-cons, All-drop, All-head, All-tail, All-take, All-weaker}
use Rattle.std.proofs.lemmas.List.Kept.{AllPairs-cons}
use Rattle.std.proofs.lemmas.List.Sorted.{All-permutation}
use Rattle.ds_rounds.specs.Orders.{DoNotFall, KeepsRounds}
use Rattle.ds_rounds.specs.Rounds.{AreRounds, IsWithin}
use Rattle.ds_rounds.specs.declared.visit.Visit.{Visit}

-- what holds of each of the visits holds of each in an order that keeps their rounds
pub All-order : (P : Visit → Type 0) (counts : List ℕ) (visits order : List Visit) → KeepsRounds counts visits order
    → All P visits → All P order
unfolding KeepsRounds
All-order P [] visits order keeps all = subst (All P) (sym keeps) (λ k d below. absurd (omega (arith, below)))
All-order P (n ∷ counts) visits order keeps all =
    subst (All P) (take-append-drop n order)
    (All-append P (take n order) (drop n order) (All-permutation P (take n visits) (take n order) keeps.0 (All-take P n visits all))
    (All-order P counts (drop n visits) (drop n order) keeps.1 (All-drop P n visits all)))

-- ---- within a round

-- each of a round's visits comes at most the skew before any other
pub All-round : (skew : ℕ) (round : List Visit) → DoNotFall round → IsWithin skew round
    → All (λ v. All (λ w. v.moment ≤ w.moment + skew) round) round
All-round skew [] rise within = λ k d below. absurd (omega (arith, below))
All-round skew (first ∷ others) rise within = λ i d below j e under.
    let near = All-cons (λ (v : Visit). v.moment ≤ first.moment + skew) first others (omega arith) within i d below in
    let low = All-cons (λ (w : Visit). first.moment ≤ w.moment) first others (omega arith)
    (λ k b short. rise 0 (suc k) b (omega arith) (omega (arith, short))) j e under in
    omega (arith, near, low)

-- what holds of any two holds of any two in another order
pub All-both : (R : Visit → Visit → Type 0) (xs ys : List Visit) → IsPermutation xs ys → All (λ v. All (R v) xs) xs
    → All (λ v. All (R v) ys) ys
All-both R xs ys same all =
    All-permutation (λ v. All (R v) ys) xs ys same
    (All-weaker (λ v. All (R v) xs) (λ v. All (R v) ys) (λ v each. All-permutation (R v) xs ys same each) xs all)

pub AllPairs-both : (R : Visit → Visit → Type 0) (xs : List Visit) → All (λ v. All (R v) xs) xs → AllPairs R xs
AllPairs-both R xs all i j d first below = all i d (omega (arith, first, below)) j d below

-- ---- one round before the others

pub AllPairs-append : (R : Visit → Visit → Type 0) (xs ys : List Visit) → AllPairs R xs → AllPairs R ys
    → All (λ v. All (R v) ys) xs → AllPairs R (xs ++ ys)
AllPairs-append R [] ys left right across = right
AllPairs-append R (x ∷ xs) ys left right across =
    AllPairs-cons R x (xs ++ ys)
    (All-append (R x) xs ys (λ k d below. left 0 (suc k) d (omega arith) (omega (arith, below))) (All-head (λ v. All (R v) ys) x xs across))
    (AllPairs-append R xs ys (λ i j d first below. left (suc i) (suc j) d (omega (arith, first)) (omega (arith, below))) right (All-tail (λ v. All (R v) ys) x xs across))

pub AllPairs-take : (R : Visit → Visit → Type 0) (n : ℕ) (xs : List Visit) → AllPairs R xs → AllPairs R (take n xs)
AllPairs-take R n xs all i j d first below =
    subst₂ R (sym (get_or-take n xs i d (omega (arith, first, below, length-take n xs)))) (sym (get_or-take n xs j d (omega (arith, below, length-take n xs))))
    (all i j d first (omega (arith, below, length-take n xs)))

pub AllPairs-drop : (R : Visit → Visit → Type 0) (n : ℕ) (xs : List Visit) → AllPairs R xs → AllPairs R (drop n xs)
AllPairs-drop R n xs all i j d first below =
    subst₂ R (sym (get_or-drop n xs i d)) (sym (get_or-drop n xs j d)) (all (n + i) (n + j) d (omega (arith, first)) (omega (arith, below, length-drop n xs)))

-- each of the front stands before each of what is behind
pub All-across : (R : Visit → Visit → Type 0) (n : ℕ) (xs : List Visit) → AllPairs R xs
    → All (λ v. All (R v) (drop n xs)) (take n xs)
All-across R n xs all i d below j e under =
    subst₂ R (sym (get_or-take n xs i d (omega (arith, below, length-take n xs)))) (sym (get_or-drop n xs j d) ∙ get_or_default (drop n xs) j d e under)
    (all i (n + j) d (omega (arith, below, length-take n xs)) (omega (arith, under, length-drop n xs)))

pub none_late : (skew : ℕ) (visits : List Visit) (counts : List ℕ) (order : List Visit) → DoNotFall visits
    → AreRounds skew visits counts
    → KeepsRounds counts visits order → AllPairs (λ v w. v.moment ≤ w.moment + skew) order
unfolding AreRounds KeepsRounds
none_late skew visits [] order rise are keeps = λ i j d first below. absurd (omega (arith, below, ap length keeps))
none_late skew visits (n ∷ counts) order rise are keeps =
    let R : Visit → Visit → Type 0 = λ v w. v.moment ≤ w.moment + skew in
    let front = All-both R (take n visits) (take n order) keeps.0 (All-round skew (take n visits) (AllPairs-take (λ v w. v.moment ≤ w.moment) n visits rise) are.0.round.within) in
    let behind = none_late skew (drop n visits) counts (drop n order) (AllPairs-drop (λ v w. v.moment ≤ w.moment) n visits rise) are.1 keeps.1 in
    let before = All-weaker (λ v. All (λ w. v.moment ≤ w.moment) (drop n visits)) (λ v. All (R v) (drop n order))
    (λ v each. All-order (R v) counts (drop n visits) (drop n order) keeps.1
    (All-weaker (λ w. v.moment ≤ w.moment) (R v) (λ w less. omega (arith, less)) (drop n visits) each))
    (take n visits) (All-across (λ v w. v.moment ≤ w.moment) n visits rise) in
    let across = All-permutation (λ v. All (R v) (drop n order)) (take n visits) (take n order) keeps.0 before in
    subst (AllPairs R) (take-append-drop n order) (AllPairs-append R (take n order) (drop n order) (AllPairs-both R (take n order) front) behind across)
