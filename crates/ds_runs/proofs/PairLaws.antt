-- Pairs of a list, and what a test finds first along one.
use Rattle.std.proofs.Common.{◌≡◌, ◌<◌, ◌≤◌, ◌+◌, ◌-◌, ℕ, zero, suc, Bool, true, false, cond, List, [], ◌∷◌, length, map, get_or, Option, None, Some, refl, sym, ap, ◌∙◌, inl, arith, ◌&&◌, AllPairs, is_some, slice_get, option_map, option_and_then}
use Rattle.std.specs.List.{All, enumerate_from, filter, range_with_len}
use Rattle.std.specs.Map.{keys_of}
use Rattle.std.proofs.lemmas.List.Elements.{All-head, All-tail}
use Rattle.std.proofs.lemmas.List.FromFn.{get_or-range_with_len, length-range_with_len}
use Rattle.meter_fabric_base.specs.Orders.{in_order}
use Rattle.run_audit.specs.Verdicts.{first_found, first_of}
use Rattle.run_audit.proofs.FoundLaws.{found, not_found}
use Rattle.meter_fabric_base.proofs.OrderLaws.{IsOrder, ascends-from_pairs, in_order-is}

-- a list of which each stands before those behind it is in order
pub in_order-kept : {A : Type 0} (before : A → A → Bool) → IsOrder before → (xs : List A) → AllPairs (λ x y. before x y ≡ true) xs → in_order before xs ≡ xs
in_order-kept before order xs pairs =
    sym (in_order-is before order xs xs (λ i j d below short. inl (pairs i j d below short)) (ascends-from_pairs before xs pairs) (λ z there. there) (λ z there. there))

-- ---- lists that show the same

pub map_through : {A B K C : Type 0} (h : K → C) (f : A → K) (g : B → K) (xs : List A) (ys : List B) → map f xs ≡ map g ys → map (λ x. h (f x)) xs ≡ map (λ y. h (g y)) ys
map_through h f g [] [] same = refl
map_through h f g [] (y ∷ ys) same = absurd cc
map_through h f g (x ∷ xs) [] same = absurd cc
map_through {A} {B} {K} {C} h f g (x ∷ xs) (y ∷ ys) same =
    let here : f x ≡ g y = cc in
    let rest : map f xs ≡ map g ys = cc in
    ap (λ (c : C). c ∷ map (λ x. h (f x)) xs) (ap h here) ∙ ap (λ (cs : List C). h (g y) ∷ cs) (map_through h f g xs ys rest)

pub get_through : {A B K C : Type 0} (h : K → C) (f : A → K) (g : B → K) (xs : List A) (ys : List B) (at : Option ℕ) → map f xs ≡ map g ys
    → option_map (λ x. h (f x)) (option_and_then (slice_get xs) at) ≡ option_map (λ y. h (g y)) (option_and_then (slice_get ys) at)
get_through h f g xs ys None same = refl
get_through h f g [] [] (Some i) same = refl
get_through h f g [] (y ∷ ys) (Some i) same = absurd cc
get_through h f g (x ∷ xs) [] (Some i) same = absurd cc
get_through h f g (x ∷ xs) (y ∷ ys) (Some zero) same = let here : f x ≡ g y = cc in ap (λ k. Some (h k)) here
get_through h f g (x ∷ xs) (y ∷ ys) (Some (suc i)) same = let rest : map f xs ≡ map g ys = cc in get_through h f g xs ys (Some i) rest

-- two filters are one
pub filter_both : {A : Type 0} (p q : A → Bool) (xs : List A) → filter p (filter q xs) ≡ filter (λ x. q x && p x) xs
filter_both p q [] = refl
filter_both {A} p q (x ∷ xs) = by_test (q x) (filter_both p q xs)
  where
    by_test : (b : Bool) → filter p (filter q xs) ≡ filter (λ x. q x && p x) xs
        → filter p (cond b (x ∷ filter q xs) (filter q xs)) ≡ cond (b && p x) (x ∷ filter (λ x. q x && p x) xs) (filter (λ x. q x && p x) xs)
    by_test true further = ap (λ (ys : List A). cond (p x) (x ∷ ys) ys) further
    by_test false further = further

-- ---- what is found first

pub found_same : {A B : Type 0} (find other : A → Option B) (xs : List A) → All (λ x. find x ≡ other x) xs → first_found find xs ≡ first_found other xs
unfolding first_found
found_same find other [] same = refl
found_same find other (x ∷ xs) same =
    ap (λ here. first_of here (first_found find xs)) (All-head (λ y. find y ≡ other y) x xs same)
    ∙ ap (first_of (other x)) (found_same find other xs (All-tail (λ y. find y ≡ other y) x xs same))

pub found_each : {A B : Type 0} (find other : A → Option B) (xs : List A) → ((x : A) → find x ≡ other x) → first_found find xs ≡ first_found other xs
found_each find other xs same = found_same find other xs (λ k d short. same (get_or xs k d))

pub found_shown : {A B C : Type 0} (f : A → B) (find : B → Option C) (xs : List A) → first_found (λ x. find (f x)) xs ≡ first_found find (map f xs)
unfolding first_found
found_shown f find [] = refl
found_shown f find (x ∷ xs) = ap (first_of (find (f x))) (found_shown f find xs)

pub found_told : {A B C : Type 0} (tell : B → C) (find : A → Option B) (xs : List A) → first_found (λ x. option_map tell (find x)) xs ≡ option_map tell (first_found find xs)
unfolding first_found
found_told tell find [] = refl
found_told {A} {B} {C} tell find (x ∷ xs) = by_case (find x) (found_told tell find xs)
  where
    by_case : (here : Option B) → first_found (λ x. option_map tell (find x)) xs ≡ option_map tell (first_found find xs)
        → first_of (option_map tell here) (first_found (λ x. option_map tell (find x)) xs) ≡ option_map tell (first_of here (first_found find xs))
    by_case (Some b) further = refl
    by_case None further = further

-- nothing is found of what is left out
pub found_filter : {A B : Type 0} (p : A → Bool) (find : A → Option B) → ((x : A) → p x ≡ false → find x ≡ None) → (xs : List A) → first_found find (filter p xs) ≡ first_found find xs
unfolding first_found
found_filter p find none [] = refl
found_filter {A} {B} p find none (x ∷ xs) = by_test (p x) refl (found_filter p find none xs)
  where
    by_test : (b : Bool) → p x ≡ b → first_found find (filter p xs) ≡ first_found find xs
        → first_found find (cond b (x ∷ filter p xs) (filter p xs)) ≡ first_of (find x) (first_found find xs)
    by_test true passes further = ap (first_of (find x)) further
    by_test false fails further = further ∙ sym (ap (λ (here : Option B). first_of here (first_found find xs)) (none x fails))

pub none_found : {A B : Type 0} (find : A → Option B) (xs : List A) → All (λ x. find x ≡ None) xs → first_found find xs ≡ None
unfolding first_found
none_found find [] none = refl
none_found {A} {B} find (x ∷ xs) none =
    ap (λ (here : Option B). first_of here (first_found find xs)) (All-head (λ y. find y ≡ None) x xs none) ∙ none_found find xs (All-tail (λ y. find y ≡ None) x xs none)

-- ---- numbers in a row

pub keys_counted : {A : Type 0} (n : ℕ) (xs : List A) → keys_of (enumerate_from n xs) ≡ range_with_len n (length xs)
keys_counted n [] = refl
keys_counted n (x ∷ xs) = ap (λ ns. n ∷ ns) (keys_counted (n + 1) xs)

pub range_rises : (n count : ℕ) → AllPairs (λ i j. i < j) (range_with_len n count)
range_rises n count i j d below short =
    let fits : j < count = omega (arith, short, length-range_with_len n count) in
    omega (arith, below, get_or-range_with_len n count i d (omega (arith, below, fits)), get_or-range_with_len n count j d fits)

pub found_range : {B : Type 0} (find other : ℕ → Option B) (count : ℕ) → ((k : ℕ) → k < count → find k ≡ other k)
    → first_found find (range_with_len 0 count) ≡ first_found other (range_with_len 0 count)
found_range find other count same =
    found_same find other (range_with_len 0 count)
    (λ k d short.
    let fits : k < count = omega (arith, short, length-range_with_len 0 count) in
    let place : get_or (range_with_len 0 count) k d ≡ 0 + k = get_or-range_with_len 0 count k d fits in
    let here : get_or (range_with_len 0 count) k d < count = omega (arith, place, fits) in
    same (get_or (range_with_len 0 count) k d) here)

-- what is left of numbers in a row

one_more : (i count : ℕ) → i < count → count - i ≡ suc (count - (i + 1))
one_more i count short = omega (arith, short)

left_is : {B : Type 0} (find : ℕ → Option B) (i count : ℕ) → i < count
    → first_found find (range_with_len i (count - i)) ≡ first_of (find i) (first_found find (range_with_len (i + 1) (count - (i + 1))))
unfolding first_found
left_is find i count short = ap (λ n. first_found find (range_with_len i n)) (one_more i count short)

pub left_here : {B : Type 0} (find : ℕ → Option B) (i count : ℕ) (here whole : Option B) (test : Bool) → i < count → here ≡ find i → test ≡ is_some here → test ≡ true
    → first_found find (range_with_len i (count - i)) ≡ whole → here ≡ whole
left_here {B} find i count here whole test short is tells passes kept =
    found here (first_found find (range_with_len (i + 1) (count - (i + 1)))) whole (sym tells ∙ passes)
    (ap (λ (o : Option B). first_of o (first_found find (range_with_len (i + 1) (count - (i + 1))))) is ∙ sym (left_is find i count short) ∙ kept)

pub left_behind : {B : Type 0} (find : ℕ → Option B) (i count : ℕ) (here whole : Option B) (test : Bool) → i < count → here ≡ find i → test ≡ is_some here → test ≡ false
    → first_found find (range_with_len i (count - i)) ≡ whole → first_found find (range_with_len (i + 1) (count - (i + 1))) ≡ whole
left_behind {B} find i count here whole test short is tells fails kept =
    not_found here (first_found find (range_with_len (i + 1) (count - (i + 1)))) whole (sym tells ∙ fails)
    (ap (λ (o : Option B). first_of o (first_found find (range_with_len (i + 1) (count - (i + 1))))) is ∙ sym (left_is find i count short) ∙ kept)

pub left_none : {B : Type 0} (find : ℕ → Option B) (i count : ℕ) (whole : Option B) → count ≤ i → first_found find (range_with_len i (count - i)) ≡ whole → None ≡ whole
unfolding first_found
left_none find i count whole ended kept =
    let none : count - i ≡ 0 = omega (arith, ended) in
    sym (ap (λ n. first_found find (range_with_len i n)) none) ∙ kept
