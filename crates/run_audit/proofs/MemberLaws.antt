-- Members of lists, and lists whose members are told apart.
use Rattle.std.proofs.Common.{◌≡◌, ◌⊎◌, inl, inr, ⊎_elim, ℕ, ◌≤◌, zero, suc, Bool, true, false, cond, List, [], ◌∷◌, ◌++◌, map, length, refl, sym, ◌∙◌, ap, subst, arith, AllPairs, filter, flat_map, true≢false}
use Rattle.std.specs.Prelude.{⊤, Contains, IsPermutation, remove}
use Rattle.std.proofs.lemmas.List.Elements.{Contains-append_left, Contains-append_right, Contains-append_cases}
use Rattle.std.proofs.lemmas.List.Sorted.{Contains-permutation, IsPermutation-cons, IsPermutation-refl, IsPermutation-remove, IsPermutation-sym, IsPermutation-trans, length_permutation}

-- ---- members

pub in_front : {X : Type 0} (x : X) (xs : List X) → Contains (x ∷ xs) x
in_front x xs = (0, omega arith, refl)

pub in_rest : {X : Type 0} (y x : X) (xs : List X) → Contains xs x → Contains (y ∷ xs) x
in_rest y x xs has = (suc has.0, omega (arith, has.1), has.2)

pub front_or_rest : {X : Type 0} (y x : X) (xs : List X) → Contains (y ∷ xs) x → (y ≡ x) ⊎ Contains xs x
front_or_rest y x xs (zero, within, is) = inl is
front_or_rest y x xs (suc k, within, is) = inr (k, omega (arith, within), is)

pub in_none : {X : Type 0} (x : X) → ¬ Contains [] x
in_none x has = absurd (omega (arith, has.1))

pub in_map : {X Y : Type 0} (f : X → Y) (xs : List X) (x : X) → Contains xs x → Contains (map f xs) (f x)
in_map f [] x has = absurd (in_none x has)
in_map f (y ∷ xs) x has =
    ⊎_elim
    (λ same. subst (λ z. Contains (map f (y ∷ xs)) (f z)) same (in_front (f y) (map f xs)))
    (λ rest. in_rest (f y) (f x) (map f xs) (in_map f xs x rest))
    (front_or_rest y x xs has)

pub of_map : {X Y : Type 0} (f : X → Y) (xs : List X) (y : Y) → Contains (map f xs) y → (x : X) × Contains xs x × (f x ≡ y)
of_map f [] y has = absurd (in_none y has)
of_map {X} {Y} f (x ∷ xs) y has = ⊎_elim here (λ rest. there (of_map f xs y rest)) (front_or_rest (f x) y (map f xs) has)
  where
    here : f x ≡ y → (z : X) × Contains (x ∷ xs) z × (f z ≡ y)
    here same = (x, in_front x xs, same)

    there : (z : X) × Contains xs z × (f z ≡ y) → (z : X) × Contains (x ∷ xs) z × (f z ≡ y)
    there (z, found, same) = (z, in_rest x z xs found, same)

pub in_filter : {X : Type 0} (test : X → Bool) (xs : List X) (x : X) → Contains xs x → test x ≡ true → Contains (filter test xs) x
in_filter test [] x has passes = has
in_filter {X} test (y ∷ xs) x has passes = by_test (test y) refl (front_or_rest y x xs has) (λ rest. in_filter test xs x rest passes)
  where
    by_test : (t : Bool) → test y ≡ t → (y ≡ x) ⊎ Contains xs x → (Contains xs x → Contains (filter test xs) x) → Contains (cond t (y ∷ filter test xs) (filter test xs)) x
    by_test true e (inl same) onward = subst (Contains (y ∷ filter test xs)) same (in_front y (filter test xs))
    by_test true e (inr rest) onward = in_rest y x (filter test xs) (onward rest)
    by_test false e (inl same) onward = absurd (true≢false (sym passes ∙ ap test (sym same) ∙ e))
    by_test false e (inr rest) onward = onward rest

pub of_filter : {X : Type 0} (test : X → Bool) (xs : List X) (x : X) → Contains (filter test xs) x → Contains xs x × (test x ≡ true)
of_filter test [] x has = absurd (in_none x has)
of_filter {X} test (y ∷ xs) x has = by_test (test y) refl has (of_filter test xs x)
  where
    more : Contains xs x × (test x ≡ true) → Contains (y ∷ xs) x × (test x ≡ true)
    more found = (in_rest y x xs found.0, found.1)

    by_test : (t : Bool) → test y ≡ t → Contains (cond t (y ∷ filter test xs) (filter test xs)) x
        → (Contains (filter test xs) x → Contains xs x × (test x ≡ true)) → Contains (y ∷ xs) x × (test x ≡ true)
    by_test true e there onward =
        ⊎_elim
        (λ same. (subst (Contains (y ∷ xs)) same (in_front y xs), ap test (sym same) ∙ e))
        (λ rest. more (onward rest))
        (front_or_rest y x (filter test xs) there)
    by_test false e there onward = more (onward there)

pub in_flat : {X A : Type 0} (f : X → List A) (xs : List X) (x : X) (a : A) → Contains xs x → Contains (f x) a → Contains (flat_map f xs) a
in_flat f [] x a has own = absurd (in_none x has)
in_flat f (y ∷ xs) x a has own =
    ⊎_elim
    (λ same. Contains-append_left (f y) (flat_map f xs) a (subst (λ z. Contains (f z) a) (sym same) own))
    (λ rest. Contains-append_right (f y) (flat_map f xs) a (in_flat f xs x a rest own))
    (front_or_rest y x xs has)

pub of_flat : {X A : Type 0} (f : X → List A) (xs : List X) (a : A) → Contains (flat_map f xs) a → (x : X) × Contains xs x × Contains (f x) a
of_flat f [] a has = absurd (in_none a has)
of_flat {X} {A} f (y ∷ xs) a has = ⊎_elim here (λ rest. there (of_flat f xs a rest)) (Contains-append_cases (f y) (flat_map f xs) a has)
  where
    here : Contains (f y) a → (x : X) × Contains (y ∷ xs) x × Contains (f x) a
    here own = (y, in_front y xs, own)

    there : (x : X) × Contains xs x × Contains (f x) a → (x : X) × Contains (y ∷ xs) x × Contains (f x) a
    there (x, found, own) = (x, in_rest y x xs found, own)

-- ---- members that are told apart

unfoldable pub AreApart : {X Y : Type 0} → (X → Y) → List X → Type 0
AreApart f [] = ⊤
AreApart {X} f (x ∷ xs) = ((y : X) → Contains xs y → ¬ (f x ≡ f y)) × AreApart f xs

pub AreApart-append : {X Y : Type 0} (f : X → Y) (xs ys : List X) → AreApart f xs → AreApart f ys
    → ((x y : X) → Contains xs x → Contains ys y → ¬ (f x ≡ f y)) → AreApart f (xs ++ ys)
unfolding AreApart
AreApart-append f [] ys apart others cross = others
AreApart-append f (x ∷ xs) ys apart others cross = (
  λ y has same. ⊎_elim (λ left. apart.0 y left same) (λ right. cross x y (in_front x xs) right same) (Contains-append_cases xs ys y has),
  AreApart-append f xs ys apart.1 others (λ z y left right. cross z y (in_rest x z xs left) right),
)

pub AreApart-flat : {X A Y : Type 0} (f : A → Y) (g : X → List A) (xs : List X) → ((x : X) → Contains xs x → AreApart f (g x))
    → AllPairs (λ x y. (a b : A) → Contains (g x) a → Contains (g y) b → ¬ (f a ≡ f b)) xs
    → AreApart f (flat_map g xs)
unfolding AreApart
AreApart-flat f g [] each cross = tt
AreApart-flat f g (x ∷ xs) each cross =
    AreApart-append f (g x) (flat_map g xs) (each x (in_front x xs))
    (AreApart-flat f g xs (λ y has. each y (in_rest x y xs has)) (λ i j d below within. cross (suc i) (suc j) d (omega (arith, below)) (omega (arith, within))))
    (λ a b own has.
    let (y, found, other) = of_flat g xs b has in
    let at_place = cross 0 (suc found.0) y (omega arith) (omega (arith, found.1)) in
    at_place a b own (subst (λ z. Contains (g z) b) (sym found.2) other))

pub AreApart-filter : {X Y : Type 0} (f : X → Y) (test : X → Bool) (xs : List X) → AreApart f xs → AreApart f (filter test xs)
unfolding AreApart
AreApart-filter f test [] apart = tt
AreApart-filter {X} {Y} f test (x ∷ xs) apart = by_test (test x) (AreApart-filter f test xs apart.1)
  where
    by_test : (t : Bool) → AreApart f (filter test xs) → AreApart f (cond t (x ∷ filter test xs) (filter test xs))
    by_test true rest = (λ y has. apart.0 y (of_filter test xs y has).0, rest)
    by_test false rest = rest

pub AreApart-map : {X Y : Type 0} (f : X → Y) (xs : List X) → AreApart f xs → AreApart (λ y. y) (map f xs)
unfolding AreApart
AreApart-map f [] apart = tt
AreApart-map f (x ∷ xs) apart = (
  λ y has same. let (z, found, is) = of_map f xs y has in apart.0 z found (same ∙ sym is),
  AreApart-map f xs apart.1,
)

-- ---- among others

abbrev pub AreAmong : {X : Type 0} → List X → List X → Type 0
AreAmong {X} xs ys = (x : X) → Contains xs x → Contains ys x

-- without the place of the first, the others still are among them
taken : {X Y : Type 0} (f : X → Y) (x : X) (xs ys : List X) (i : ℕ) → AreApart f (x ∷ xs) → AreAmong (x ∷ xs) ys → IsPermutation ys (x ∷ remove ys i) → AreAmong xs (remove ys i)
unfolding AreApart
taken f x xs ys i apart among moved y has =
    ⊎_elim
    (λ same. absurd (apart.0 y has (ap f same)))
    (λ rest. rest)
    (front_or_rest x y (remove ys i) (Contains-permutation ys (x ∷ remove ys i) y moved (among y (in_rest x y xs has))))

pub no_longer : {X Y : Type 0} (f : X → Y) (xs ys : List X) → AreApart f xs → AreAmong xs ys → length xs ≤ length ys
unfolding AreApart
no_longer f [] ys apart among = omega arith
no_longer f (x ∷ xs) ys apart among =
    let (i, within, is) = among x (in_front x xs) in
    let moved = IsPermutation-remove ys i x within (sym is) in
    omega (arith, no_longer f xs (remove ys i) apart.1 (taken f x xs ys i apart among moved), length_permutation ys (x ∷ remove ys i) moved)

-- what is told apart and among as many is the same in another order
pub shuffled : {X Y : Type 0} (f : X → Y) (xs ys : List X) → AreApart f xs → AreAmong xs ys → length ys ≤ length xs → IsPermutation xs ys
unfolding AreApart
shuffled f [] [] apart among short = IsPermutation-refl []
shuffled f [] (y ∷ ys) apart among short = absurd (omega (arith, short))
shuffled f (x ∷ xs) ys apart among short =
    let (i, within, is) = among x (in_front x xs) in
    let moved = IsPermutation-remove ys i x within (sym is) in
    let rest = shuffled f xs (remove ys i) apart.1 (taken f x xs ys i apart among moved) (omega (arith, short, length_permutation ys (x ∷ remove ys i) moved)) in
    IsPermutation-trans (x ∷ xs) (x ∷ remove ys i) ys (IsPermutation-cons x xs (remove ys i) rest) (IsPermutation-sym ys (x ∷ remove ys i) moved)
