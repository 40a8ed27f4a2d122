-- What is taken of a list, one after the other.
use Rattle.std.proofs.Common.{◌≡◌, ◌<◌, ◌≤◌, ℕ, zero, suc, Bool, true, false, List, [], ◌∷◌, ◌++◌, length, get_or, refl, sym, ap, ◌∙◌, subst, arith, IsPermutation, replicate, slice_set, nat_eq, if◌then◌else◌}
use Rattle.std.proofs.lemmas.Bool.{false≢true}
use Rattle.std.proofs.lemmas.Bool.Decides.{nat_tests}
use Rattle.std.proofs.lemmas.List.Sorted.{IsPermutation-cons, IsPermutation-middle, IsPermutation-refl, IsPermutation-sym, IsPermutation-to_front, IsPermutation-trans, length_permutation}

-- those that are taken
pub taken_of : {X : Type 0} → List Bool → List X → List X
taken_of [] xs = []
taken_of (b ∷ bs) [] = []
taken_of (true ∷ bs) (x ∷ xs) = x ∷ taken_of bs xs
taken_of (false ∷ bs) (x ∷ xs) = taken_of bs xs

pub none_taken : {X : Type 0} (n : ℕ) (xs : List X) → taken_of (replicate n false) xs ≡ []
unfolding taken_of
none_taken zero xs = refl
none_taken (suc n) [] = refl
none_taken (suc n) (x ∷ xs) = none_taken n xs

taken_short : {X : Type 0} (bs : List Bool) (xs : List X) → length (taken_of bs xs) ≤ length xs
unfolding taken_of
taken_short [] xs = omega arith
taken_short (b ∷ bs) [] = omega arith
taken_short (true ∷ bs) (x ∷ xs) = omega (arith, taken_short bs xs)
taken_short (false ∷ bs) (x ∷ xs) = omega (arith, taken_short bs xs)

all_taken : {X : Type 0} (bs : List Bool) (xs : List X) → length (taken_of bs xs) ≡ length xs → taken_of bs xs ≡ xs
unfolding taken_of
all_taken [] [] long = refl
all_taken [] (x ∷ xs) long = absurd (omega (arith, long))
all_taken (b ∷ bs) [] long = refl
all_taken (true ∷ bs) (x ∷ xs) long = ap (λ us. x ∷ us) (all_taken bs xs (omega (arith, long)))
all_taken (false ∷ bs) (x ∷ xs) long = absurd (omega (arith, long, taken_short bs xs))

-- one more is taken
one_taken : {X : Type 0} (bs : List Bool) (xs : List X) (i : ℕ) (x : X) → i < length bs → i < length xs → get_or bs i false ≡ false
    → x ≡ get_or xs i x → IsPermutation (x ∷ taken_of bs xs) (taken_of (slice_set bs i true) xs)
unfolding taken_of
one_taken [] xs i x within short free is = absurd (omega (arith, within))
one_taken (b ∷ bs) [] i x within short free is = absurd (omega (arith, short))
one_taken (true ∷ bs) (y ∷ ys) zero x within short free is = absurd (false≢true (sym free))
one_taken (false ∷ bs) (y ∷ ys) zero x within short free is =
    subst (λ q. IsPermutation (x ∷ taken_of bs ys) (q ∷ taken_of bs ys)) is (IsPermutation-refl (x ∷ taken_of bs ys))
one_taken (true ∷ bs) (y ∷ ys) (suc i) x within short free is =
    let rest = taken_of bs ys in
    IsPermutation-trans (x ∷ y ∷ rest) (y ∷ x ∷ rest) (y ∷ taken_of (slice_set bs i true) ys)
    (IsPermutation-middle (x ∷ []) y rest)
    (IsPermutation-cons y (x ∷ rest) (taken_of (slice_set bs i true) ys) (one_taken bs ys i x (omega (arith, within)) (omega (arith, short)) free is))
one_taken (false ∷ bs) (y ∷ ys) (suc i) x within short free is =
    one_taken bs ys i x (omega (arith, within)) (omega (arith, short)) free is

pub one_more : {X : Type 0} (bs : List Bool) (xs out : List X) (i : ℕ) (x : X) → i < length bs → i < length xs → get_or bs i false ≡ false
    → x ≡ get_or xs i x → IsPermutation out (taken_of bs xs) → IsPermutation (out ++ x ∷ []) (taken_of (slice_set bs i true) xs)
unfolding taken_of
one_more bs xs out i x within short free is kept =
    IsPermutation-trans (out ++ x ∷ []) (x ∷ out) (taken_of (slice_set bs i true) xs) (IsPermutation-to_front out x)
    (IsPermutation-trans (x ∷ out) (x ∷ taken_of bs xs) (taken_of (slice_set bs i true) xs) (IsPermutation-cons x out (taken_of bs xs) kept)
    (one_taken bs xs i x within short free is))

-- as many are taken as there are
pub whole_taken : {X : Type 0} (bs : List Bool) (xs out : List X) → IsPermutation out (taken_of bs xs) → length out ≡ length xs → IsPermutation xs out
unfolding taken_of
whole_taken bs xs out kept long =
    let same = length_permutation out (taken_of bs xs) kept in
    IsPermutation-sym out xs (subst (λ us. IsPermutation out us) (all_taken bs xs (omega (arith, same, long))) kept)

pub empty_taken : {X : Type 0} (xs out : List X) (bs : List Bool) → bs ≡ replicate (length xs) false → length out ≡ 0 → IsPermutation out (taken_of bs xs)
empty_taken xs [] bs none empty =
    subst (λ us. IsPermutation [] (taken_of us xs)) (sym none) (subst (λ us. IsPermutation [] us) (sym (none_taken (length xs) xs)) (IsPermutation-refl []))
empty_taken xs (x ∷ out) bs none empty = absurd (omega (arith, empty))

pub if_told : {P : Type 0} (b : Bool) (x y new : P) → b ≡ true → new ≡ (if b then x else y) → new ≡ x
if_told b x y new is told = told ∙ ap (λ q. if q then x else y) is

pub nat_eq_true : (m n : ℕ) → nat_eq m n ≡ true → m ≡ n
nat_eq_true m n is = grind (arith, nat_tests)
