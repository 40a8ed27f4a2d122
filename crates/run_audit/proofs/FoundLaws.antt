-- What is found first along a list.
use Rattle.std.proofs.Common.{arith, ◌≡◌, ℕ, zero, suc, ◌+◌, ◌<◌, ◌≤◌, Bool, true, false, List, [], ◌∷◌, length, get_or, drop, Option, None, Some, is_some, refl, sym, ap, ◌∙◌, IsSome, slice_get}
use Rattle.std.proofs.lemmas.List.{drop_all, drop_more}
use Rattle.moment_core.specs.Columns.{each_column}
use Rattle.moment_core.specs.declared.column.Column.{Column}
use Rattle.moment_core.specs.declared.column.Column.TheVariants.{Green}
use Rattle.run_audit.specs.Verdicts.{first_found, first_of}

pub found : {B : Type 0} (here rest whole : Option B) → is_some here ≡ true → first_of here rest ≡ whole → here ≡ whole
found None rest whole some same = absurd cc
found (Some x) rest whole some same = same

pub not_found : {B : Type 0} (here rest whole : Option B) → is_some here ≡ false → first_of here rest ≡ whole → rest ≡ whole
not_found None rest whole none same = same
not_found (Some x) rest whole none same = absurd cc

-- from a place of a list on
pub first_found-next : {A B : Type 0} (find : A → Option B) (xs : List A) (i : ℕ) (x : A) → i < length xs → x ≡ get_or xs i x
    → first_found find (drop i xs) ≡ first_of (find x) (first_found find (drop (i + 1) xs))
unfolding first_found
first_found-next find xs i x short at =
    ap (λ ys. first_found find ys) (drop_more xs i x short) ∙ ap (λ y. first_of (find y) (first_found find (drop (i + 1) xs))) (sym at)

pub first_found-over : {A B : Type 0} (find : A → Option B) (xs : List A) (i : ℕ) → length xs ≤ i → first_found find (drop i xs) ≡ None
unfolding first_found
first_found-over find xs i long = ap (λ ys. first_found find ys) (drop_all i xs long)

-- what is found at a place is what is found from there on, and where nothing is found there, what is found behind it
pub found-next : {A B : Type 0} (find : A → Option B) (xs : List A) (i : ℕ) (x : A) (here whole : Option B) (test : Bool)
    → i < length xs → x ≡ get_or xs i x → here ≡ find x → test ≡ is_some here → first_found find (drop i xs) ≡ whole
    → (test ≡ true → here ≡ whole) × (test ≡ false → first_found find (drop (i + 1) xs) ≡ whole)
found-next find xs i x here whole test short at is tests same =
    let rest = first_found find (drop (i + 1) xs) in
    let from_here = ap (λ h. first_of h rest) is ∙ sym (first_found-next find xs i x short at) ∙ same in (
      λ some. found here rest whole (sym tests ∙ some) from_here,
      λ none. not_found here rest whole (sym tests ∙ none) from_here,
    )

-- an element is the one at its place, whatever stands in for one that is missing
get_or-own : {A : Type 0} (xs : List A) (i : ℕ) (d : A) → i < length xs → get_or xs i d ≡ get_or xs i (get_or xs i d)
get_or-own [] i d short = absurd (omega (arith, short))
get_or-own (x ∷ xs) zero d short = refl
get_or-own (x ∷ xs) (suc i) d short = get_or-own xs i d (omega (arith, short))

-- the same along the columns
pub found-column : {B : Type 0} (find : Column → Option B) (columns : List Column) (i : ℕ) (here whole : Option B) (test : Bool)
    → columns ≡ each_column → i < length columns → here ≡ find (get_or columns i Green) → test ≡ is_some here → first_found find (drop i each_column) ≡ whole
    → (test ≡ true → here ≡ whole) × (test ≡ false → first_found find (drop (i + 1) each_column) ≡ whole)
found-column find columns i here whole test columns_are short is tests same =
    let inside : i < length each_column = omega (arith, ap length columns_are, short) in
    found-next find each_column i (get_or each_column i Green) here whole test inside (get_or-own each_column i Green inside)
    (is ∙ ap (λ all. find (get_or all i Green)) columns_are) tests same

-- there is an element at a place of a list
pub is_there : {A : Type 0} (got : Option A) (xs : List A) (i : ℕ) → i < length xs → got ≡ slice_get xs i → IsSome got
is_there got [] i short at = absurd (omega (arith, short))
is_there got (x ∷ xs) zero short at = rw at refl
is_there got (x ∷ xs) (suc i) short at = is_there got xs i (omega (arith, short)) at
