-- The sums of columns: rows and visits, site by site.
use Rattle.std.proofs.Common.{◌≡◌, ◌≢◌, ℕ, zero, suc, ◌+◌, ◌<◌, ◌≤◌, List, [], ◌∷◌, length, get_or, Option, None, Some, ◌⊎◌, inl, inr, refl, sym, ◌∙◌, ap, subst, arith, slice_index, MatchOption, All, sum, sum_by}
use Rattle.std.proofs.lemmas.Bool.{cases_lt}
use Rattle.std.proofs.lemmas.List.Sums.{sum_by-cons}
use Rattle.meter_book.specs.Replay.{Book}
use Rattle.meter_book.specs.Chapters.{Chapter}
use Rattle.meter_fabric.specs.Closing.{AreEven, IsLong, IsShort, IsUnsettled, rows_at}
use Rattle.meter_fabric.specs.declared.fault.CloseFault.{CloseFault}
use Rattle.meter_fabric.specs.declared.fault.CloseFault.TheVariants.{PassMissing, NoMemory, ChapterMissing, Uneven}
use Rattle.meter_fabric.specs.Fabrics.{places_of, visits_at}

-- the sum of what a function gives for each number below a bound
abbrev upto : (ℕ → ℕ) → ℕ → ℕ
upto f zero = 0
upto f (suc n) = f 0 + upto (λ i. f (suc i)) n

upto_same : (f g : ℕ → ℕ) (n : ℕ) → ((i : ℕ) → f i ≡ g i) → upto f n ≡ upto g n
upto_same f g zero same = refl
upto_same f g (suc n) same = omega (arith, same 0, upto_same (λ i. f (suc i)) (λ i. g (suc i)) n (λ i. same (suc i)))

upto_none : (n : ℕ) → upto (λ i. 0) n ≡ 0
upto_none zero = refl
upto_none (suc n) = omega (arith, upto_none n)

upto_both : (f g : ℕ → ℕ) (n : ℕ) → upto (λ i. f i + g i) n ≡ upto f n + upto g n
upto_both f g zero = refl
upto_both f g (suc n) = omega (arith, upto_both (λ i. f (suc i)) (λ i. g (suc i)) n)

upto_le : (f g : ℕ → ℕ) (n : ℕ) → ((i : ℕ) → i < n → f i ≤ g i) → upto f n ≤ upto g n
upto_le f g zero below = omega arith
upto_le f g (suc n) below =
    let here = below 0 (omega arith) in
    let there = upto_le (λ i. f (suc i)) (λ i. g (suc i)) n (λ i less. below (suc i) (omega (arith, less))) in
    omega (arith, here, there)

-- where none is larger and the sums are the same, all are the same
upto_even : (f g : ℕ → ℕ) (n : ℕ) → ((i : ℕ) → i < n → f i ≤ g i) → upto f n ≡ upto g n → (i : ℕ) → i < n → f i ≡ g i
upto_even f g zero below same i less = absurd (omega (arith, less))
upto_even f g (suc n) below same zero less =
    let here = below 0 (omega arith) in
    let there = upto_le (λ i. f (suc i)) (λ i. g (suc i)) n (λ i less. below (suc i) (omega (arith, less))) in
    omega (arith, here, there, same)
upto_even f g (suc n) below same (suc i) less =
    let here = below 0 (omega arith) in
    let there = upto_le (λ i. f (suc i)) (λ i. g (suc i)) n (λ i less. below (suc i) (omega (arith, less))) in
    upto_even (λ i. f (suc i)) (λ i. g (suc i)) n (λ i less. below (suc i) (omega (arith, less))) (omega (arith, here, there, same)) i (omega (arith, less))

-- the rows of all books, by sites
rows_upto : (books : List (Option Book)) → sum_by places_of books ≡ upto (rows_at books) (length books)
rows_upto [] = refl
rows_upto (b ∷ books) = sum_by-cons places_of b books ∙ ap (λ n. places_of b + n) (rows_upto books)

-- the counts of a pass, by sites
counts_upto : (counts : List ℕ) → sum counts ≡ upto (λ i. slice_index counts i) (length counts)
counts_upto [] = refl
counts_upto (n ∷ counts) = sum_by-cons (λ x. x) n counts ∙ ap (λ m. n + m) (counts_upto counts)

all_first : (n : ℕ) (counts : List ℕ) (passes : List (List ℕ)) → All (λ (p : List ℕ). length p ≡ n) (counts ∷ passes) → length counts ≡ n
all_first n counts passes all = all 0 counts (omega arith)

all_rest : (n : ℕ) (counts : List ℕ) (passes : List (List ℕ)) → All (λ (p : List ℕ). length p ≡ n) (counts ∷ passes) → All (λ (p : List ℕ). length p ≡ n) passes
all_rest n counts passes all k d below = all (suc k) d (omega (arith, below))

-- the counts of all passes, by sites
visits_upto : (n : ℕ) (passes : List (List ℕ)) → All (λ (p : List ℕ). length p ≡ n) passes → sum_by sum passes ≡ upto (visits_at passes) n
visits_upto n [] sized = sym (upto_none n)
visits_upto n (counts ∷ passes) sized =
    let own : sum counts ≡ upto (λ i. slice_index counts i) n = counts_upto counts ∙ ap (upto (λ i. slice_index counts i)) (all_first n counts passes sized) in
    let rest = visits_upto n passes (all_rest n counts passes sized) in
    let both = upto_both (λ i. slice_index counts i) (visits_at passes) n in
    let here = upto_same (visits_at (counts ∷ passes)) (λ i. slice_index counts i + visits_at passes i) n (λ i. sum_by-cons (λ (p : List ℕ). slice_index p i) counts passes) in
    omega (arith, sum_by-cons sum counts passes, own, rest, both, here)

module _ (books : List (Option Book)) (passes : List (List ℕ)) (sized : All (λ (p : List ℕ). length p ≡ length books) passes) (total : sum_by places_of books ≡ sum_by sum passes) where
  same_sums : upto (rows_at books) (length books) ≡ upto (visits_at passes) (length books)
  same_sums = sym (rows_upto books) ∙ total ∙ visits_upto (length books) passes sized

  -- where no site has fewer rows, all are even
  pub even_short : ((s : ℕ) → s < length books → visits_at passes s ≤ rows_at books s) → AreEven books passes
  even_short none s below = sym (upto_even (visits_at passes) (rows_at books) (length books) none (sym same_sums) s below)

  pub even_long : ((s : ℕ) → s < length books → rows_at books s ≤ visits_at passes s) → AreEven books passes
  even_long none s below = upto_even (rows_at books) (visits_at passes) (length books) none same_sums s below
