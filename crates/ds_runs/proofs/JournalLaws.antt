-- The journals of books.
use Rattle.std.proofs.Common.{◌≡◌, ◌+◌, ℕ, zero, suc, List, [], ◌∷◌, map, Option, None, Some, refl, subst, arith, slice_get, All, AllPairs, Contains}
use Rattle.std.proofs.lemmas.List.Elements.{All-cons, All-nil}
use Rattle.std.proofs.lemmas.List.Kept.{AllPairs-cons}
use Rattle.std.proofs.lemmas.Option.{none-some, same_Some}
use Rattle.meter_book.specs.Replay.{Book, Journal}
use Rattle.ds_runs.specs.Conducting.{journal_of, journals_from}

-- what holds of the journal of each book holds of all journals
pub All-journals_from : (P : Journal → Type 0) (first : ℕ) (books : List (Option Book))
    → ((k : ℕ) (b : Book) → slice_get books k ≡ Some (Some b) → P (journal_of (first + k) b))
    → All P (journals_from first books)
unfolding journals_from
All-journals_from P first [] each = All-nil P
All-journals_from P first (None ∷ books) each =
    All-journals_from P (suc first) books
    (λ k b there.
    let place : first + suc k ≡ suc first + k = omega arith in
    subst (λ n. P (journal_of n b)) place (each (suc k) b there))
All-journals_from P first (Some b ∷ books) each =
    let place : first + 0 ≡ first = omega arith in
    All-cons P (journal_of first b) (journals_from (suc first) books) (subst (λ n. P (journal_of n b)) place (each 0 b refl))
    (All-journals_from P (suc first) books
    (λ k c there.
    let next : first + suc k ≡ suc first + k = omega arith in
    subst (λ n. P (journal_of n c)) next (each (suc k) c there)))

-- sites rise
pub AllPairs-journals_from : (first : ℕ) (books : List (Option Book)) → AllPairs (λ j k. ¬ (j.site ≡ k.site)) (journals_from first books)
unfolding journals_from
AllPairs-journals_from first [] = λ i j d before below. absurd (omega (arith, below))
AllPairs-journals_from first (None ∷ books) = AllPairs-journals_from (suc first) books
AllPairs-journals_from first (Some b ∷ books) =
    AllPairs-cons (λ j k. ¬ (j.site ≡ k.site)) (journal_of first b) (journals_from (suc first) books)
    (All-journals_from (λ k. ¬ (first ≡ k.site)) (suc first) books (λ k c there same. omega (arith, same)))
    (AllPairs-journals_from (suc first) books)

-- one more in front
Contains-cons : (first site : ℕ) (sites : List ℕ) → Contains sites site → Contains (first ∷ sites) site
Contains-cons first site sites (k, short, same) = (suc k, omega (arith, short), same)

-- each book has its journal
pub Contains-journals_from : (first : ℕ) (books : List (Option Book)) (k : ℕ) (b : Book) → slice_get books k ≡ Some (Some b)
    → Contains (map (λ j. j.site) (journals_from first books)) (first + k)
unfolding journals_from
Contains-journals_from first [] k b there = absurd (none-some (Some b) there)
Contains-journals_from first (None ∷ books) zero b there = absurd (none-some b (same_Some None (Some b) there))
Contains-journals_from first (None ∷ books) (suc k) b there =
    let place : suc first + k ≡ first + suc k = omega arith in
    subst (Contains (map (λ j. j.site) (journals_from (suc first) books))) place (Contains-journals_from (suc first) books k b there)
Contains-journals_from first (Some c ∷ books) zero b there =
    let place : first ≡ first + 0 = omega arith in
    (0, omega arith, place)
Contains-journals_from first (Some c ∷ books) (suc k) b there =
    let place : suc first + k ≡ first + suc k = omega arith in
    Contains-cons first (first + suc k) (map (λ j. j.site) (journals_from (suc first) books))
    (subst (Contains (map (λ j. j.site) (journals_from (suc first) books))) place (Contains-journals_from (suc first) books k b there))
