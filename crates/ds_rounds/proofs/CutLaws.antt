-- Visits are cut into rounds in one way alone.
use Rattle.std.proofs.Common.{◌≡◌, ℕ, Bool, true, ◌+◌, ◌<◌, List, [], ◌∷◌, ◌++◌, length, drop, refl, sym, ap, subst, ◌∙◌, arith, nat_eq, append-nil, append_assoc}
use Rattle.std.proofs.lemmas.Bool.Decides.{nat_tests}
use Rattle.ds_rounds.specs.Rounds.{AreRounds, IsFirstRound}
use Rattle.ds_rounds.specs.declared.visit.Visit.{Visit}
use Rattle.ds_rounds.proofs.RoundLaws.{take_round}

-- a first round is no shorter than another
pub no_shorter : (skew : ℕ) (visits : List Visit) (n m : ℕ) → IsFirstRound skew visits n → IsFirstRound skew visits m
    → ¬ (n < m)
no_shorter skew visits n m is other less =
    is.whole (omega (arith, less, other.there)) (take_round skew visits (n + 1) m (omega (arith, less)) other.round)

pub one_first : (skew : ℕ) (visits : List Visit) (n m : ℕ) → IsFirstRound skew visits n → IsFirstRound skew visits m
    → n ≡ m
one_first skew visits n m is other =
    let low = no_shorter skew visits n m is other in
    let high = no_shorter skew visits m n other is in
    omega (arith, low, high)

pub none_of_none : (skew : ℕ) (n : ℕ) → ¬ IsFirstRound skew [] n
none_of_none skew n is = omega (arith, is.some, is.there)

pub one_cut : (skew : ℕ) (visits : List Visit) (counts others : List ℕ) → AreRounds skew visits counts
    → AreRounds skew visits others → counts ≡ others
unfolding AreRounds
one_cut skew visits [] [] are other = refl
one_cut skew visits [] (m ∷ ms) are other = absurd (none_of_none skew m (subst (λ vs. IsFirstRound skew vs m) are other.0))
one_cut skew visits (n ∷ ns) [] are other = absurd (none_of_none skew n (subst (λ vs. IsFirstRound skew vs n) other are.0))
one_cut skew visits (n ∷ ns) (m ∷ ms) are other =
    let same = one_first skew visits n m are.0 other.0 in
    let rest = one_cut skew (drop n visits) ns ms are.1 (subst (λ k. AreRounds skew (drop k visits) ms) (sym same) other.1) in
    ap (λ k. k ∷ ns) same ∙ ap (λ ks. m ∷ ks) rest

-- ---- a cut, as far as it came

-- with what is left cut into rounds, the whole is
abbrev pub IsCutTo : ℕ → List Visit → List ℕ → List Visit → Type 0
IsCutTo skew visits lengths rest = (counts : List ℕ) → AreRounds skew rest counts → AreRounds skew visits (lengths ++ counts)

pub cut_further : (skew : ℕ) (visits : List Visit) (lengths : List ℕ) (rest : List Visit) (count : ℕ) (more : List ℕ) (left : List Visit)
    → IsCutTo skew visits lengths rest → IsFirstRound skew rest count → more ≡ lengths ++ count ∷ []
    → left ≡ drop count rest
    → IsCutTo skew visits more left
unfolding AreRounds
cut_further skew visits lengths rest count more left to is pushed behind counts are =
    subst (AreRounds skew visits) (sym (append_assoc lengths (count ∷ []) counts) ∙ ap (λ ls. ls ++ counts) (sym pushed))
    (to (count ∷ counts) (is, subst (λ vs. AreRounds skew vs counts) behind are))

pub cut_whole : (skew : ℕ) (visits : List Visit) (lengths : List ℕ) (rest : List Visit)
    → IsCutTo skew visits lengths rest → rest ≡ []
    → AreRounds skew visits lengths
unfolding AreRounds
cut_whole skew visits lengths rest to done = subst (AreRounds skew visits) (append-nil lengths) (to [] done)

pub none_left : (rest : List Visit) (empty : Bool) → empty ≡ nat_eq (length rest) 0 → empty ≡ true → rest ≡ []
none_left [] empty is passes = refl
none_left (v ∷ rest) empty is passes = absurd (wrong (length (v ∷ rest)) (sym is ∙ passes) (omega arith))
  where
    wrong : (n : ℕ) → nat_eq n 0 ≡ true → 0 < n → ⊥
    wrong n same more = grind (arith, nat_tests)
