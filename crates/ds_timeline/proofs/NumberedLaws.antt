-- Where flows count up, each is at its place, and they differ.
use Rattle.std.proofs.Common.{◌≡◌, ◌<◌, ◌+◌, ℕ, zero, suc, true, false, List, [], ◌∷◌, ◌++◌, refl, sym, ap, subst, ◌∙◌, arith, AllPairs, find, length, nat_eq, slice_get}
use Rattle.std.specs.List.{AllByRecursion}
use Rattle.std.proofs.lemmas.List.Elements.{All-from_recursion}
use Rattle.std.proofs.lemmas.List.Kept.{AllPairs-cons}
use Rattle.ds_timeline.specs.Kept.{IsNumbered}
use Rattle.ds_timeline.specs.declared.reservation.Reservation.{Reservation}

above-apart : (flow number : ℕ) (rs : List Reservation) → flow < number → IsNumbered number rs → AllByRecursion (λ s. ¬ (flow ≡ s.flow)) rs
unfolding IsNumbered
above-apart flow number [] below numbered = tt
above-apart flow number (s ∷ rs) below numbered = (λ same. omega (arith, below, numbered.0, same), above-apart flow (suc number) rs (omega (arith, below)) numbered.1)

pub numbered-apart : (number : ℕ) (rs : List Reservation) → IsNumbered number rs → AllPairs (λ r s. ¬ (r.flow ≡ s.flow)) rs
unfolding IsNumbered
numbered-apart number [] numbered = λ i j d less inside. absurd (omega (arith, less, inside))
numbered-apart number (r ∷ rs) numbered =
    AllPairs-cons (λ r s. ¬ (r.flow ≡ s.flow)) r rs
    (All-from_recursion (λ s. ¬ (r.flow ≡ s.flow)) rs (above-apart r.flow (suc number) rs (omega (arith, numbered.0)) numbered.1))
    (numbered-apart (suc number) rs numbered.1)

-- a contract of a flow is found at its place
found-at : (number place : ℕ) (rs : List Reservation) → IsNumbered number rs → find (λ r. nat_eq r.flow (number + place)) rs ≡ slice_get rs place
unfolding IsNumbered
found-at number place [] numbered = refl
found-at number zero (r ∷ rs) numbered = let here : nat_eq r.flow (number + 0) ≡ true = grind (arith, numbered.0) in rw here refl
found-at number (suc place) (r ∷ rs) numbered =
    let other : nat_eq r.flow (number + suc place) ≡ false = grind (arith, numbered.0) in
    let next : number + suc place ≡ suc number + place = omega arith in
    rw other (subst (λ n. find (λ x. nat_eq x.flow n) rs ≡ slice_get rs place) (sym next) (found-at (suc number) place rs numbered.1))

pub numbered-found : (flow : ℕ) (rs : List Reservation) → IsNumbered 0 rs → find (λ r. nat_eq r.flow flow) rs ≡ slice_get rs flow
numbered-found flow rs numbered = let same : 0 + flow ≡ flow = omega arith in ap (λ n. find (λ r. nat_eq r.flow n) rs) (sym same) ∙ found-at 0 flow rs numbered

-- one more at the end
pub numbered-push : (number : ℕ) (rs : List Reservation) (r : Reservation) → IsNumbered number rs → r.flow ≡ number + length rs → IsNumbered number (rs ++ r ∷ [])
unfolding IsNumbered
numbered-push number [] r numbered is = (omega (arith, is), tt)
numbered-push number (s ∷ rs) r numbered is = (numbered.0, numbered-push (suc number) rs r numbered.1 (omega (arith, is)))
