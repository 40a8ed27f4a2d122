-- Lists in groups.
use Rattle.std.proofs.Common.{◌≡◌, ℕ, zero, suc, ◌<◌, List, [], ◌∷◌, ◌++◌, arith, get_or, ap, ◌∙◌, IsPermutation, flat_map, length, slice_set, append_assoc}
use Rattle.std.proofs.lemmas.List.Sorted.{IsPermutation-append_right, IsPermutation-middle, IsPermutation-sym, IsPermutation-trans}

-- one more behind those of a group is one more in front of all
pub group_more : {A X : Type 0} (of : A → List X) (groups : List A) (i : ℕ) (d more : A) (x : X) → i < length groups → of more ≡ of (get_or groups i d) ++ x ∷ []
    → IsPermutation (x ∷ flat_map of groups) (flat_map of (slice_set groups i more))
group_more of [] i d more x short is = absurd (omega (arith, short))
group_more of (g ∷ groups) zero d more x short is =
    let back : flat_map of (more ∷ groups) ≡ of g ++ x ∷ flat_map of groups = ap (λ front. front ++ flat_map of groups) is ∙ append_assoc (of g) (x ∷ []) (flat_map of groups) in
    rw back (IsPermutation-sym (of g ++ x ∷ flat_map of groups) (x ∷ (of g ++ flat_map of groups)) (IsPermutation-middle (of g) x (flat_map of groups)))
group_more of (g ∷ groups) (suc i) d more x short is =
    IsPermutation-trans (x ∷ (of g ++ flat_map of groups)) (of g ++ x ∷ flat_map of groups) (of g ++ flat_map of (slice_set groups i more))
    (IsPermutation-sym (of g ++ x ∷ flat_map of groups) (x ∷ (of g ++ flat_map of groups)) (IsPermutation-middle (of g) x (flat_map of groups)))
    (IsPermutation-append_right (of g) (x ∷ flat_map of groups) (flat_map of (slice_set groups i more)) (group_more of groups i d more x (omega (arith, short)) is))
