-- A list that is copied one by one.
use Rattle.std.proofs.Common.{arith, ◌≡◌, ℕ, ◌+◌, ◌<◌, List, [], ◌∷◌, ◌++◌, drop, get_or, set, take, length, map, refl, sym, ap, ◌∙◌}
use Rattle.std.proofs.lemmas.List.{append_assoc, drop_more, get_or-map, length-map, take_more, take_more_set}

-- one more is copied
pub one-copied : {X : Type 0} (done new all : List X) (copy item : X) (i : ℕ) → i < length all → copy ≡ item → item ≡ get_or all i item → new ≡ done ++ copy ∷ []
    → done ++ drop i all ≡ all → new ++ drop (i + 1) all ≡ all
one-copied done new all copy item i inside same is pushed so_far =
    let left : drop i all ≡ copy ∷ drop (i + 1) all = drop_more all i item inside ∙ ap (λ c. c ∷ drop (i + 1) all) (sym is ∙ sym same) in
    ap (λ l. l ++ drop (i + 1) all) pushed ∙ append_assoc done (copy ∷ []) (drop (i + 1) all) ∙ ap (λ rest. done ++ rest) (sym left) ∙ so_far

-- or is made of the next item
pub one-mapped : {X Y : Type 0} (f : X → Y) (done new : List Y) (xs : List X) (x : X) (y : Y) (i : ℕ) → i < length xs → y ≡ f x → x ≡ get_or xs i x → new ≡ done ++ y ∷ []
    → done ++ drop i (map f xs) ≡ map f xs → new ++ drop (i + 1) (map f xs) ≡ map f xs
one-mapped f done new xs x y i inside is is_item pushed so_far =
    one-copied done new (map f xs) y y i (omega (arith, inside, length-map xs f)) refl (is ∙ ap f is_item ∙ sym (get_or-map f xs i x y inside)) pushed so_far

-- or is put where it belongs
pub one-set : {X Y : Type 0} (f : X → Y) (done : List Y) (xs : List X) (x : X) (y : Y) (i : ℕ) → i < length xs → i < length done → y ≡ f x → x ≡ get_or xs i x
    → take i done ≡ take i (map f xs) → take (i + 1) (set done i y) ≡ take (i + 1) (map f xs)
one-set f done xs x y i inside within is is_item so_far =
    take_more_set done i y within
    ∙ ap (λ list. list ++ y ∷ []) so_far
    ∙ ap (λ v. take i (map f xs) ++ v ∷ []) (is ∙ ap f is_item ∙ sym (get_or-map f xs i x y inside))
    ∙ sym (take_more (map f xs) i y (omega (arith, inside, length-map xs f)))
