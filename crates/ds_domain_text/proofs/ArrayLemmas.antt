-- What the items of an array say, one after the other.
use Rattle.std.proofs.Common.{◌≡◌, ◌≢◌, ℕ, ◌+◌, ◌<◌, List, [], ◌∷◌, ◌++◌, length, get_or, drop, Option, None, Some, option_map, map, refl, sym, ap, ◌∙◌, arith, append_assoc}
use Rattle.std.proofs.lemmas.List.{map-append}
use Rattle.toml.specs.Data.{Data}
use Rattle.toml.specs.View.{items_view, view}
use Rattle.toml.specs.declared.value.Value.{Value}
use Rattle.toml.proofs.Views.{items_view-drop}
use Rattle.ds_domain_text.specs.Values.{each_of, two_numbers}

-- what the items left say, behind what those before them said
abbrev pub with_rest : {A : Type 0} → List A → Option (List A) → Option (List A)
with_rest done rest = option_map (λ more. done ++ more) rest

one_more : {A : Type 0} (done : List A) (a : A) (rest : Option (List A)) → with_rest done (option_map (λ more. a ∷ more) rest) ≡ with_rest (done ++ a ∷ []) rest
one_more done a None = refl
one_more done a (Some more) = ap Some (sym (append_assoc done (a ∷ []) more))

-- before the first item
pub each_of-none_done : {X A : Type 0} (f : X → A) (done : List X) (rest : Option (List A)) → done ≡ [] → with_rest (map f done) rest ≡ rest
each_of-none_done f done None e = refl
each_of-none_done f done (Some more) e = rw e refl

-- an item that says something
pub each_of-turn : {X A : Type 0} (read : Data → Option A) (f : X → A) (vs : List Value) (i : ℕ) (v : Value) (done after : List X) (x : X) → i < length vs → v ≡ get_or vs i v → Some (f x) ≡ read (view v)
    → after ≡ done ++ x ∷ []
    → with_rest (map f done) (each_of read (items_view (drop i vs))) ≡ each_of read (items_view vs)
    → with_rest (map f after) (each_of read (items_view (drop (i + 1) vs))) ≡ each_of read (items_view vs)
each_of-turn read f vs i v done after x h here said more before =
    let front : with_rest (map f done) (each_of read (items_view (drop i vs))) ≡ with_rest (map f done ++ f x ∷ []) (each_of read (items_view (drop (i + 1) vs))) =
    rw (items_view-drop vs i v h, ← here, ← said) (one_more (map f done) (f x) (each_of read (items_view (drop (i + 1) vs)))) in
    rw (more, map-append f done (x ∷ [])) (sym front ∙ before)

-- two numbers are in arrays of two items alone
pub two_numbers-other : (vs : List Value) → length vs ≢ 2 → two_numbers (items_view vs) ≡ None
two_numbers-other [] h = refl
two_numbers-other (a ∷ []) h = refl
two_numbers-other (a ∷ b ∷ []) h = absurd (omega arith)
two_numbers-other (a ∷ b ∷ c ∷ vs) h = refl
