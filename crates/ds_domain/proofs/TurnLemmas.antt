-- Entries that are taken one after the other.
use Rattle.std.proofs.Common.{◌≡◌, ◌⊎◌, ℕ, ◌+◌, ◌<◌, ◌≤◌, List, [], length, get_or, drop, map, Result, Ok, Err, refl, sym, ◌∙◌, inl, inr}
use Rattle.std.proofs.lemmas.List.{drop_all, drop_more}
use Rattle.toml.specs.Data.{Members}
use Rattle.ds_domain_base.specs.Faults.{no_memory}
use Rattle.ds_domain_base.specs.declared.fault.DomainFault.{DomainFault}
use Rattle.ds_domain_text.specs.Steps.{◌>>=◌}
use Rattle.ds_domain.specs.Sections.{in_turn}

-- the next entry, and then those behind it
in_turn-next : {D X : Type 0} (f : D → Members → Result D DomainFault) (v : X → Members) (d : D) (xs : List X) (i : ℕ) (x : X) → i < length xs → x ≡ get_or xs i x
    → in_turn f d (map v (drop i xs)) ≡ (f d (v x) >>= (λ next. in_turn f next (map v (drop (i + 1) xs))))
unfolding in_turn
in_turn-next f v d xs i x h here = rw (drop_more xs i x h, ← here) refl

-- an entry that is taken
pub in_turn-taken : {D X : Type 0} (f : D → Members → Result D DomainFault) (v : X → Members) (d after : D) (xs : List X) (i : ℕ) (x : X) (all : Result D DomainFault)
    → i < length xs → x ≡ get_or xs i x → f d (v x) ≡ Ok after
    → in_turn f d (map v (drop i xs)) ≡ all
    → in_turn f after (map v (drop (i + 1) xs)) ≡ all
in_turn-taken f v d after xs i x all h here taken before =
    let front : in_turn f d (map v (drop i xs)) ≡ in_turn f after (map v (drop (i + 1) xs)) = in_turn-next f v d xs i x h here ∙ rw taken refl in
    sym front ∙ before

-- an entry that is refused
pub in_turn-refused : {D X : Type 0} (f : D → Members → Result D DomainFault) (v : X → Members) (d : D) (xs : List X) (i : ℕ) (x : X) (all : Result D DomainFault) (fault : DomainFault)
    → i < length xs → x ≡ get_or xs i x
    → in_turn f d (map v (drop i xs)) ≡ all
    → (fault ≡ no_memory) ⊎ (f d (v x) ≡ Err fault)
    → (fault ≡ no_memory) ⊎ (all ≡ Err fault)
in_turn-refused f v d xs i x all fault h here before refused =
    elim refused as (λ _. (fault ≡ no_memory) ⊎ (all ≡ Err fault)) [
      | inl memory ↦ inl memory
      | inr told ↦ inr (sym before ∙ in_turn-next f v d xs i x h here ∙ rw told refl)
    ]

-- behind the last entry
pub in_turn-done : {D X : Type 0} (f : D → Members → Result D DomainFault) (v : X → Members) (d : D) (xs : List X) (i : ℕ) (all : Result D DomainFault)
    → length xs ≤ i
    → in_turn f d (map v (drop i xs)) ≡ all
    → all ≡ Ok d
unfolding in_turn
in_turn-done f v d xs i all h before =
    let gone : drop i xs ≡ [] = drop_all i xs h in
    sym before ∙ rw gone refl
