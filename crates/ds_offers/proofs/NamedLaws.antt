-- Places of the names of contracts, noted one by one.
use Rattle.std.proofs.Common.{◌≡◌, ℕ, ◌+◌, ◌<◌, ◌≤◌, Bool, true, false, cond, ltb, eqb, get_or, List, [], ◌∷◌, ◌++◌, length, length-append, not, take, Option, None, Some, position, is_some, refl, sym, ap, subst, ◌∙◌, arith, bytes_eq}
use Rattle.std.specs.List.{position_or_len}
use Rattle.std.specs.Map.{lookup}
use Rattle.std.specs.Option.{option_or}
use Rattle.std.specs.Cmp.Lexicographic.{bytes_decides}
use Rattle.std.proofs.lemmas.Bool.{false≢true}
use Rattle.std.proofs.lemmas.Bool.Decides.{nat_tests}
use Rattle.std.proofs.lemmas.List.{length-take-le, take_more}
use Rattle.std.proofs.lemmas.List.Folds.{position_or_len_push}
use Rattle.std.proofs.lemmas.List.Sums.{prefix_len-le-length}
use Rattle.indexmap.specs.IndexMap.{insert_entry}
use Rattle.ds_domain_base.specs.declared.contract.Contract.{Contract}
use Rattle.ds_domain_base.proofs.EntryLaws.{new_entry}

pushed : (place count : ℕ) (here : Bool) → place ≤ count
    → cond (ltb (cond (eqb place count) (count + cond here 0 1) place) (count + 1)) (Some (cond (eqb place count) (count + cond here 0 1) place)) None
    ≡ option_or (cond (ltb place count) (Some place) None) (cond here (Some count) None)
pushed place count true within = grind (arith, nat_tests)
pushed place count false within = grind (arith, nat_tests)

-- where an element is found in a list with one more behind it
pub position_push : {X : Type 0} (test : X → Bool) (xs : List X) (x : X)
    → position test (xs ++ x ∷ []) ≡ option_or (position test xs) (cond (test x) (Some (length xs)) None)
position_push test xs x =
    let count : length (xs ++ x ∷ []) ≡ length xs + 1 = length-append xs (x ∷ []) in
    rw (position_or_len_push test xs x, count) (pushed (position_or_len test xs) (length xs) (test x) (prefix_len-le-length (λ y. not (test y)) xs))

-- a look-up among entries with one more behind them
pub lookup_push : {K V : Type 0} (test : K → Bool) (es : List (K × V)) (k : K) (v : V)
    → lookup test (es ++ (k, v) ∷ []) ≡ option_or (lookup test es) (cond (test k) (Some v) None)
lookup_push test [] k v = refl
lookup_push test (e ∷ es) k v = by (test e.0) (lookup_push test es k v)
  where
    by : (b : Bool) → lookup test (es ++ (k, v) ∷ []) ≡ option_or (lookup test es) (cond (test k) (Some v) None)
        → cond b (Some e.1) (lookup test (es ++ (k, v) ∷ [])) ≡ option_or (cond b (Some e.1) (lookup test es)) (cond (test k) (Some v) None)
    by true h = refl
    by false h = h

-- under each name stands the place of the first of these contracts that has it
abbrev pub AreNoted : {K : Type 0} → (K → List ℕ) → List (K × ℕ) → List Contract → Type 0
AreNoted text es contracts = (name : List ℕ) → lookup (λ key. bytes_eq name (text key)) es ≡ position (λ (c : Contract). bytes_eq name c.name) contracts

-- a name that is new is noted with its place
pub noted_new : {K : Type 0} (text : K → List ℕ) (es : List (K × ℕ)) (before : List Contract) (c : Contract) (k : K) (place : ℕ)
    → text k ≡ c.name → length before ≡ place → AreNoted text es before → AreNoted text (es ++ (k, place) ∷ []) (before ++ c ∷ [])
noted_new text es before c k place same count noted name =
    rw (lookup_push (λ key. bytes_eq name (text key)) es k place, position_push (λ (d : Contract). bytes_eq name d.name) before c, noted name, same, count) refl

found_anyway : {X : Type 0} (found : Option X) (here : Bool) (x : X) → (here ≡ true → is_some found ≡ true) → found ≡ option_or found (cond here (Some x) None)
found_anyway (Some y) here x there = refl
found_anyway None true x there = absurd (false≢true (there refl))
found_anyway None false x there = refl

-- a name that was noted before keeps its place
pub noted_before : {K : Type 0} (text : K → List ℕ) (es : List (K × ℕ)) (before : List Contract) (c : Contract)
    → is_some (lookup (λ key. bytes_eq c.name (text key)) es) ≡ true → AreNoted text es before → AreNoted text es (before ++ c ∷ [])
noted_before text es before c known noted name =
    noted name
    ∙ found_anyway (position (λ (d : Contract). bytes_eq name d.name) before) (bytes_eq name c.name) (length before)
    (λ same. subst (λ other. is_some (position (λ (d : Contract). bytes_eq other d.name) before) ≡ true) (sym ((bytes_decides name c.name).0 same))
    (subst (λ found. is_some found ≡ true) (noted c.name) known))
    ∙ sym (position_push (λ (d : Contract). bytes_eq name d.name) before c)

-- the contract of one more place is noted where its name is new
pub noted_next : {K : Type 0} (text : K → List ℕ) (es new : List (K × ℕ)) (contracts : List Contract) (place : ℕ) (c : Contract) (k : K)
    → place < length contracts → c ≡ get_or contracts place c → text k ≡ c.name
    → is_some (lookup (λ key. bytes_eq (text k) (text key)) es) ≡ false → new ≡ insert_entry (λ a b. bytes_eq (text a) (text b)) es k place
    → AreNoted text es (take place contracts) → AreNoted text new (take (place + 1) contracts)
noted_next text es new contracts place c k within at same absent put noted =
    let count : length (take place contracts) ≡ place = length-take-le place contracts (omega arith) in
    let more : take (place + 1) contracts ≡ take place contracts ++ c ∷ [] = take_more contracts place c within ∙ ap (λ d. take place contracts ++ d ∷ []) (sym at) in
    let none = is_none (lookup (λ key. bytes_eq (text k) (text key)) es) absent in
    rw (put ∙ new_entry (λ a b. bytes_eq (text a) (text b)) es k place none, more) (noted_new text es (take place contracts) c k place same count noted)
  where
    is_none : {X : Type 0} (found : Option X) → is_some found ≡ false → found ≡ None
    is_none None h = refl
    is_none (Some x) h = absurd cc

-- and where it is not, nothing is
pub noted_again : {K : Type 0} (text : K → List ℕ) (es : List (K × ℕ)) (contracts : List Contract) (place : ℕ) (c : Contract)
    → place < length contracts → c ≡ get_or contracts place c
    → is_some (lookup (λ key. bytes_eq c.name (text key)) es) ≡ true
    → AreNoted text es (take place contracts) → AreNoted text es (take (place + 1) contracts)
noted_again text es contracts place c within at known noted =
    let more : take (place + 1) contracts ≡ take place contracts ++ c ∷ [] = take_more contracts place c within ∙ ap (λ d. take place contracts ++ d ∷ []) (sym at) in
    rw more (noted_before text es (take place contracts) c known noted)
