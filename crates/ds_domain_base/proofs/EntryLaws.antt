-- Entries of a map: one more behind the others, and what a look-up then finds.
use Rattle.std.proofs.Common.{rules, ◌≡◌, Bool, true, false, List, [], ◌∷◌, ◌++◌, None, is_some, refl, sym, subst, ◌∙◌, ap, append_assoc}
use Rattle.std.specs.Cmp.{IsEquivalence}
use Rattle.std.specs.List.{AllByRecursion, IsDistinct}
use Rattle.std.specs.Map.{keys_of, lookup}
use Rattle.std.proofs.lemmas.Map.Keys.{IsDistinct-head, IsDistinct-tail, IsDistinct-push}
use Rattle.std.proofs.lemmas.Map.Made.{is_some-lookup}
use Rattle.indexmap.specs.IndexMap.{insert_entry}

module _ {K V : Type 0} where
  -- by the test of the first key
  new_entry_by : (b : Bool) (e : K × V) (k : K) (v : V) (es : List (K × V)) (eq : K → K → Bool) → eq k e.0 ≡ b
      → lookup (eq k) (e ∷ es) ≡ None
      → (lookup (eq k) es ≡ None → insert_entry eq es k v ≡ es ++ (k, v) ∷ [])
      → insert_entry eq (e ∷ es) k v ≡ (e ∷ es) ++ (k, v) ∷ []
  new_entry_by true e k v es eq p none rest = search (rules, p, none)
  new_entry_by false e k v es eq p none rest = search (rules, p, none, rest)

  -- a key that is not there yet goes behind the others
  pub new_entry : (eq : K → K → Bool) (es : List (K × V)) (k : K) (v : V) → lookup (eq k) es ≡ None → insert_entry eq es k v ≡ es ++ (k, v) ∷ []
  new_entry eq [] k v none = refl
  new_entry eq (e ∷ es) k v none = new_entry_by (eq k e.0) e k v es eq refl none (new_entry eq es k v)

  found_by : (b : Bool) (e : K × V) (es more : List (K × V)) (test : K → Bool) → test e.0 ≡ b
      → (is_some (lookup test es) ≡ true → is_some (lookup test (es ++ more)) ≡ true)
      → is_some (lookup test (e ∷ es)) ≡ true → is_some (lookup test ((e ∷ es) ++ more)) ≡ true
  found_by true e es more test p rest found = search (rules, p)
  found_by false e es more test p rest found = search (rules, p, rest, found)

  -- what is found stays found
  pub still_found : (test : K → Bool) (es more : List (K × V)) → is_some (lookup test es) ≡ true → is_some (lookup test (es ++ more)) ≡ true
  still_found test [] more found = search (rules, found)
  still_found test (e ∷ es) more found = found_by (test e.0) e es more test refl (still_found test es more) found

  other_by : (b : Bool) (e : K × V) (es : List (K × V)) (k : K) (v : V) (test : K → Bool) → test e.0 ≡ b
      → lookup test (es ++ (k, v) ∷ []) ≡ lookup test es
      → lookup test ((e ∷ es) ++ (k, v) ∷ []) ≡ lookup test (e ∷ es)
  other_by true e es k v test p rest = rw p refl
  other_by false e es k v test p rest = rw p rest

  -- a look-up of another key finds what it found
  pub other_key : (test : K → Bool) (es : List (K × V)) (k : K) (v : V) → test k ≡ false → lookup test (es ++ (k, v) ∷ []) ≡ lookup test es
  other_key test [] k v p = rw p refl
  other_key test (e ∷ es) k v p = other_by (test e.0) e es k v test refl (other_key test es k v p)

  pub keys_of-push : (es : List (K × V)) (k : K) (v : V) → keys_of (es ++ (k, v) ∷ []) ≡ keys_of es ++ k ∷ []
  keys_of-push [] k v = refl
  keys_of-push (e ∷ es) k v = ap (λ ks. e.0 ∷ ks) (keys_of-push es k v)

  -- keys that differ still do with one more that was not there
  pub keys_differ : {eq : K → K → Bool} → IsEquivalence eq → (es : List (K × V)) (k : K) (v : V)
      → IsDistinct eq (keys_of es) → is_some (lookup (eq k) es) ≡ false → IsDistinct eq (keys_of (es ++ (k, v) ∷ []))
  keys_differ {eq = eq} laws es k v apart absent =
      rw (keys_of-push es k v) (IsDistinct-push laws (keys_of es) k apart (sym (is_some-lookup (eq k) es) ∙ absent))

  at_middle : (P : K → Type 0) (es rest : List (K × V)) (k : K) (v : V) → AllByRecursion P (keys_of (es ++ (k, v) ∷ rest)) → P k
  at_middle P [] rest k v all = all.0
  at_middle P (e ∷ es) rest k v all = at_middle P es rest k v all.1

  -- a key that differs from all others is not among those before it
  absent_before : {eq : K → K → Bool} → IsEquivalence eq → (es rest : List (K × V)) (k : K) (v : V)
      → IsDistinct eq (keys_of (es ++ (k, v) ∷ rest)) → lookup (eq k) es ≡ None
  absent_before laws [] rest k v apart = refl
  absent_before {eq = eq} laws (e ∷ es) rest k v apart =
      rw (laws.symm k e.0 ∙ at_middle (λ y. eq e.0 y ≡ false) es rest k v (IsDistinct-head eq e.0 (keys_of (es ++ (k, v) ∷ rest)) apart))
      (absent_before laws es rest k v (IsDistinct-tail eq e.0 (keys_of (es ++ (k, v) ∷ rest)) apart))

  -- one more entry is copied
  pub one_copied : {eq : K → K → Bool} → IsEquivalence eq → (all done left rest new : List (K × V)) (k : K) (v : V) → IsDistinct eq (keys_of all)
      → done ++ left ≡ all → left ≡ (k, v) ∷ rest → new ≡ insert_entry eq done k v → new ++ rest ≡ all
  one_copied {eq = eq} laws all done left rest new k v apart whole next put =
      ap (λ es. es ++ rest) (put ∙ new_entry eq done k v (absent_before laws done rest k v (subst (λ es. IsDistinct eq (keys_of es)) (sym split) apart)))
      ∙ append_assoc done ((k, v) ∷ []) rest ∙ split
    where
      split : done ++ (k, v) ∷ rest ≡ all
      split = ap (λ es. done ++ es) (sym next) ∙ whole
