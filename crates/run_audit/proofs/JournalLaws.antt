-- What is known of journals that are one for each site, and of a front of them.
use Rattle.std.proofs.Common.{◌≡◌, ⊎_elim, inl, inr, ℕ, suc, ◌+◌, ◌<◌, not, Bool, true, false, List, [], ◌∷◌, map, length, take, get_or, refl, sym, ◌∙◌, ap, arith, Some, None, ◌||◌, Option, cond, is_some, nat_eq, nat_lt, slice_get, position, AllPairs, Contains, IsTrue}
use Rattle.std.specs.List.{list_any, prefix_len}
use Rattle.std.proofs.lemmas.Bool.{cases_Bool, cases_lt, cases_eq, true≢false}
use Rattle.std.proofs.lemmas.Bool.Decides.{nat_tests}
use Rattle.std.proofs.lemmas.List.{get_or-map, get_or-take, get_or_default, length-map, length-take, take_more}
use Rattle.std.proofs.lemmas.List.Elements.{at_from_Contains}
use Rattle.std.proofs.lemmas.List.Folds.{Any-from_list_any, list_any_at}
use Rattle.std.proofs.lemmas.List.Quantifiers.{all_pairs_push, position-Some}
use Rattle.meter_book.specs.Replay.{Journal, journal_rows}
use Rattle.meter_fabric_base.specs.declared.trail.Receipt.{Receipt}
use Rattle.run_audit.specs.Assembling.{IsNoted}

-- ---- journals with sites of their own

abbrev pub HaveOwnSites : List Journal → Type 0
HaveOwnSites journals = AllPairs (λ j k. ¬ (j.site ≡ k.site)) journals

-- the place of a journal of a site among the sites
site_among : (journals : List Journal) (site : ℕ) → list_any (nat_eq site) (map (λ j. j.site) journals) ≡ true
    → (k : ℕ) × (k < length journals) × ((d : Journal) → site ≡ (get_or journals k d).site)
site_among journals site any =
    let (k, x, inside, is, passes) = Any-from_list_any (nat_eq site) (map (λ (j : Journal). j.site) journals) any in
    let short : k < length journals = omega (arith, inside, length-map journals (λ (j : Journal). j.site)) in
    let same : site ≡ x = grind (arith, nat_tests) in
    (k, short, λ d. same ∙ sym is ∙ get_or-map (λ (j : Journal). j.site) journals k d x short)

pub repeated_site : (journals : List Journal) (i : ℕ) (j : Journal) → i < length journals → j ≡ get_or journals i j
    → list_any (nat_eq j.site) (map (λ j. j.site) (take i journals)) ≡ true
    → ¬ HaveOwnSites journals
repeated_site journals i j inside is any once =
    let (k, short, same) = site_among (take i journals) j.site any in
    let before : k < i = omega (arith, short, length-take i journals) in
    let at_place : (get_or journals k j).site ≡ (get_or journals i j).site =
    sym (ap (λ (x : Journal). x.site) (get_or-take i journals k j before)) ∙ sym (same j) ∙ ap (λ (x : Journal). x.site) is
    in
    once k i j before inside at_place

pub own_site_more : (journals : List Journal) (i : ℕ) (j : Journal) → i < length journals → j ≡ get_or journals i j
    → list_any (nat_eq j.site) (map (λ j. j.site) (take i journals)) ≡ false
    → HaveOwnSites (take i journals)
    → HaveOwnSites (take (i + 1) journals)
own_site_more journals i j inside is none once =
    rw (take_more journals i j inside, ← is) (all_pairs_push (λ (j k : Journal). ¬ (j.site ≡ k.site)) (take i journals) j once
    (λ k d short same.
    let there : list_any (nat_eq j.site) (map (λ (x : Journal). x.site) (take i journals)) ≡ true =
    list_any_at (nat_eq j.site) (map (λ (x : Journal). x.site) (take i journals)) k 0 (omega (arith, short, length-map (take i journals) (λ (x : Journal). x.site)))
    (let at_place = get_or-map (λ (x : Journal). x.site) (take i journals) k d 0 short in let e = at_place ∙ same in grind (arith, nat_tests))
    in
    true≢false (sym there ∙ none)))

-- of two journals of a site one is the other
pub same_journal : (journals : List Journal) (j k : Journal) → HaveOwnSites journals → Contains journals j → Contains journals k → j.site ≡ k.site → j ≡ k
same_journal journals j k once has_j has_k same =
    let (a, within_a, is_a) = at_from_Contains journals j has_j in
    let (b, within_b, is_b) = at_from_Contains journals k has_k in
    let sites : (get_or journals a j).site ≡ (get_or journals b j).site = ap (λ (x : Journal). x.site) (is_a j) ∙ same ∙ sym (ap (λ (x : Journal). x.site) (is_b j)) in
    ⊎_elim
    (λ e. sym (is_a j) ∙ ap (λ n. get_or journals n j) e ∙ is_b j)
    (λ apart. ⊎_elim
    (λ below. absurd (once a b j below within_b sites))
    (λ above. absurd (once b a j (omega (arith, apart, above)) within_a (sym sites)))
    (cases_lt a b))
    (cases_eq a b)

-- ---- receipts that are rows of journals

pub not_noted : (journals : List Journal) (r : Receipt) → list_any (nat_eq r.site) (map (λ j. j.site) journals) ≡ false → ¬ IsNoted journals r
not_noted journals r none noted =
    let (j, has, same, at_place) = noted in
    let (k, within, is) = at_from_Contains journals j has in
    let sites = map (λ (x : Journal). x.site) journals in
    let at_site : get_or sites k 0 ≡ r.site = get_or-map (λ (x : Journal). x.site) journals k j 0 within ∙ ap (λ (x : Journal). x.site) (is j) ∙ same in
    let there : list_any (nat_eq r.site) sites ≡ true =
    list_any_at (nat_eq r.site) sites k 0 (omega (arith, within, length-map journals (λ (x : Journal). x.site))) (equal r.site (get_or sites k 0) (sym at_site))
    in
    true≢false (sym there ∙ none)
  where
    equal : (a b : ℕ) → a ≡ b → nat_eq a b ≡ true
    equal a b same = grind (arith, nat_tests)

pub noted_here : (journals : List Journal) (r : Receipt) (place : ℕ) (j : Journal) (passed : Bool) → HaveOwnSites journals
    → position (nat_eq r.site) (map (λ j. j.site) journals) ≡ Some place → j ≡ get_or journals place j
    → (IsTrue passed → slice_get (journal_rows j) r.row.place ≡ Some r.row) × (slice_get (journal_rows j) r.row.place ≡ Some r.row → IsTrue passed)
    → (IsTrue passed → IsNoted journals r) × (IsNoted journals r → IsTrue passed)
noted_here journals r place j passed once found is test =
    let (short, passes, first) = position-Some (nat_eq r.site) (map (λ (x : Journal). x.site) journals) place 0 found in
    let within : place < length journals = omega (arith, short, length-map journals (λ (x : Journal). x.site)) in
    let at_site : r.site ≡ get_or (map (λ (x : Journal). x.site) journals) place 0 = grind (arith, nat_tests) in
    let same : j.site ≡ r.site = ap (λ (x : Journal). x.site) is ∙ sym (get_or-map (λ (x : Journal). x.site) journals place j 0 within) ∙ sym at_site in
    let has : Contains journals j = (place, within, sym is) in (
      λ passes_row. (j, has, same, test.0 passes_row),
      λ noted.
          let (k, has_k, same_k, at_place) = noted in
          let one : k ≡ j = same_journal journals k j once has_k has (same_k ∙ sym same) in
          test.1 (rw one at at_place),
    )

-- a number is among others exactly where a test finds it there
pub is_among : (xs : List ℕ) (x : ℕ) → (list_any (nat_eq x) xs ≡ true → Contains xs x) × (Contains xs x → list_any (nat_eq x) xs ≡ true)
is_among xs x = (
  λ any.
      let (k, y, inside, is, passes) = Any-from_list_any (nat_eq x) xs any in
      let same : get_or xs k y ≡ x = is ∙ sym (same_number x y passes) in
      (k, inside, get_or_default xs k x y inside ∙ same),
  λ has.
      let (k, inside, is) = has in
      list_any_at (nat_eq x) xs k x inside (same_test x (get_or xs k x) (sym is)),
)
  where
    same_number : (a b : ℕ) → nat_eq a b ≡ true → a ≡ b
    same_number a b passes = grind (arith, nat_tests)

    same_test : (a b : ℕ) → a ≡ b → nat_eq a b ≡ true
    same_test a b same = grind (arith, nat_tests)

-- what an insertion answers of a number that is there, and of one that is not
pub was_there : (added there : Bool) → added ≡ not there → added ≡ false → there ≡ true
was_there added true is none = refl
was_there added false is none = absurd (true≢false (sym is ∙ none))

pub was_new : (added there : Bool) → added ≡ not there → added ≡ true → there ≡ false
was_new added true is new = absurd (true≢false (sym new ∙ is))
was_new added false is new = refl

-- ---- numbers that are looked for one by one

flips : (a b : ℕ) → nat_eq a b ≡ nat_eq b a
flips a b = grind (arith, nat_tests)

prefix_shown : {A : Type 0} (key : A → ℕ) (n : ℕ) (xs : List A) → prefix_len (λ x. not (nat_eq (key x) n)) xs ≡ prefix_len (λ m. not (nat_eq n m)) (map key xs)
prefix_shown key n [] = refl
prefix_shown key n (x ∷ xs) =
    ap (λ here. cond (not here) (1 + prefix_len (λ y. not (nat_eq (key y) n)) xs) 0) (flips (key x) n)
    ∙ ap (λ rest. cond (not (nat_eq n (key x))) (1 + rest) 0) (prefix_shown key n xs)

-- the place of what shows a number is that of the number among all that they show
pub place_shown : {A : Type 0} (key : A → ℕ) (n : ℕ) (xs : List A) → position (λ x. nat_eq (key x) n) xs ≡ position (nat_eq n) (map key xs)
place_shown key n xs =
    ap (λ k. cond (nat_lt k (length xs)) (Some k) None) (prefix_shown key n xs)
    ∙ ap (λ l. cond (nat_lt (prefix_len (λ m. not (nat_eq n m)) (map key xs)) l) (Some (prefix_len (λ m. not (nat_eq n m)) (map key xs))) None) (sym (length-map xs key))

-- and one of them shows it exactly where it is among these
pub any_shown : {A : Type 0} (key : A → ℕ) (n : ℕ) (xs : List A) → list_any (λ x. nat_eq (key x) n) xs ≡ list_any (nat_eq n) (map key xs)
any_shown key n [] = refl
any_shown key n (x ∷ xs) = ap (λ here. here || list_any (λ y. nat_eq (key y) n) xs) (flips (key x) n) ∙ ap (λ rest. nat_eq n (key x) || rest) (any_shown key n xs)

-- what is looked for has a place exactly where one passes
front_short : {A : Type 0} (p : A → Bool) (xs : List A) → nat_lt (prefix_len (λ x. not (p x)) xs) (length xs) ≡ list_any p xs
front_short p [] = refl
front_short p (x ∷ xs) = elim (cases_Bool (p x)) [
  | inl passes ↦ rw passes (first (length xs))
  | inr fails ↦ rw fails (next (prefix_len (λ y. not (p y)) xs) (length xs) ∙ front_short p xs)
]
  where
    first : (l : ℕ) → nat_lt 0 (suc l) ≡ true
    first l = grind (arith, nat_tests)

    next : (n l : ℕ) → nat_lt (1 + n) (suc l) ≡ nat_lt n l
    next n l = grind (arith, nat_tests)

some_cond : (b : Bool) (k : ℕ) → is_some (cond b (Some k) None) ≡ b
some_cond true k = refl
some_cond false k = refl

pub place_found : {A : Type 0} (p : A → Bool) (xs : List A) → is_some (position p xs) ≡ list_any p xs
place_found p xs = some_cond (nat_lt (prefix_len (λ x. not (p x)) xs) (length xs)) (prefix_len (λ x. not (p x)) xs) ∙ front_short p xs

pub no_place : {A : Type 0} (key : A → ℕ) (n : ℕ) (xs : List A) (place : Option ℕ) (none : Bool) → place ≡ position (λ x. nat_eq (key x) n) xs → is_some place ≡ not none
    → none ≡ not (list_any (nat_eq n) (map key xs))
no_place key n xs place none is is_none =
    twice none ∙ ap not (sym is_none) ∙ ap (λ o. not (is_some o)) is ∙ ap not (place_found (λ x. nat_eq (key x) n) xs ∙ any_shown key n xs)
  where
    twice : (b : Bool) → b ≡ not (not b)
    twice true = refl
    twice false = refl
