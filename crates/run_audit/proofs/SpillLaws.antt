-- The overflow of a source's bucket, step by step.
use Rattle.std.proofs.Common.{◌≡◌, ℕ, zero, suc, ◌+◌, ◌-◌, ◌*◌, ◌<◌, ◌≤◌, Bool, true, false, cond, List, [], ◌∷◌, map, length, get_or, take, drop, Option, None, Some, is_some, refl, sym, ap, ◌∙◌, arith, nat_le, nat_lt, slice_get}
use Rattle.std.specs.List.{prefix_len}
use Rattle.std.proofs.lemmas.Bool.Decides.{nat_tests}
use Rattle.std.proofs.lemmas.List.{drop-drop, drop_all, drop_more}
use Rattle.std.proofs.lemmas.Option.{get_or_from_slice_get, slice_get_within}
use Rattle.moment_core.specs.Columns.{counts}
use Rattle.moment_core.specs.declared.column.Column.{Column}
use Rattle.envelope_core.specs.Curve.{Curve}
use Rattle.ds_domain_base.specs.Domains.{Domain}
use Rattle.ds_domain_base.specs.Sent.{came}
use Rattle.ds_domain_base.specs.declared.contract.Contract.{Contract}
use Rattle.run_audit.specs.Runs.{Passage}
use Rattle.run_audit.specs.Spills.{own_length, poured, spilled, spilled_by, spilled_from}
use Rattle.run_audit.specs.Verdicts.{first_of}
use Rattle.run_audit.specs.declared.verdict.Verdict.{Verdict}
use Rattle.run_audit.proofs.FoundLaws.{found, not_found}

front : {A X : Type 0} (f : X → A) (xs : List X) (i : ℕ) (x : X) → i < length xs → x ≡ get_or xs i x → map f (drop i xs) ≡ f x ∷ map f (drop (i + 1) xs)
front f xs i x short at = ap (map f) (drop_more xs i x short) ∙ ap (λ y. f y ∷ map f (drop (i + 1) xs)) (sym at)

pub spilled-ended : {X : Type 0} (curve : Curve) (column : Column) (c : Contract) (level since : ℕ) (f : X → Passage) (xs : List X) (i : ℕ)
    → length xs ≤ i → spilled curve column c level since (map f (drop i xs)) ≡ None
unfolding spilled
spilled-ended curve column c level since f xs i long = ap (λ ys. spilled curve column c level since (map f ys)) (drop_all i xs long)

pub spilled-passed : {X : Type 0} (curve : Curve) (column : Column) (c : Contract) (level since : ℕ) (f : X → Passage) (xs : List X) (i : ℕ) (x : X) (test : Bool)
    → i < length xs → x ≡ get_or xs i x → test ≡ counts column (came c (f x).packet.dscp) → test ≡ false
    → spilled curve column c level since (map f (drop i xs)) ≡ spilled curve column c level since (map f (drop (i + 1) xs))
unfolding spilled
spilled-passed curve column c level since f xs i x test short at is passed =
    ap (spilled curve column c level since) (front f xs i x short at) ∙ (rw (← is) (rw passed refl))

pub spilled-over : {X : Type 0} (curve : Curve) (column : Column) (c : Contract) (level since filled : ℕ) (f : X → Passage) (xs : List X) (i : ℕ) (x : X) (test : Bool)
    → i < length xs → x ≡ get_or xs i x → test ≡ counts column (came c (f x).packet.dscp) → test ≡ true
    → filled ≡ poured curve level since (f x) → 8000000000 * curve.burst < filled
    → spilled curve column c level since (map f (drop i xs)) ≡ Some (f x)
unfolding spilled
spilled-over curve column c level since filled f xs i x test short at is counted pours over =
    ap (spilled curve column c level since) (front f xs i x short at) ∙ (rw (← is) (rw counted (rw (← pours) (rw (is_over (8000000000 * curve.burst) filled over) refl))))
  where
    is_over : (m n : ℕ) → m < n → nat_lt m n ≡ true
    is_over m n over = grind (arith, nat_tests)

pub spilled-poured : {X : Type 0} (curve : Curve) (column : Column) (c : Contract) (level since filled : ℕ) (f : X → Passage) (xs : List X) (i : ℕ) (x : X) (test : Bool)
    → i < length xs → x ≡ get_or xs i x → test ≡ counts column (came c (f x).packet.dscp) → test ≡ true
    → filled ≡ poured curve level since (f x) → filled ≤ 8000000000 * curve.burst
    → spilled curve column c level since (map f (drop i xs)) ≡ spilled curve column c filled (f x).packet.begun (map f (drop (i + 1) xs))
unfolding spilled
spilled-poured curve column c level since filled f xs i x test short at is counted pours within =
    ap (spilled curve column c level since) (front f xs i x short at) ∙ (rw (← is) (rw counted (rw (← pours) (rw (is_within (8000000000 * curve.burst) filled within) refl))))
  where
    is_within : (m n : ℕ) → n ≤ m → nat_lt m n ≡ false
    is_within m n within = grind (arith, nat_tests)

-- ---- contract by contract

map_take : {A X : Type 0} (f : X → A) (n : ℕ) (xs : List X) → map f (take n xs) ≡ take n (map f xs)
map_take f zero xs = refl
map_take f (suc n) [] = refl
map_take f (suc n) (x ∷ xs) = ap (λ ys. f x ∷ ys) (map_take f n xs)

map_drop : {A X : Type 0} (f : X → A) (n : ℕ) (xs : List X) → map f (drop n xs) ≡ drop n (map f xs)
map_drop f zero xs = refl
map_drop f (suc n) [] = refl
map_drop f (suc n) (x ∷ xs) = map_drop f n xs

map_prefix : {A X : Type 0} (f : X → A) (p : A → Bool) (xs : List X) → prefix_len (λ x. p (f x)) xs ≡ prefix_len p (map f xs)
map_prefix f p [] = refl
map_prefix f p (x ∷ xs) = by_test (p (f x)) (map_prefix f p xs)
  where
    by_test : (b : Bool) → prefix_len (λ x. p (f x)) xs ≡ prefix_len p (map f xs) → cond b (1 + prefix_len (λ x. p (f x)) xs) 0 ≡ cond b (1 + prefix_len p (map f xs)) 0
    by_test true same = ap (λ n. 1 + n) same
    by_test false same = refl

-- a contract more, whose packets stand from a place on to where those of later contracts begin
-- what is got from a place stands there
pub stands_at : {A : Type 0} (xs : List A) (i : ℕ) (x : A) → slice_get xs i ≡ Some x → (i < length xs) × (x ≡ get_or xs i x)
stands_at xs i x got = (slice_get_within xs i x got, sym (get_or_from_slice_get xs i x x got))

pub spilled_from-step : {X : Type 0} (d : Domain) (flow : ℕ) (cs : List Contract) (c : Contract) (f : X → Passage) (xs own : List X) (begin end : ℕ) (here : Option Verdict)
    → flow < length cs → c ≡ get_or cs flow c
    → end ≡ begin + prefix_len (λ x. nat_le (f x).packet.flow flow) (drop begin xs) → own ≡ take (end - begin) (drop begin xs)
    → here ≡ spilled_by c.terms d c (map f own)
    → spilled_from d flow (drop flow cs) (map f (drop begin xs)) ≡ first_of here (spilled_from d (flow + 1) (drop (flow + 1) cs) (map f (drop end xs)))
unfolding spilled_from
spilled_from-step d flow cs c f xs own begin end here short at is_end is_own is_here =
    let count = own_length flow (map f (drop begin xs)) in
    let same_count : end ≡ begin + count = is_end ∙ ap (λ n. begin + n) (map_prefix f (λ p. nat_le p.packet.flow flow) (drop begin xs)) in
    let mine : map f own ≡ take count (map f (drop begin xs)) =
    ap (map f) is_own ∙ map_take f (end - begin) (drop begin xs) ∙ ap (λ n. take n (map f (drop begin xs))) (omega (arith, same_count)) in
    let later : map f (drop end xs) ≡ drop count (map f (drop begin xs)) =
    ap (λ n. map f (drop n xs)) same_count ∙ ap (map f) (sym (drop-drop count begin xs)) ∙ map_drop f count (drop begin xs) in
    ap (λ ds. spilled_from d flow ds (map f (drop begin xs))) (drop_more cs flow c short ∙ ap (λ e. e ∷ drop (flow + 1) cs) (sym at))
    ∙ ap (λ ps. first_of (spilled_by c.terms d c ps) (spilled_from d (flow + 1) (drop (flow + 1) cs) (drop count (map f (drop begin xs))))) (sym mine)
    ∙ ap (λ ps. first_of (spilled_by c.terms d c (map f own)) (spilled_from d (flow + 1) (drop (flow + 1) cs) ps)) (sym later)
    ∙ ap (λ h. first_of h (spilled_from d (flow + 1) (drop (flow + 1) cs) (map f (drop end xs)))) (sym is_here)

pub spilled_from-found : {X : Type 0} (d : Domain) (flow : ℕ) (cs : List Contract) (c : Contract) (f : X → Passage) (xs own : List X) (begin end : ℕ) (here whole : Option Verdict) (test : Bool)
    → flow < length cs → c ≡ get_or cs flow c
    → end ≡ begin + prefix_len (λ x. nat_le (f x).packet.flow flow) (drop begin xs) → own ≡ take (end - begin) (drop begin xs)
    → here ≡ spilled_by c.terms d c (map f own) → test ≡ is_some here → test ≡ true
    → spilled_from d flow (drop flow cs) (map f (drop begin xs)) ≡ whole → here ≡ whole
spilled_from-found d flow cs c f xs own begin end here whole test short at is_end is_own is_here tests some same =
    found here (spilled_from d (flow + 1) (drop (flow + 1) cs) (map f (drop end xs))) whole (sym tests ∙ some)
    (sym (spilled_from-step d flow cs c f xs own begin end here short at is_end is_own is_here) ∙ same)

pub spilled_from-behind : {X : Type 0} (d : Domain) (flow : ℕ) (cs : List Contract) (c : Contract) (f : X → Passage) (xs own : List X) (begin end : ℕ) (here whole : Option Verdict) (test : Bool)
    → flow < length cs → c ≡ get_or cs flow c
    → end ≡ begin + prefix_len (λ x. nat_le (f x).packet.flow flow) (drop begin xs) → own ≡ take (end - begin) (drop begin xs)
    → here ≡ spilled_by c.terms d c (map f own) → test ≡ is_some here → test ≡ false
    → spilled_from d flow (drop flow cs) (map f (drop begin xs)) ≡ whole
    → spilled_from d (flow + 1) (drop (flow + 1) cs) (map f (drop end xs)) ≡ whole
spilled_from-behind d flow cs c f xs own begin end here whole test short at is_end is_own is_here tests none same =
    not_found here (spilled_from d (flow + 1) (drop (flow + 1) cs) (map f (drop end xs))) whole (sym tests ∙ none)
    (sym (spilled_from-step d flow cs c f xs own begin end here short at is_end is_own is_here) ∙ same)

pub spilled_from-ended : (d : Domain) (flow : ℕ) (cs : List Contract) (ps : List Passage) → length cs ≤ flow → spilled_from d flow (drop flow cs) ps ≡ None
unfolding spilled_from
spilled_from-ended d flow cs ps long = ap (λ ds. spilled_from d flow ds ps) (drop_all flow cs long)
