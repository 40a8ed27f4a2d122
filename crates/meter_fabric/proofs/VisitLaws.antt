-- Visits of several travellers, one by one.
use Rattle.std.proofs.Common.{◌≡◌, ℕ, zero, suc, ◌+◌, ◌<◌, ◌≤◌, true, false, cond, List, [], ◌∷◌, ◌++◌, length, drop, take, set, get_or, Option, None, Some, ◌⊎◌, inl, inr, refl, sym, ap, subst, ◌∙◌, arith, count_by, is_none, slice_index, slice_set, MatchOption}
use Rattle.std.proofs.lemmas.Bool.{cases_lt}
use Rattle.std.specs.List.{AllZip}
use Rattle.std.proofs.lemmas.List.{drop-set-lt, get_or-drop, get_or-set_same, take_more, take_more_set}
use Rattle.std.proofs.lemmas.List.Elements.{AllZip-push}
use Rattle.std.proofs.lemmas.List.Sums.{sum_by_push}
use Rattle.meter_fabric_base.specs.declared.fault.VisitFault.{VisitFault}
use Rattle.meter_fabric.specs.Fabrics.{Fabric, one_more}
use Rattle.meter_fabric.specs.Visits.{IsAnswered}
use Rattle.meter_fabric.specs.declared.visit.Visit.{Visit}

-- what is left as it was reads as it was
pub left_read : (now was : List Visit) (i : ℕ) (d : Visit) → drop i now ≡ drop i was → get_or now i d ≡ get_or was i d
left_read now was i d left =
    let zero_more : i + 0 ≡ i = omega arith in
    ap (λ k. get_or now k d) (sym zero_more) ∙ sym (get_or-drop i now 0 d) ∙ ap (λ (xs : List Visit). get_or xs 0 d) left ∙ get_or-drop i was 0 d ∙ ap (λ k. get_or was k d) zero_more

drop_nil : (i : ℕ) → [] ≡ drop {A = Visit} i []
drop_nil zero = refl
drop_nil (suc i) = refl

drop_more : (xs ys : List Visit) (i : ℕ) → drop i xs ≡ drop i ys → drop (suc i) xs ≡ drop (suc i) ys
drop_more [] [] i same = refl
drop_more [] (y ∷ ys) zero same = absurd cc
drop_more [] (y ∷ ys) (suc i) same = drop_more [] ys i (sym (drop_nil i) ∙ same)
drop_more (x ∷ xs) [] zero same = absurd cc
drop_more (x ∷ xs) [] (suc i) same = drop_more xs [] i (same ∙ drop_nil i)
drop_more (x ∷ xs) (y ∷ ys) zero same = cc
drop_more (x ∷ xs) (y ∷ ys) (suc i) same = drop_more xs ys i same

pub left_more : (now was : List Visit) (i : ℕ) (new : Visit) → drop i now ≡ drop i was → drop (i + 1) (set now i new) ≡ drop (i + 1) was
left_more now was i new left =
    let next : suc i ≡ i + 1 = omega arith in
    drop-set-lt (i + 1) now i new (omega arith) ∙ ap (λ n. drop n now) (sym next) ∙ drop_more now was i left ∙ ap (λ n. drop n was) next

pub answered_more : (f : Fabric) (was now : List Visit) (i : ℕ) (d new : Visit) → i < length was → i < length now → AllZip (IsAnswered f) (take i was) (take i now)
    → IsAnswered f (get_or was i d) new → AllZip (IsAnswered f) (take (i + 1) was) (take (i + 1) (set now i new))
answered_more f was now i d new below short so_far here =
    rw (take_more was i d below, take_more_set now i new short) (AllZip-push (IsAnswered f) (take i was) (take i now) (get_or was i d) new so_far here)

-- a count of a pass, and more
set_twice : (counts : List ℕ) (site a b : ℕ) → set (set counts site a) site b ≡ set counts site b
set_twice [] site a b = refl
set_twice (x ∷ counts) zero a b = refl
set_twice (x ∷ counts) (suc site) a b = ap (λ xs. x ∷ xs) (set_twice counts site a b)

set_past : (counts : List ℕ) (site n : ℕ) → length counts ≤ site → set counts site n ≡ counts
set_past [] site n past = refl
set_past (x ∷ counts) zero n past = absurd (omega (arith, past))
set_past (x ∷ counts) (suc site) n past = ap (λ xs. x ∷ xs) (set_past counts site n (omega (arith, past)))

-- one more of a count that is past the end changes nothing, as any other does
one_more_set : (old : List ℕ) (site n : ℕ) → one_more (set old site n) site ≡ set old site (n + 1)
one_more_set old site n = elim (cases_lt site (length old)) [
  | inl there ↦
      let read : slice_index (set old site n) site ≡ n = get_or-set_same old site n 0 there in
      ap (λ k. set (set old site n) site (k + 1)) read ∙ set_twice old site n (n + 1)
  | inr past ↦
      set_twice old site n (slice_index (set old site n) site + 1) ∙ set_past old site (slice_index (set old site n) site + 1) past ∙ sym (set_past old site (n + 1) past)
]

pub counted_more : (old mid new : List ℕ) (site : ℕ) (now : List Visit) (i : ℕ) (done : Visit) → i < length now
    → mid ≡ slice_set old site (slice_index old site + count_by (λ (v : Visit). is_none v.fault) (take i now))
    → MatchOption done.fault (new ≡ one_more mid site) (λ fault. new ≡ mid)
    → new ≡ slice_set old site (slice_index old site + count_by (λ (v : Visit). is_none v.fault) (take (i + 1) (set now i done)))
counted_more old mid new site now i done short so_far is =
    let before = count_by (λ (v : Visit). is_none v.fault) (take i now) in
    let more : count_by (λ (v : Visit). is_none v.fault) (take (i + 1) (set now i done)) ≡ before + cond (is_none done.fault) 1 0 =
    ap (count_by (λ (v : Visit). is_none v.fault)) (take_more_set now i done short) ∙ sum_by_push (λ (v : Visit). cond (is_none v.fault) 1 0) (take i now) done in
    rw more (by done.fault is)
  where
    by : (fault : Option VisitFault) → MatchOption fault (new ≡ one_more mid site) (λ f. new ≡ mid)
        → new ≡ slice_set old site (slice_index old site + (count_by (λ (v : Visit). is_none v.fault) (take i now) + cond (is_none fault) 1 0))
    by None same =
        let n = slice_index old site + count_by (λ (v : Visit). is_none v.fault) (take i now) in
        let sum : n + 1 ≡ slice_index old site + (count_by (λ (v : Visit). is_none v.fault) (take i now) + 1) = omega arith in
        same ∙ ap (λ (m : List ℕ). one_more m site) so_far ∙ one_more_set old site n ∙ ap (set old site) sum
    by (Some fault) same =
        let sum : slice_index old site + count_by (λ (v : Visit). is_none v.fault) (take i now) ≡ slice_index old site + (count_by (λ (v : Visit). is_none v.fault) (take i now) + 0) = omega arith in
        same ∙ so_far ∙ ap (set old site) sum

-- one more that is not made
pub none_more : (now : List Visit) (i : ℕ) (new : Visit) → i < length now → count_by (λ (v : Visit). is_none v.fault) (take i now) ≡ 0 → is_none new.fault ≡ false
    → count_by (λ (v : Visit). is_none v.fault) (take (i + 1) (set now i new)) ≡ 0
none_more now i new short so_far made =
    ap (count_by (λ (v : Visit). is_none v.fault)) (take_more_set now i new short) ∙ sum_by_push (λ (v : Visit). cond (is_none v.fault) 1 0) (take i now) new
    ∙ ap (λ b. count_by (λ (v : Visit). is_none v.fault) (take i now) + cond b 1 0) made ∙ omega (arith, so_far)
