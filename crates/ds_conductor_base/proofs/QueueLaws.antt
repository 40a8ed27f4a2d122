-- A heap of waiting visits, and the visits in their order.
use Rattle.std.proofs.Common.{◌≡◌, ◌<◌, ◌≤◌, ℕ, Bool, true, false, List, [], ◌∷◌, ◌++◌, length, refl, sym, ap, ◌∙◌, subst, arith, append-nil, ◌||◌, ◌&&◌, IsOk, IsPermutation, OnOk, Result, Ok, Err, nat_eq, nat_lt}
use Rattle.std.specs.BinaryHeap.{IsUpperBound}
use Rattle.std.specs.List.{All, AllByRecursion, IsDistinct}
use Rattle.std.specs.Ordering.{is_lt, nat_cmp, ordering_then}
use Rattle.std.specs.declared.cmp.Reverse.{Reverse}
use Rattle.std.proofs.lemmas.Bool.Decides.{nat_tests}
use Rattle.std.proofs.lemmas.List.Elements.{All-from_recursion}
use Rattle.std.proofs.lemmas.List.Sorted.{All-permutation, IsPermutation-append_left, IsPermutation-cons, IsPermutation-map, IsPermutation-refl, IsPermutation-sym, IsPermutation-trans}
use Rattle.std.proofs.lemmas.Map.Keys.{IsDistinct-IsPermutation}
use Rattle.meter_fabric_base.specs.Orders.{in_order}
use Rattle.meter_fabric_base.proofs.OrderLaws.{Ascends, in_order-permutes}
use Rattle.ds_conductor_base.proofs.InOrderLaws.{visit_order}
use Rattle.ds_conductor_base.proofs.JoinLaws.{in_order-rises, in_order-same, in_order-told}
use Rattle.ds_conductor_base.specs.Visits.{is_before, is_same}
use Rattle.ds_conductor_base.specs.Waits.{first_on_top, visit_in, visits_in}
use Rattle.ds_conductor_base.specs.declared.waiting.Waiting.{Waiting}
use Rattle.ds_conductor_base.specs.declared.visit.Visit.{Visit}

-- ---- the first is before the others

-- what does not compare as less than another, and is not the same, is behind it
compared : (m p h s l m' p' h' s' l' : ℕ) → (nat_eq p p' && nat_eq h h') ≡ false
    → is_lt (ordering_then (nat_cmp m' m) (ordering_then (nat_cmp p' p) (ordering_then (nat_cmp h' h) (ordering_then (nat_cmp l' l) (nat_cmp s' s))))) ≡ false
    → (nat_lt m m' || nat_eq m m' && (nat_lt p p' || nat_eq p p' && nat_lt h h')) ≡ true
compared m p h s l m' p' h' s' l' apart last = grind (arith, nat_tests)

compared_late : (m p h s l m' p' h' s' l' : ℕ)
    → is_lt (ordering_then (nat_cmp m' m) (ordering_then (nat_cmp p' p) (ordering_then (nat_cmp h' h) (ordering_then (nat_cmp l' l) (nat_cmp s' s))))) ≡ false → m ≤ m'
compared_late m p h s l m' p' h' s' l' last = grind (arith, nat_tests)

all_before : (r : Reverse Waiting) (rows : List (Reverse Waiting)) → AllByRecursion (λ w. is_same (visit_in r) w ≡ false) (visits_in rows)
    → IsUpperBound first_on_top r rows → AllByRecursion (λ w. is_before (visit_in r) w ≡ true) (visits_in rows)
all_before r [] apart top = tt
all_before r (s ∷ rows) apart top = (
  compared r.0.moment r.0.place r.0.number r.0.site r.0.train s.0.moment s.0.place s.0.number s.0.site s.0.train apart.0 top.0,
  all_before r rows apart.1 top.1,
)

all_late : (moment : ℕ) (r : Reverse Waiting) (rows : List (Reverse Waiting)) → moment < r.0.moment → IsUpperBound first_on_top r rows
    → AllByRecursion (λ w. moment < w.moment) (visits_in rows)
all_late moment r [] late top = tt
all_late moment r (s ∷ rows) late top =
    let here = compared_late r.0.moment r.0.place r.0.number r.0.site r.0.train s.0.moment s.0.place s.0.number s.0.site s.0.train top.0 in
    (omega (arith, late, here), all_late moment r rows late top.1)

pub late_rows : (moment : ℕ) (r : Reverse Waiting) (rows : List (Reverse Waiting)) → moment < r.0.moment → IsUpperBound first_on_top r rows
    → All (λ v. moment < v.moment) (visits_in rows)
late_rows moment r rows late top = All-from_recursion (λ v. moment < v.moment) (visits_in rows) (all_late moment r rows late top)

pub late_order : (moment : ℕ) (rows : List (Reverse Waiting)) → All (λ v. moment < v.moment) (visits_in rows) → All (λ v. moment < v.moment) (in_order is_before (visits_in rows))
late_order moment rows late = All-permutation (λ v. moment < v.moment) (visits_in rows) (in_order is_before (visits_in rows)) (in_order-permutes is_before (visits_in rows)) late

flips : (v w : Visit) → is_same v w ≡ is_same w v
flips v w = visit_order.flips v w

pub popped_apart : (rows others : List (Reverse Waiting)) (r : Reverse Waiting) → IsPermutation rows (r ∷ others) → IsDistinct is_same (visits_in rows)
    → IsDistinct is_same (visits_in (r ∷ others))
popped_apart rows others r moved apart =
    IsDistinct-IsPermutation is_same flips (visits_in rows) (visits_in (r ∷ others)) (IsPermutation-map visit_in rows (r ∷ others) moved) apart

distinct_parts : {A : Type 0} (same : A → A → Bool) (x : A) (xs : List A) → IsDistinct same (x ∷ xs) → AllByRecursion (λ y. same x y ≡ false) xs × IsDistinct same xs
unfolding IsDistinct
distinct_parts same x xs apart = apart

pub popped_rest : (others : List (Reverse Waiting)) (r : Reverse Waiting) → IsDistinct is_same (visits_in (r ∷ others)) → IsDistinct is_same (visits_in others)
popped_rest others r apart = (distinct_parts is_same (visit_in r) (visits_in others) apart).1

-- the first is taken out
pub popped_first : (rows others : List (Reverse Waiting)) (r : Reverse Waiting) → IsPermutation rows (r ∷ others) → IsDistinct is_same (visits_in rows)
    → IsUpperBound first_on_top r others → in_order is_before (visits_in rows) ≡ visit_in r ∷ in_order is_before (visits_in others)
unfolding Ascends
popped_first rows others r moved apart top =
    let mapped = IsPermutation-map visit_in rows (r ∷ others) moved in
    let parts = distinct_parts is_same (visit_in r) (visits_in others) (popped_apart rows others r moved apart) in
    let ordered = in_order-permutes is_before (visits_in others) in
    in_order-told is_before is_same visit_order (visits_in rows) (visit_in r ∷ in_order is_before (visits_in others)) apart
    (IsPermutation-trans (visits_in rows) (visit_in r ∷ visits_in others) (visit_in r ∷ in_order is_before (visits_in others)) mapped
    (IsPermutation-cons (visit_in r) (visits_in others) (in_order is_before (visits_in others)) ordered)) (
      All-permutation (λ w. is_before (visit_in r) w ≡ true) (visits_in others) (in_order is_before (visits_in others)) ordered
          (All-from_recursion (λ w. is_before (visit_in r) w ≡ true) (visits_in others) (all_before r others parts.0 top)),
      in_order-rises is_before is_same visit_order (visits_in others) parts.1,
    )

-- ---- visits that are put among the others

pub on_ok : {T E P : Type 0} (r : Result T E) → IsOk r → OnOk r P → P
on_ok (Ok x) ok p = p
on_ok (Err e) ok p = absurd cc

-- ---- what is stored

pub all_empty : (rows run fresh : List (Reverse Waiting)) → rows ≡ [] → run ≡ [] → fresh ≡ [] → rows ++ (run ++ fresh) ≡ []
all_empty rows run fresh first next last = ap (λ us. us ++ (run ++ fresh)) first ∙ ap (λ us. us ++ fresh) next ∙ last

pub both_empty : (older newer : List (Reverse Waiting)) → older ≡ [] → newer ≡ [] → older ++ newer ≡ []
both_empty older newer first next = ap (λ us. us ++ newer) first ∙ next

no_rows : (rows : List (Reverse Waiting)) → length rows ≡ 0 → rows ≡ []
no_rows [] empty = refl
no_rows (r ∷ rows) empty = absurd (omega (arith, empty))

pub none_fresh : (rows run fresh : List (Reverse Waiting)) → length fresh ≡ 0 → rows ++ (run ++ fresh) ≡ rows ++ run
none_fresh rows run fresh empty = ap (λ us. rows ++ (run ++ us)) (no_rows fresh empty) ∙ ap (λ us. rows ++ us) (append-nil run)

added_behind : (rows run fresh after : List (Reverse Waiting)) (more : List Visit) → visits_in after ≡ visits_in fresh ++ more
    → visits_in (rows ++ (run ++ fresh)) ++ more ≡ visits_in (rows ++ (run ++ after))
added_behind [] [] fresh after more is = sym is
added_behind [] (r ∷ run) fresh after more is = ap (λ us. visit_in r ∷ us) (added_behind [] run fresh after more is)
added_behind (r ∷ rows) run fresh after more is = ap (λ us. visit_in r ∷ us) (added_behind rows run fresh after more is)

pub added_moved : (rows kept run fresh before after : List (Reverse Waiting)) (more : List Visit) → kept ≡ rows → before ≡ fresh → visits_in after ≡ visits_in before ++ more
    → IsPermutation (visits_in (rows ++ (run ++ fresh)) ++ more) (visits_in (kept ++ (run ++ after)))
added_moved rows kept run fresh before after more same still added =
    subst (λ us. IsPermutation (visits_in (rows ++ (run ++ fresh)) ++ more) (visits_in (us ++ (run ++ after)))) (sym same)
    (subst (λ us. IsPermutation (visits_in (rows ++ (run ++ fresh)) ++ more) us)
    (added_behind rows run fresh after more (added ∙ ap (λ us. visits_in us ++ more) still)) (IsPermutation-refl (visits_in (rows ++ (run ++ fresh)) ++ more)))

pub same_apart : (rows after : List (Reverse Waiting)) → IsPermutation rows after → IsDistinct is_same (visits_in rows) → IsDistinct is_same (visits_in after)
same_apart rows after moved apart = IsDistinct-IsPermutation is_same flips (visits_in rows) (visits_in after) (IsPermutation-map visit_in rows after moved) apart

pub same_order : (rows after : List (Reverse Waiting)) → IsPermutation rows after → IsDistinct is_same (visits_in rows)
    → in_order is_before (visits_in rows) ≡ in_order is_before (visits_in after)
same_order rows after moved apart =
    in_order-same is_before is_same visit_order (visits_in rows) (visits_in after) apart (IsPermutation-map visit_in rows after moved)

-- what was added, in order: first of the visits that stood in order, then of all
pub added_apart : (rows : List (Reverse Waiting)) (more : List Visit) → IsDistinct is_same (in_order is_before (visits_in rows) ++ more)
    → IsDistinct is_same (visits_in rows ++ more)
added_apart rows more apart =
    IsDistinct-IsPermutation is_same flips (in_order is_before (visits_in rows) ++ more) (visits_in rows ++ more)
    (IsPermutation-append_left more (in_order is_before (visits_in rows)) (visits_in rows)
    (IsPermutation-sym (visits_in rows) (in_order is_before (visits_in rows)) (in_order-permutes is_before (visits_in rows)))) apart

pub added_rows : (rows after : List (Reverse Waiting)) (more : List Visit) → IsDistinct is_same (visits_in rows ++ more) → IsPermutation (visits_in rows ++ more) (visits_in after)
    → IsDistinct is_same (visits_in after)
added_rows rows after more apart moved = IsDistinct-IsPermutation is_same flips (visits_in rows ++ more) (visits_in after) moved apart

pub added_order : (rows after : List (Reverse Waiting)) (more : List Visit) → IsDistinct is_same (visits_in rows ++ more) → IsPermutation (visits_in rows ++ more) (visits_in after)
    → in_order is_before (visits_in after) ≡ in_order is_before (in_order is_before (visits_in rows) ++ more)
added_order rows after more apart moved =
    sym (in_order-same is_before is_same visit_order (visits_in rows ++ more) (visits_in after) apart moved)
    ∙ in_order-same is_before is_same visit_order (visits_in rows ++ more) (in_order is_before (visits_in rows) ++ more) apart
    (IsPermutation-append_left more (visits_in rows) (in_order is_before (visits_in rows)) (in_order-permutes is_before (visits_in rows)))
