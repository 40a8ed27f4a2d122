-- Runs of waiting visits, of which the first visit is the last, and a heap beside one.
use Rattle.std.proofs.Common.{◌≡◌, ◌<◌, ◌≤◌, ◌+◌, ◌-◌, ℕ, zero, suc, ◌⊎◌, inl, inr, Bool, true, false, List, [], ◌∷◌, ◌++◌, length, take, drop, get_or, refl, sym, ap, ◌∙◌, subst, arith, append-nil, IsPermutation, IsSome, MatchBool, MatchOption, None, Ok, Option, Result, Some, is_ok, nat_lt, if◌then◌else◌, option_to_list, All, IsSorted, is_lt}
use Rattle.std.specs.BinaryHeap.{IsUpperBound}
use Rattle.std.specs.Cmp.{IsStrictWeakOrder, IsTotalOrder}
use Rattle.std.specs.declared.cmp.Reverse.{Reverse}
use Rattle.std.proofs.lemmas.Bool.{cases_lt, false≢true}
use Rattle.std.proofs.lemmas.Bool.Decides.{nat_tests}
use Rattle.std.proofs.lemmas.Cmp.{back_total, nat_cmp_total, on_total, then_total}
use Rattle.std.proofs.lemmas.List.{drop_all, drop_more, get_or-append_right, get_or-drop, get_or_append_left, get_or_push, get_or_read, append_assoc, length-append, length-drop, take_all, take_more}
use Rattle.std.proofs.lemmas.List.Elements.{All-append, All-from_recursion, All-nil, All-tail, All-weaker, recursion_from_All}
use Rattle.std.proofs.lemmas.List.Kept.{IsSortedBy-push}
use Rattle.std.proofs.lemmas.List.Sorted.{All-permutation, IsPermutation-append_comm, IsPermutation-append_left, IsPermutation-append_right, IsPermutation-middle, IsPermutation-push_more, IsPermutation-to_front, IsPermutation-trans, ranks_by, sorted_far}
use Rattle.ds_conductor_base.specs.Trains.{IsFirst}
use Rattle.ds_conductor_base.specs.Waits.{first_on_top, visits_in, waiting_cmp}
use Rattle.ds_conductor_base.specs.declared.waiting.Waiting.{Waiting}

-- ---- the order

waiting_total : IsTotalOrder waiting_cmp
waiting_total =
    then_total (on_total (λ (w : Waiting). w.moment) nat_cmp_total) (then_total (on_total (λ (w : Waiting). w.place) nat_cmp_total)
    (then_total (on_total (λ (w : Waiting). w.number) nat_cmp_total) (then_total (on_total (λ (w : Waiting). w.train) nat_cmp_total) (on_total (λ (w : Waiting). w.site) nat_cmp_total))))

first_total : IsTotalOrder first_on_top
first_total = on_total (λ (r : Reverse Waiting). r.0) (back_total waiting_total)

-- whether it is a later visit
abbrev pub is_later : Reverse Waiting → Reverse Waiting → Bool
is_later r s = is_lt (first_on_top r s)

pub later_strict : IsStrictWeakOrder is_later
later_strict = ranks_by first_total (λ (r : Reverse Waiting). r)

-- ---- the first visit of a heap and a run

pub last_bounds : (run : List (Reverse Waiting)) (r : Reverse Waiting) → IsSorted first_on_top run → r ≡ get_or run (length run - 1) r
    → All (λ s. is_later r s ≡ false) run
last_bounds run r up is k d short =
    subst (λ x. is_later x (get_or run k d) ≡ false) (sym (get_or_read run (length run - 1) r (omega (arith, short)) is d))
    (sorted_far is_later later_strict run up k (length run - 1) d (omega (arith, short)) (omega (arith, short)))

pub beyond : (r s : Reverse Waiting) (rows : List (Reverse Waiting)) → is_later r s ≡ false → All (λ q. is_later s q ≡ false) rows
    → All (λ q. is_later r q ≡ false) rows
beyond r s rows here bound =
    All-weaker (λ q. is_later s q ≡ false) (λ q. is_later r q ≡ false) (λ q next. later_strict.chain r s q here next) rows bound

bounds_both : (r : Reverse Waiting) (rows run : List (Reverse Waiting)) → All (λ q. is_later r q ≡ false) rows → All (λ q. is_later r q ≡ false) run
    → IsUpperBound first_on_top r (rows ++ run)
bounds_both r rows run first next =
    recursion_from_All (λ q. is_later r q ≡ false) (rows ++ run) (All-append (λ q. is_later r q ≡ false) rows run first next)

bounds_none : (r : Reverse Waiting) (rows : List (Reverse Waiting)) → length rows ≡ 0 → All (λ q. is_later r q ≡ false) rows
bounds_none r rows empty k d short = absurd (omega (arith, empty, short))

pub same_at : (rows : List (Reverse Waiting)) (i : ℕ) (r s : Reverse Waiting) → i < length rows → r ≡ get_or rows i r → s ≡ get_or rows i s → r ≡ s
same_at rows i r s short first next = get_or_read rows i r short first s ∙ sym next

-- with no heap, the first is the last of the run
pub first_of_run : (rows run : List (Reverse Waiting)) → length rows ≡ 0 → IsSorted first_on_top run → (r : Reverse Waiting) → r ≡ get_or run (length run - 1) r
    → IsUpperBound first_on_top r (rows ++ run)
first_of_run rows run empty up r is = bounds_both r rows run (bounds_none r rows empty) (last_bounds run r up is)

-- with no run, it is in front of the others
pub first_of_rows : (rows run : List (Reverse Waiting)) → length run ≡ 0 → (r : Reverse Waiting) → IsFirst r rows → IsUpperBound first_on_top r (rows ++ run)
first_of_rows rows run empty r first =
    bounds_both r rows run (All-from_recursion (λ q. is_later r q ≡ false) rows first.bound) (bounds_none r run empty)

-- of both, the one that is not later
pub first_of_both : (rows run : List (Reverse Waiting)) (top last : Reverse Waiting) → IsFirst top rows → 0 < length run → last ≡ get_or run (length run - 1) last
    → IsSorted first_on_top run → (b : Bool) → b ≡ is_later last top
    → MatchBool b ((0 < length rows) × ((r : Reverse Waiting) → IsFirst r rows → IsUpperBound first_on_top r (rows ++ run)))
    ((length run ≡ 0 → length rows ≡ 0) × ((r : Reverse Waiting) → r ≡ get_or run (length run - 1) r → IsUpperBound first_on_top r (rows ++ run)))
first_of_both rows run top last first filled own up true later = (
  first.there,
  λ r here. subst (λ q. IsUpperBound first_on_top q (rows ++ run)) (same_at rows 0 top r first.there first.front here.front)
      (bounds_both top rows run (All-from_recursion (λ q. is_later top q ≡ false) rows first.bound)
      (beyond top last run (later_strict.one_way last top (sym later)) (last_bounds run last up own))),
)
first_of_both rows run top last first filled own up false later = (
  (λ empty. absurd (omega (arith, empty, filled))),
  λ r same. subst (λ q. IsUpperBound first_on_top q (rows ++ run)) (same_at run (length run - 1) last r (omega (arith, filled)) own same)
      (bounds_both last rows run (beyond last top rows (sym later) (All-from_recursion (λ q. is_later top q ≡ false) rows first.bound)) (last_bounds run last up own)),
)

-- what bounds all bounds those that are left
pub bounds_rest : (rows left : List (Reverse Waiting)) (r : Reverse Waiting) → IsPermutation rows (r ∷ left) → IsUpperBound first_on_top r rows
    → IsUpperBound first_on_top r left
bounds_rest rows left r moved bound =
    recursion_from_All (λ q. is_later r q ≡ false) left
    (All-tail (λ q. is_later r q ≡ false) r left
    (All-permutation (λ q. is_later r q ≡ false) rows (r ∷ left) moved (All-from_recursion (λ q. is_later r q ≡ false) rows bound)))

-- ---- two runs become one

-- what is left of a run from an index on comes behind all that was put out
abbrev pub IsBehind : List (Reverse Waiting) → List (Reverse Waiting) → ℕ → Type 0
IsBehind out run i = (d : Reverse Waiting) → 0 < length out → i < length run → is_later (get_or run i d) (get_or out (length out - 1) d) ≡ false

last_pushed : (out : List (Reverse Waiting)) (r d : Reverse Waiting) → get_or (out ++ r ∷ []) (length (out ++ r ∷ []) - 1) d ≡ r
last_pushed out r d = get_or_push out r d (length (out ++ r ∷ []) - 1) (omega (arith, length-append out (r ∷ [])))

pub pushed_sorted : (out run : List (Reverse Waiting)) (i : ℕ) (r : Reverse Waiting) → IsSorted first_on_top out → IsBehind out run i → i < length run
    → r ≡ get_or run i r → IsSorted first_on_top (out ++ r ∷ [])
pushed_sorted out run i r up behind short is =
    IsSortedBy-push is_later out r up (λ d there. subst (λ q. is_later q (get_or out (length out - 1) d) ≡ false) (sym (get_or_read run i r short is d)) (behind d there short))

-- the run that it was taken from, and the other
pub own_behind : (out run : List (Reverse Waiting)) (i : ℕ) (r : Reverse Waiting) → IsSorted first_on_top run → r ≡ get_or run i r → IsBehind (out ++ r ∷ []) run (i + 1)
own_behind out run i r up is d there short =
    subst (λ q. is_later (get_or run (i + 1) d) q ≡ false) (sym (get_or_read run i r (omega (arith, short)) is d) ∙ sym (last_pushed out r d)) (up i d (omega arith) short)

pub other_behind : (out run : List (Reverse Waiting)) (i : ℕ) (r s : Reverse Waiting) → s ≡ get_or run i s → is_later s r ≡ false → IsBehind (out ++ r ∷ []) run i
other_behind out run i r s is last d there short =
    subst (λ q. is_later (get_or run i d) q ≡ false) (sym (last_pushed out r d)) (subst (λ q. is_later q r ≡ false) (get_or_read run i s short is d) last)

pub none_sorted : (out : List (Reverse Waiting)) → length out ≤ 1 → IsSorted first_on_top out
none_sorted out empty k d low high = absurd (omega (arith, empty, high))

sorted-drop : (run : List (Reverse Waiting)) (i : ℕ) → IsSorted first_on_top run → IsSorted first_on_top (drop i run)
sorted-drop run i up k d low high =
    let next : get_or (drop i run) (k + 1) d ≡ get_or run (i + k + 1) d =
    get_or-drop i run (k + 1) d ∙ ap (λ (n : ℕ). get_or run n d) (omega arith) in
    let here = get_or-drop i run k d in
    rw (next, here) (up (i + k) d (omega arith) (omega (arith, high, length-drop i run)))

sorted-both : (out left : List (Reverse Waiting)) → IsSorted first_on_top out → IsSorted first_on_top left
    → ((d : Reverse Waiting) → 0 < length out → 0 < length left → is_later (get_or left 0 d) (get_or out (length out - 1) d) ≡ false)
    → IsSorted first_on_top (out ++ left)
sorted-both out left up climbs across k d low high = by_place (cases_lt (k + 1) (length out)) (cases_lt k (length out))
  where
    right_at : (n m : ℕ) → n ≡ length out + m → get_or (out ++ left) n d ≡ get_or left m d
    right_at n m e = get_or-append_right out left (length out) n d refl (omega (arith, e)) ∙ ap (λ (q : ℕ). get_or left q d) (omega (arith, e))

    by_place : (k + 1 < length out) ⊎ (length out ≤ k + 1) → (k < length out) ⊎ (length out ≤ k) → is_later (get_or (out ++ left) (k + 1) d) (get_or (out ++ left) k d) ≡ false
    by_place (inl inside) any =
        rw (get_or_append_left out left d (k + 1) inside, get_or_append_left out left d k (omega (arith, inside))) (up k d low inside)
    by_place (inr past) (inl edge) =
        rw (right_at (k + 1) 0 (omega (arith, past, edge)), get_or_append_left out left d k edge)
        (subst (λ (n : ℕ). is_later (get_or left 0 d) (get_or out n d) ≡ false) (omega (arith, past, edge)) (across d (omega (arith, edge)) (omega (arith, past, edge, high, length-append out left))))
    by_place (inr past) (inr over) =
        rw (right_at (k + 1) (k - length out + 1) (omega (arith, over)), right_at k (k - length out) (omega (arith, over)))
        (climbs (k - length out) d (omega arith) (omega (arith, over, high, length-append out left)))

sorted_rest : (out run : List (Reverse Waiting)) (i : ℕ) → IsSorted first_on_top out → IsSorted first_on_top run → IsBehind out run i → IsSorted first_on_top (out ++ drop i run)
sorted_rest out run i up climbs behind =
    sorted-both out (drop i run) up (sorted-drop run i climbs)
    (λ d there left. subst (λ q. is_later q (get_or out (length out - 1) d) ≡ false)
    (sym (get_or-drop i run 0 d ∙ ap (λ (n : ℕ). get_or run n d) (omega arith))) (behind d there (omega (arith, left, length-drop i run))))

-- one of the two is at its end
pub merged_sorted : (out left right : List (Reverse Waiting)) (i j : ℕ) → IsSorted first_on_top out → IsSorted first_on_top left → IsSorted first_on_top right
    → IsBehind out left i → IsBehind out right j → (length left ≤ i) ⊎ (length right ≤ j) → IsSorted first_on_top ((out ++ drop i left) ++ drop j right)
merged_sorted out left right i j up first next before after (inl ended) =
    subst (λ rows. IsSorted first_on_top (rows ++ drop j right)) (sym (ap (λ rows. out ++ rows) (drop_all i left ended) ∙ append-nil out)) (sorted_rest out right j up next after)
merged_sorted out left right i j up first next before after (inr ended) =
    subst (λ rows. IsSorted first_on_top rows) (sym (ap (λ rows. (out ++ drop i left) ++ rows) (drop_all j right ended) ∙ append-nil (out ++ drop i left)))
    (sorted_rest out left i up first before)

-- one visit more is put out
pub merged_left : (all out left right : List (Reverse Waiting)) (i : ℕ) (r : Reverse Waiting) → i < length left → r ≡ get_or left i r
    → IsPermutation all (out ++ (drop i left ++ right)) → IsPermutation all ((out ++ r ∷ []) ++ (drop (i + 1) left ++ right))
merged_left all out left right i r short is kept =
    subst (λ rows. IsPermutation all rows)
    (ap (λ rows. out ++ (rows ++ right)) (drop_more left i r short ∙ ap (λ (q : Reverse Waiting). q ∷ drop (i + 1) left) (sym is))
    ∙ sym (append_assoc out (r ∷ []) (drop (i + 1) left ++ right))) kept

pub merged_right : (all out left right : List (Reverse Waiting)) (j : ℕ) (r : Reverse Waiting) → j < length right → r ≡ get_or right j r
    → IsPermutation all (out ++ (left ++ drop j right)) → IsPermutation all ((out ++ r ∷ []) ++ (left ++ drop (j + 1) right))
merged_right all out left right j r short is kept =
    let here : drop j right ≡ r ∷ drop (j + 1) right = drop_more right j r short ∙ ap (λ (q : Reverse Waiting). q ∷ drop (j + 1) right) (sym is) in
    let moved = IsPermutation-append_right out (left ++ r ∷ drop (j + 1) right) (r ∷ (left ++ drop (j + 1) right)) (IsPermutation-middle left r (drop (j + 1) right)) in
    subst (λ rows. IsPermutation all rows) (sym (append_assoc out (r ∷ []) (left ++ drop (j + 1) right)))
    (IsPermutation-trans all (out ++ (left ++ r ∷ drop (j + 1) right)) (out ++ r ∷ (left ++ drop (j + 1) right))
    (subst (λ rows. IsPermutation all (out ++ (left ++ rows))) here kept) moved)

-- the rest of a list from an index on
pub rest_of : (rows : List (Reverse Waiting)) (i : ℕ) → take (length rows - i) (drop i rows) ≡ drop i rows
rest_of rows i = take_all (length rows - i) (drop i rows) (omega (arith, length-drop i rows))

pub if_ok : {T E P : Type 0} (r : Result T E) (x : T) (a b new : P) → r ≡ Ok x → new ≡ (if is_ok r then a else b) → new ≡ a
if_ok r x a b new is told = told ∙ ap (λ q. if is_ok q then a else b) is

-- ---- what is fresh is put among the others

pub settled_heap : (rows run fresh visits more after run' : List (Reverse Waiting)) → visits ≡ fresh → IsPermutation (rows ++ visits) more → after ≡ more → run' ≡ run
    → IsPermutation (rows ++ (run ++ fresh)) (after ++ run')
settled_heap rows run fresh visits more after run' same moved is kept =
    let put : IsPermutation (rows ++ fresh) after = subst (λ us. IsPermutation (rows ++ fresh) us) (sym is) (subst (λ us. IsPermutation (rows ++ us) more) same moved) in
    let turned : IsPermutation (rows ++ (run ++ fresh)) ((rows ++ fresh) ++ run) =
    subst (λ us. IsPermutation (rows ++ (run ++ fresh)) us) (sym (append_assoc rows fresh run))
    (IsPermutation-append_right rows (run ++ fresh) (fresh ++ run) (IsPermutation-append_comm run fresh)) in
    subst (λ us. IsPermutation (rows ++ (run ++ fresh)) (after ++ us)) (sym kept)
    (IsPermutation-trans (rows ++ (run ++ fresh)) ((rows ++ fresh) ++ run) (after ++ run) turned (IsPermutation-append_left run (rows ++ fresh) after put))

-- what is fresh was put into trains and the heap, and the runs into one
pub joined_heap : (rows run run' left fresh visits more after : List (Reverse Waiting)) → visits ≡ fresh → IsPermutation (rows ++ visits) more → after ≡ more
    → IsPermutation run run' → length left ≡ 0 → IsPermutation (rows ++ (run ++ fresh)) (after ++ (run' ++ left))
joined_heap rows run run' [] fresh visits more after same moved is joined none =
    subst (λ us. IsPermutation (rows ++ (run ++ fresh)) (after ++ us)) (sym (append-nil run'))
    (IsPermutation-trans (rows ++ (run ++ fresh)) (after ++ run) (after ++ run') (settled_heap rows run fresh visits more after run same moved is refl)
    (IsPermutation-append_right after run run' joined))
joined_heap rows run run' (d ∷ left) fresh visits more after same moved is joined none = absurd (omega (arith, none))

-- what is fresh is a run of its own, and the runs are one
pub joined_runs : (rows run run' fresh given sorted after : List (Reverse Waiting)) → given ≡ fresh → IsPermutation given sorted → after ≡ rows
    → IsPermutation run run' → IsPermutation (rows ++ (run ++ fresh)) (after ++ (run' ++ sorted))
joined_runs rows run run' fresh given sorted after same arranged kept joined =
    let put : IsPermutation fresh sorted = subst (λ us. IsPermutation us sorted) same arranged in
    subst (λ us. IsPermutation (rows ++ (run ++ fresh)) (us ++ (run' ++ sorted))) (sym kept)
    (IsPermutation-append_right rows (run ++ fresh) (run' ++ sorted)
    (IsPermutation-trans (run ++ fresh) (run' ++ fresh) (run' ++ sorted) (IsPermutation-append_left fresh run run' joined)
    (IsPermutation-append_right run' fresh sorted put)))

-- ---- the first visit is taken

pub none_there : (n : ℕ) → (0 < n → false ≡ true) → n ≡ 0
none_there zero never = refl
none_there (suc n) never = absurd (false≢true (never (omega arith)))

pub filled : (n : ℕ) → nat_lt 0 n ≡ true → 0 < n
filled n there = grind (arith, nat_tests)

pub unfilled : (n : ℕ) → nat_lt 0 n ≡ false → n ≡ 0
unfilled n there = grind (arith, nat_tests)

-- none are there
pub none_due : (moment : ℕ) (rows run : List (Reverse Waiting)) → length rows ≡ 0 → length run ≡ 0 → All (λ v. moment < v.moment) (visits_in (rows ++ run))
none_due moment [] [] first next = All-nil (λ v. moment < v.moment)
none_due moment [] (r ∷ run) first next = absurd (omega (arith, next))
none_due moment (r ∷ rows) run first next = absurd (omega (arith, first))

pub front_taken : (moment : ℕ) (rows run : List (Reverse Waiting)) (first : Reverse Waiting) (o : Option (Reverse Waiting)) (left : List (Reverse Waiting)) (P : Type 0) → IsFirst first rows
    → first.0.moment ≤ moment → IsUpperBound first_on_top first (rows ++ run) → MatchOption o ((rows ≡ []) × (left ≡ [])) (λ r. IsFirst r rows × IsPermutation rows (r ∷ left))
    → MatchOption o P (λ r. (r.0.moment ≤ moment) × IsPermutation (rows ++ run) (r ∷ (left ++ run)) × IsUpperBound first_on_top r (left ++ run))
front_taken moment rows run first None left P here early bound told = absurd (omega (arith, here.there, ap (λ us. length us) told.0))
front_taken moment rows run first (Some r) left P here early bound told =
    let same : first ≡ r = same_at rows 0 first r here.there here.front told.0.front in
    let all : IsPermutation (rows ++ run) (r ∷ (left ++ run)) = IsPermutation-append_left run rows (r ∷ left) told.1 in (
      subst (λ (q : Reverse Waiting). q.0.moment ≤ moment) same early,
      all,
      bounds_rest (rows ++ run) (left ++ run) r all (subst (λ (q : Reverse Waiting). IsUpperBound first_on_top q (rows ++ run)) same bound),
    )

pub run_taken : (moment : ℕ) (rows run left : List (Reverse Waiting)) (first : Reverse Waiting) (o : Option (Reverse Waiting)) (P : Type 0)
    → first ≡ get_or run (length run - 1) first → first.0.moment ≤ moment → IsUpperBound first_on_top first (rows ++ run) → IsSome o
    → run ≡ left ++ option_to_list o
    → MatchOption o P (λ r. (r.0.moment ≤ moment) × IsPermutation (rows ++ run) (r ∷ (rows ++ left)) × IsUpperBound first_on_top r (rows ++ left))
run_taken moment rows run left first None P is early bound some popped = absurd (false≢true some)
run_taken moment rows run left first (Some r) P is early bound some popped =
    let same : first ≡ r = is ∙ ap (λ (us : List (Reverse Waiting)). get_or us (length us - 1) first) popped ∙ last_pushed left r first in
    let fronted : IsPermutation run (r ∷ left) = subst (λ us. IsPermutation us (r ∷ left)) (sym popped) (IsPermutation-to_front left r) in
    let all : IsPermutation (rows ++ run) (r ∷ (rows ++ left)) =
    IsPermutation-trans (rows ++ run) (rows ++ r ∷ left) (r ∷ (rows ++ left)) (IsPermutation-append_right rows run (r ∷ left) fronted) (IsPermutation-middle rows r left) in (
      subst (λ (q : Reverse Waiting). q.0.moment ≤ moment) same early,
      all,
      bounds_rest (rows ++ run) (rows ++ left) r all (subst (λ (q : Reverse Waiting). IsUpperBound first_on_top q (rows ++ run)) same bound),
    )

pub put_more : (rows before after visits : List (Reverse Waiting)) (i : ℕ) (r : Reverse Waiting) → i < length visits → r ≡ get_or visits i r
    → IsPermutation (rows ++ take i visits) before → IsPermutation (r ∷ before) after → IsPermutation (rows ++ take (i + 1) visits) after
put_more rows before after visits i r short is kept pushed =
    subst (λ us. IsPermutation us after)
    (append_assoc rows (take i visits) (r ∷ []) ∙ ap (λ us. rows ++ us) (ap (λ (q : Reverse Waiting). take i visits ++ q ∷ []) is ∙ sym (take_more visits i r short)))
    (IsPermutation-push_more (rows ++ take i visits) before after r kept pushed)
