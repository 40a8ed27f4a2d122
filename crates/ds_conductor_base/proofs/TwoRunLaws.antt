-- Two runs of waiting visits, the first visit of each being its last, beside others.
use Rattle.std.proofs.Common.{◌≡◌, ◌<◌, ◌≤◌, ◌+◌, ◌-◌, ℕ, Bool, true, false, List, [], ◌∷◌, ◌++◌, length, get_or, refl, sym, ap, ◌∙◌, subst, arith, IsPermutation, IsSorted, MatchBool, MatchOption, None, Option, Some, All, vec_capacity, vec_len}
use Rattle.std.specs.BinaryHeap.{IsUpperBound}
use Rattle.std.specs.List.{AllByRecursion}
use Rattle.std.specs.declared.cmp.Reverse.{Reverse}
use Rattle.std.proofs.lemmas.List.{get_or-append_right, get_or_default, append_assoc, length-append, map-append}
use Rattle.std.proofs.lemmas.List.Elements.{All-append, All-cons, All-from_recursion, All-nil, recursion_from_All}
use Rattle.std.proofs.lemmas.List.Sorted.{All-permutation, IsPermutation-append_comm, IsPermutation-append_left, IsPermutation-append_right, IsPermutation-cons, IsPermutation-sym, IsPermutation-trans}
use Rattle.std.proofs.lemmas.Map.Views.{All-map-IsPermutation}
use Rattle.ds_conductor_base.specs.Waits.{IsLedBy, first_on_top, visit_in, visits_in}
use Rattle.ds_conductor_base.specs.declared.queue.VisitQueue.TheInside as queues
use Rattle.ds_conductor_base.specs.declared.visit.Visit.{Visit}
use Rattle.ds_conductor_base.specs.declared.waiting.Waiting.{Waiting}
use Rattle.ds_conductor_base.proofs.QueueLaws.{late_rows}
use Rattle.ds_conductor_base.proofs.RunLaws.{beyond, is_later, last_bounds, later_strict, same_at}

-- ---- which of two runs has the first visit

led : (run others : List (Reverse Waiting)) (own other : Reverse Waiting) → 0 < length run → own ≡ get_or run (length run - 1) own
    → IsSorted first_on_top others → other ≡ get_or others (length others - 1) other → is_later own other ≡ false → IsLedBy run others
led run others own other there is up next last = (
  (λ empty. absurd (omega (arith, empty, there))),
  λ r here. recursion_from_All (λ q. is_later r q ≡ false) others
      (subst (λ s. All (λ q. is_later s q ≡ false) others) (same_at run (length run - 1) own r (omega (arith, there)) is here)
      (beyond own other others last (last_bounds others other up next))),
)

pub led_by : (older newer : List (Reverse Waiting)) (old new : Reverse Waiting) → IsSorted first_on_top older → IsSorted first_on_top newer
    → 0 < length older → 0 < length newer → old ≡ get_or older (length older - 1) old → new ≡ get_or newer (length newer - 1) new
    → (b : Bool) → b ≡ is_later old new → MatchBool b (IsLedBy newer older) (IsLedBy older newer)
led_by older newer old new up climbs there filled first next true later =
    led newer older new old filled next up first (later_strict.one_way old new (sym later))
led_by older newer old new up climbs there filled first next false later = led older newer old new there first climbs next (sym later)

pub led_same : (older newer older' newer' : List (Reverse Waiting)) → older' ≡ older → newer' ≡ newer → IsLedBy newer' older' → IsLedBy newer older
led_same older newer older' newer' first next ahead =
    subst (λ us. IsLedBy newer us) first (subst (λ us. IsLedBy us older') next ahead)

-- ---- the first of the run that leads is taken

never_later : (r : Reverse Waiting) → is_later r r ≡ false
never_later r = by_case (is_later r r) (later_strict.one_way r r)
  where
    by_case : (b : Bool) → (b ≡ true → b ≡ false) → b ≡ false
    by_case true turns = turns refl
    by_case false turns = refl

last_of_both : (P : Reverse Waiting → Type 0) (rows run : List (Reverse Waiting)) (d : Reverse Waiting) → 0 < length run → All P (rows ++ run)
    → P (get_or run (length run - 1) d)
last_of_both P rows run d there all =
    let at : get_or (rows ++ run) (length rows + (length run - 1)) d ≡ get_or run (length run - 1) d =
    get_or-append_right rows run (length rows) (length rows + (length run - 1)) d refl (omega arith) ∙ ap (λ (n : ℕ). get_or run n d) (omega arith) in
    subst P at (all (length rows + (length run - 1)) d (omega (arith, there, length-append rows run)))

own_last : (d : Reverse Waiting) (run : List (Reverse Waiting)) → get_or (d ∷ run) (length (d ∷ run) - 1) d
    ≡ get_or (d ∷ run) (length (d ∷ run) - 1) (get_or (d ∷ run) (length (d ∷ run) - 1) d)
own_last d run = get_or_default (d ∷ run) (length (d ∷ run) - 1) d (get_or (d ∷ run) (length (d ∷ run) - 1) d) (omega arith)

each_late : (moment : ℕ) (rows : List (Reverse Waiting)) → AllByRecursion (λ v. moment < v.moment) (visits_in rows)
    → AllByRecursion (λ (q : Reverse Waiting). moment < q.0.moment) rows
each_late moment [] late = tt
each_late moment (q ∷ rows) late = (late.0, each_late moment rows late.1)

late_each : (moment : ℕ) (rows : List (Reverse Waiting)) → All (λ (v : Visit). moment < v.moment) (visits_in rows)
    → All (λ (q : Reverse Waiting). moment < q.0.moment) rows
late_each moment rows late =
    All-from_recursion (λ (q : Reverse Waiting). moment < q.0.moment) rows
    (each_late moment rows (recursion_from_All (λ (v : Visit). moment < v.moment) (visits_in rows) late))

others_late : (moment : ℕ) (rows run others : List (Reverse Waiting)) → IsLedBy run others → All (λ (v : Visit). moment < v.moment) (visits_in (rows ++ run))
    → All (λ (v : Visit). moment < v.moment) (visits_in others)
others_late moment rows [] [] ahead late = All-nil (λ (v : Visit). moment < v.moment)
others_late moment rows [] (q ∷ others) ahead late = absurd (omega (arith, ahead.0 refl))
others_late moment rows (d ∷ run) others ahead late =
    let last = get_or (d ∷ run) (length (d ∷ run) - 1) d in
    late_rows moment last others
    (last_of_both (λ (q : Reverse Waiting). moment < q.0.moment) rows (d ∷ run) d (omega arith) (late_each moment (rows ++ d ∷ run) late)) (ahead.1 last (own_last d run))

others_behind : (rows run rest left others : List (Reverse Waiting)) (r : Reverse Waiting) → IsLedBy run others
    → IsPermutation (rows ++ run) (r ∷ (rest ++ left)) → IsUpperBound first_on_top r (rest ++ left) → All (λ q. is_later r q ≡ false) others
others_behind rows [] rest left [] r ahead moved bound = All-nil (λ q. is_later r q ≡ false)
others_behind rows [] rest left (q ∷ others) r ahead moved bound = absurd (omega (arith, ahead.0 refl))
others_behind rows (d ∷ run) rest left others r ahead moved bound =
    let last = get_or (d ∷ run) (length (d ∷ run) - 1) d in
    let each : All (λ q. is_later r q ≡ false) (r ∷ (rest ++ left)) =
    All-cons (λ q. is_later r q ≡ false) r (rest ++ left) (never_later r) (All-from_recursion (λ q. is_later r q ≡ false) (rest ++ left) bound) in
    let back = All-permutation (λ q. is_later r q ≡ false) (r ∷ (rest ++ left)) (rows ++ d ∷ run) (IsPermutation-sym (rows ++ d ∷ run) (r ∷ (rest ++ left)) moved) each in
    beyond r last others (last_of_both (λ q. is_later r q ≡ false) rows (d ∷ run) d (omega arith) back)
    (All-from_recursion (λ q. is_later last q ≡ false) others (ahead.1 last (own_last d run)))

joined_late : (moment : ℕ) (rows run others : List (Reverse Waiting)) → All (λ (v : Visit). moment < v.moment) (visits_in (rows ++ run))
    → All (λ (v : Visit). moment < v.moment) (visits_in others) → All (λ (v : Visit). moment < v.moment) (visits_in (rows ++ (run ++ others)))
joined_late moment rows run others first next =
    subst (λ us. All (λ (v : Visit). moment < v.moment) (visits_in us)) (append_assoc rows run others)
    (subst (λ us. All (λ (v : Visit). moment < v.moment) us) (sym (map-append visit_in (rows ++ run) others))
    (All-append (λ (v : Visit). moment < v.moment) (visits_in (rows ++ run)) (visits_in others) first next))

joined_moved : (rows run rest left others : List (Reverse Waiting)) (r : Reverse Waiting) → IsPermutation (rows ++ run) (r ∷ (rest ++ left))
    → IsPermutation (rows ++ (run ++ others)) (r ∷ (rest ++ (left ++ others)))
joined_moved rows run rest left others r moved =
    subst (λ us. IsPermutation us (r ∷ (rest ++ (left ++ others)))) (append_assoc rows run others)
    (subst (λ us. IsPermutation ((rows ++ run) ++ others) (r ∷ us)) (append_assoc rest left others)
    (IsPermutation-append_left others (rows ++ run) (r ∷ (rest ++ left)) moved))

joined_bound : (rest left others : List (Reverse Waiting)) (r : Reverse Waiting) → IsUpperBound first_on_top r (rest ++ left) → All (λ q. is_later r q ≡ false) others
    → All (λ q. is_later r q ≡ false) (rest ++ (left ++ others))
joined_bound rest left others r bound behind =
    subst (λ us. All (λ q. is_later r q ≡ false) us) (append_assoc rest left others)
    (All-append (λ q. is_later r q ≡ false) (rest ++ left) others (All-from_recursion (λ q. is_later r q ≡ false) (rest ++ left) bound) behind)

turned : (rows run others : List (Reverse Waiting)) → IsPermutation (rows ++ (run ++ others)) (rows ++ (others ++ run))
turned rows run others = IsPermutation-append_right rows (run ++ others) (others ++ run) (IsPermutation-append_comm run others)

-- the first of the older run is taken, and the newer one stays
pub taken_of_older : (moment : ℕ) (rows rest older left newer : List (Reverse Waiting)) (o : Option (Reverse Waiting)) → IsLedBy older newer
    → MatchOption o ((rest ≡ rows) × (left ≡ older) × All (λ (v : Visit). moment < v.moment) (visits_in (rows ++ older)))
    (λ r. (r.0.moment ≤ moment) × IsPermutation (rows ++ older) (r ∷ (rest ++ left)) × IsUpperBound first_on_top r (rest ++ left))
    → MatchOption o ((rest ≡ rows) × (left ≡ older) × (newer ≡ newer) × All (λ (v : Visit). moment < v.moment) (visits_in (rows ++ (older ++ newer))))
    (λ r. (r.0.moment ≤ moment) × IsPermutation (rows ++ (older ++ newer)) (r ∷ (rest ++ (left ++ newer))) × IsUpperBound first_on_top r (rest ++ (left ++ newer)))
taken_of_older moment rows rest older left newer None ahead told = (
  told.0,
  told.1,
  refl,
  joined_late moment rows older newer told.2 (others_late moment rows older newer ahead told.2),
)
taken_of_older moment rows rest older left newer (Some r) ahead told = (
  told.0,
  joined_moved rows older rest left newer r told.1,
  recursion_from_All (λ q. is_later r q ≡ false) (rest ++ (left ++ newer))
      (joined_bound rest left newer r told.2 (others_behind rows older rest left newer r ahead told.1 told.2)),
)

-- the first of the newer run is taken, and the older one stays
pub taken_of_newer : (moment : ℕ) (rows rest older newer left : List (Reverse Waiting)) (o : Option (Reverse Waiting)) → IsLedBy newer older
    → MatchOption o ((rest ≡ rows) × (left ≡ newer) × All (λ (v : Visit). moment < v.moment) (visits_in (rows ++ newer)))
    (λ r. (r.0.moment ≤ moment) × IsPermutation (rows ++ newer) (r ∷ (rest ++ left)) × IsUpperBound first_on_top r (rest ++ left))
    → MatchOption o ((rest ≡ rows) × (older ≡ older) × (left ≡ newer) × All (λ (v : Visit). moment < v.moment) (visits_in (rows ++ (older ++ newer))))
    (λ r. (r.0.moment ≤ moment) × IsPermutation (rows ++ (older ++ newer)) (r ∷ (rest ++ (older ++ left))) × IsUpperBound first_on_top r (rest ++ (older ++ left)))
taken_of_newer moment rows rest older newer left None ahead told = (
  told.0,
  refl,
  told.1,
  All-map-IsPermutation visit_in (λ (v : Visit). moment < v.moment) (rows ++ (newer ++ older)) (rows ++ (older ++ newer)) (turned rows newer older)
      (joined_late moment rows newer older told.2 (others_late moment rows newer older ahead told.2)),
)
taken_of_newer moment rows rest older newer left (Some r) ahead told = (
  told.0,
  IsPermutation-trans (rows ++ (older ++ newer)) (rows ++ (newer ++ older)) (r ∷ (rest ++ (older ++ left))) (turned rows older newer)
      (IsPermutation-trans (rows ++ (newer ++ older)) (r ∷ (rest ++ (left ++ older))) (r ∷ (rest ++ (older ++ left)))
      (joined_moved rows newer rest left older r told.1)
      (IsPermutation-cons r (rest ++ (left ++ older)) (rest ++ (older ++ left)) (turned rest left older))),
  recursion_from_All (λ q. is_later r q ≡ false) (rest ++ (older ++ left))
      (All-permutation (λ q. is_later r q ≡ false) (rest ++ (left ++ older)) (rest ++ (older ++ left)) (turned rest left older)
      (joined_bound rest left older r told.2 (others_behind rows newer rest left older r ahead told.1 told.2))),
)

-- ---- room was made for so many

pub record IsRoomMade (before after : queues.Inside) (coming : ℕ) : Type 0 where
  pub rows : after.trains.rows ≡ before.trains.rows
  pub older : after.older ≡ before.older
  pub newer : after.newer.items ≡ before.newer.items
  pub fresh : after.fresh.items ≡ before.fresh.items
  pub fresh_len : vec_len after.fresh ≡ vec_len before.fresh
  pub empty : vec_len after.spare ≡ 0
  pub within : coming ≤ after.room
  pub heap_room : after.room ≤ after.trains.room
  pub newer_room : after.room ≤ vec_capacity after.newer
  pub spare_room : 0 < after.room → vec_len after.older + vec_len after.newer ≤ vec_capacity after.spare
  pub fresh_room : after.room ≤ vec_capacity after.fresh
