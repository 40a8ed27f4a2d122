-- Trains of waiting visits beside a heap.
use Rattle.std.proofs.Common.{◌≡◌, ◌≢◌, ◌<◌, ◌≤◌, ◌+◌, ℕ, zero, suc, ◌⊎◌, inl, inr, Bool, true, false, List, [], ◌∷◌, ◌++◌, length, get_or, set, refl, sym, ap, ◌∙◌, subst, arith, append-nil, ◌↔◌, IfNone, IfSome, IsPermutation, IsSome, MatchBool, MatchOption, None, Option, Ok, Err, Result, Some, is_err, is_ok, is_some, option_to_list, if◌then◌else◌, All}
use Rattle.std.specs.BinaryHeap.{IsUpperBound}
use Rattle.std.specs.Option.{option_or}
use Rattle.std.specs.declared.cmp.Reverse.{Reverse}
use Rattle.std.proofs.lemmas.Bool.{cases_lt, false≢true}
use Rattle.std.proofs.lemmas.List.{append_assoc, get_or_append_left, get_or_push, length-append, get_or-set_other, get_or-set_same, length-set}
use Rattle.std.proofs.lemmas.List.Elements.{All-append, All-cons, All-from_recursion, All-head, All-nil, All-pop, All-push, All-tail, All-weaker, recursion_from_All}
use Rattle.std.proofs.lemmas.List.Sorted.{All-permutation, IsPermutation-append_left, IsPermutation-append_right, IsPermutation-cons, IsPermutation-middle, IsPermutation-refl, IsPermutation-sym, IsPermutation-trans}
use Rattle.ds_conductor_base.specs.Trains.{AreTrains, IsFirst, IsKept, IsLeftOut, IsLed, IsNotLater, IsNotLaterIn, IsPut, IsPutBehind, IsTrain, Rises, rows_in}
use Rattle.ds_conductor_base.specs.Waits.{first_on_top, visit_in, visits_in}
use Rattle.ds_conductor_base.specs.declared.train.Train.{Train}
use Rattle.ds_conductor_base.specs.declared.waiting.Waiting.{Waiting}
use Rattle.ds_conductor_base.proofs.QueueLaws.{late_rows}
use Rattle.ds_conductor_base.proofs.RunLaws.{beyond, is_later, later_strict, none_there, same_at}

-- ---- the order

itself : (r : Reverse Waiting) → is_later r r ≡ false
itself r = go (is_later r r) refl
  where
    go : (b : Bool) → is_later r r ≡ b → is_later r r ≡ false
    go true e = later_strict.one_way r r e
    go false e = e

-- ---- one train

-- visits that rise to a last still do with one behind it
rises_put : (rows : List (Reverse Waiting)) (l v : Reverse Waiting) → is_later l v ≡ false → Rises rows (Some l) → Rises (rows ++ v ∷ []) (Some v)
unfolding Rises
rises_put [] l v behind up = (All-cons (λ q. is_later v q ≡ false) v [] (itself v) (All-nil (λ q. is_later v q ≡ false)), (refl, tt))
rises_put (r ∷ rows) l v behind up =
    let parts = All-pop (λ q. is_later r q ≡ false) (rows ++ l ∷ []) rows (Some l) refl up.0 in
    let last = later_strict.chain r l v parts.1 behind in (
      All-push (λ q. is_later r q ≡ false) (rows ++ v ∷ []) v (All-push (λ q. is_later r q ≡ false) rows v parts.0 last) last,
      (refl, rises_put rows l v behind up.1.1),
    )

-- none rise to no last
none_rise : (rows : List (Reverse Waiting)) → Rises rows None → rows ≡ []
unfolding Rises
none_rise [] up = refl
none_rise (r ∷ rows) up = absurd (false≢true up.1.0)

-- of those of a heap, whatever bounds more of them bounds these
more_bounded : (k : ℕ) (t v : Reverse Waiting) (heap : List (Reverse Waiting)) → IsNotLaterIn k t (v ∷ heap) → IsNotLaterIn k t heap
more_bounded k t v heap bound = All-tail (λ q. q.0.train ≡ k → is_later t q ≡ false) v heap bound

pub train_with : (k : ℕ) (heap : List (Reverse Waiting)) (v : Reverse Waiting) (l : Train) → IsTrain k heap l → IsTrain k (v ∷ heap) l
train_with k heap v l train = record { rises = train.rises; tagged = train.tagged; led = λ t bound. train.led t (more_bounded k t v heap bound) }

train_permuted : (k : ℕ) (heap after : List (Reverse Waiting)) (l : Train) → IsPermutation heap after → IsTrain k heap l → IsTrain k after l
train_permuted k heap after l moved train = record {
  rises = train.rises;
  tagged = train.tagged;
  led = λ t bound. train.led t (All-permutation (λ q. q.0.train ≡ k → is_later t q ≡ false) after heap (IsPermutation-sym heap after moved) bound);
}

-- a visit of another train left the heap
train_without : (k : ℕ) (heap : List (Reverse Waiting)) (v : Reverse Waiting) (l : Train) → v.0.train ≢ k → IsTrain k (v ∷ heap) l → IsTrain k heap l
train_without k heap v l other train = record {
  rises = train.rises;
  tagged = train.tagged;
  led = λ t bound. train.led t (All-cons (λ q. q.0.train ≡ k → is_later t q ≡ false) v heap (λ same. absurd (other same)) bound);
}

-- a visit was put behind the others
train_put : (k : ℕ) (heap : List (Reverse Waiting)) (v : Reverse Waiting) (l m : Train) → v.0.train ≡ k → IsPutBehind v l m → IsTrain k heap l → IsTrain k heap m
train_put k heap v l m tag put train = record {
  rises = rw (put.visits, put.is) (rises_put l.visits.items put.last v put.behind (subst (λ (o : Option (Reverse Waiting)). Rises l.visits.items o) put.was train.rises));
  tagged = rw put.visits (All-push (λ q. q.0.train ≡ k) l.visits.items v train.tagged tag);
  led = λ t bound.
      let parts = All-pop (λ q. is_later t q ≡ false) (l.visits.items ++ option_to_list l.last) l.visits.items (Some put.last)
      (ap (λ (o : Option (Reverse Waiting)). l.visits.items ++ option_to_list o) put.was) (train.led t bound) in
      let last = later_strict.chain t put.last v parts.1 put.behind in
      rw (put.visits, put.is) (All-push (λ q. is_later t q ≡ false) (l.visits.items ++ v ∷ []) v (All-push (λ q. is_later t q ≡ false) l.visits.items v parts.0 last) last);
}

rises_none : (o : Option (Reverse Waiting)) → Rises [] o
unfolding Rises
rises_none o = tt

-- an empty train
train_empty : (k : ℕ) (heap : List (Reverse Waiting)) (l : Train) → l.visits.items ≡ [] → l.last ≡ None → IsTrain k heap l
train_empty k heap l none last = record {
  rises = rw none (rises_none l.last);
  tagged = rw none (All-nil (λ q. q.0.train ≡ k));
  led = λ t bound. rw (none, last) (All-nil (λ q. is_later t q ≡ false));
}

-- the last stays, or is the first
last_left : (o p : Option (Reverse Waiting)) (v : Reverse Waiting) → p ≡ option_or o (Some v) → (p ≡ o) ⊎ ((o ≡ None) × (p ≡ Some v))
last_left None p v is = inr (refl, is)
last_left (Some last) p v is = inl is

-- it was not
train_left : (k : ℕ) (heap : List (Reverse Waiting)) (v : Reverse Waiting) (l m : Train) → v.0.train ≡ k → IsLeftOut v l m → IsTrain k heap l → IsTrain k (v ∷ heap) m
unfolding Rises
train_left k heap v l m tag left train = go (last_left l.last m.last v left.last)
  where
    go : (m.last ≡ l.last) ⊎ ((l.last ≡ None) × (m.last ≡ Some v)) → IsTrain k (v ∷ heap) m
    go (inl same) = record {
      rises = rw (left.visits, same) train.rises;
      tagged = rw left.visits train.tagged;
      led = λ t bound. rw (left.visits, same) (train.led t (more_bounded k t v heap bound));
    }
    go (inr first) =
        let none : m.visits.items ≡ [] = left.visits ∙ none_rise l.visits.items (subst (λ (o : Option (Reverse Waiting)). Rises l.visits.items o) first.0 train.rises) in
        record {
          rises = rw none (rises_none m.last);
          tagged = rw none (All-nil (λ q. q.0.train ≡ k));
          led = λ t bound. rw (none, first.1)
              (All-cons (λ q. is_later t q ≡ false) v [] (All-head (λ q. q.0.train ≡ k → is_later t q ≡ false) v heap bound tag) (All-nil (λ q. is_later t q ≡ false)));
        }

-- the next visit was taken out, and goes into the heap
train_taken : (k : ℕ) (heap : List (Reverse Waiting)) (o : Option (Reverse Waiting)) (l m : Train) → l.visits.items ≡ option_to_list o ++ m.visits.items
    → m.last ≡ (if is_some o then l.last else None) → IfNone o (m.visits.items ≡ []) → Rises l.visits.items l.last → All (λ q. q.0.train ≡ k) l.visits.items
    → IsTrain k (option_to_list o ++ heap) m
unfolding Rises
train_taken k heap None l m visits last none up tags = train_empty k heap m none last
train_taken k heap (Some r) l m visits last none up tags =
    let here : Rises (r ∷ m.visits.items) l.last = subst (λ us. Rises us l.last) visits up in
    let own = subst (λ us. All (λ q. q.0.train ≡ k) us) visits tags in
    record {
      rises = rw last here.1.1;
      tagged = All-tail (λ q. q.0.train ≡ k) r m.visits.items own;
      led = λ t bound.
          let first = All-head (λ q. q.0.train ≡ k → is_later t q ≡ false) r heap bound (All-head (λ q. q.0.train ≡ k) r m.visits.items own) in
          rw last (beyond t r (m.visits.items ++ option_to_list l.last) first here.0);
    }

-- ---- all trains

pub trains_new : (heap : List (Reverse Waiting)) (trains : List Train) (l : Train) → l.visits.items ≡ [] → l.last ≡ None → AreTrains heap trains → AreTrains heap (trains ++ l ∷ [])
trains_new heap trains l none last are k d short = go (cases_lt k (length trains))
  where
    go : (k < length trains) ⊎ (length trains ≤ k) → IsTrain k heap (get_or (trains ++ l ∷ []) k d)
    go (inl inside) = subst (λ x. IsTrain k heap x) (sym (get_or_append_left trains (l ∷ []) d k inside)) (are k d inside)
    go (inr past) =
        subst (λ x. IsTrain k heap x) (sym (get_or_push trains l d k (omega (arith, past, short, length-append trains (l ∷ []))))) (train_empty k heap l none last)

pub rows_new : (trains : List Train) (l : Train) → l.visits.items ≡ [] → rows_in (trains ++ l ∷ []) ≡ rows_in trains
unfolding rows_in
rows_new [] l none = append-nil l.visits.items ∙ none
rows_new (x ∷ trains) l none = ap (λ us. x.visits.items ++ us) (rows_new trains l none)

pub trains_with : (heap : List (Reverse Waiting)) (v : Reverse Waiting) (trains : List Train) → AreTrains heap trains → AreTrains (v ∷ heap) trains
trains_with heap v trains are k d short = train_with k heap v (get_or trains k d) (are k d short)

pub trains_permuted : (heap after : List (Reverse Waiting)) (trains : List Train) → IsPermutation heap after → AreTrains heap trains → AreTrains after trains
trains_permuted heap after trains moved are k d short = train_permuted k heap after (get_or trains k d) moved (are k d short)

-- a visit of no train left the heap
pub trains_other : (heap : List (Reverse Waiting)) (v : Reverse Waiting) (trains : List Train) → length trains ≤ v.0.train → AreTrains (v ∷ heap) trains → AreTrains heap trains
trains_other heap v trains past are k d short =
    let other : v.0.train ≢ k = λ same. absurd (omega (arith, past, short, same)) in
    train_without k heap v (get_or trains k d) other (are k d short)

trains_set : (heap : List (Reverse Waiting)) (trains : List Train) (k : ℕ) (m : Train) → k < length trains → IsTrain k heap m
    → ((j : ℕ) (d : Train) → j ≢ k → j < length trains → IsTrain j heap (get_or trains j d)) → AreTrains heap (set trains k m)
trains_set heap trains k m short here others j d inside = go (cases_lt j k) (cases_lt k j)
  where
    within : j < length trains
    within = omega (arith, inside, length-set trains k m)

    other : j ≢ k → IsTrain j heap (get_or (set trains k m) j d)
    other apart = subst (λ l. IsTrain j heap l) (sym (get_or-set_other trains k j m d apart)) (others j d apart within)

    go : (j < k) ⊎ (k ≤ j) → (k < j) ⊎ (j ≤ k) → IsTrain j heap (get_or (set trains k m) j d)
    go (inl below) any = other (λ same. absurd (omega (arith, below, same)))
    go (inr up) (inl above) = other (λ same. absurd (omega (arith, above, same)))
    go (inr up) (inr down) =
        let same : k ≡ j = omega (arith, up, down) in
        subst (λ (i : ℕ). IsTrain i heap (get_or (set trains k m) i d)) same (subst (λ l. IsTrain k heap l) (sym (get_or-set_same trains k m d short)) here)

pub trains_put : (heap : List (Reverse Waiting)) (v : Reverse Waiting) (trains : List Train) (k : ℕ) (l m : Train) → k < length trains → l ≡ get_or trains k l → v.0.train ≡ k
    → IsPutBehind v l m → AreTrains heap trains → AreTrains heap (set trains k m)
trains_put heap v trains k l m short is tag put are =
    trains_set heap trains k m short (train_put k heap v l m tag put (subst (λ x. IsTrain k heap x) (sym is) (are k l short))) (λ j d apart inside. are j d inside)

pub trains_left : (heap : List (Reverse Waiting)) (v : Reverse Waiting) (trains : List Train) (k : ℕ) (l m : Train) → k < length trains → l ≡ get_or trains k l → v.0.train ≡ k
    → IsLeftOut v l m → AreTrains heap trains → AreTrains (v ∷ heap) (set trains k m)
trains_left heap v trains k l m short is tag left are =
    trains_set (v ∷ heap) trains k m short (train_left k heap v l m tag left (subst (λ x. IsTrain k heap x) (sym is) (are k l short)))
    (λ j d apart inside. train_with j heap v (get_or trains j d) (are j d inside))

pub trains_taken : (heap : List (Reverse Waiting)) (v : Reverse Waiting) (o : Option (Reverse Waiting)) (trains : List Train) (k : ℕ) (l m : Train) → k < length trains
    → l ≡ get_or trains k l → v.0.train ≡ k → l.visits.items ≡ option_to_list o ++ m.visits.items → m.last ≡ (if is_some o then l.last else None)
    → IfNone o (m.visits.items ≡ []) → AreTrains (v ∷ heap) trains → AreTrains (option_to_list o ++ heap) (set trains k m)
trains_taken heap v o trains k l m short is tag visits last none are =
    let was = subst (λ x. IsTrain k (v ∷ heap) x) (sym is) (are k l short) in
    trains_set (option_to_list o ++ heap) trains k m short (train_taken k heap o l m visits last none was.rises was.tagged)
    (λ j d apart inside. beside o j d (train_without j heap v (get_or trains j d) (λ same. apart (sym same ∙ tag)) (are j d inside)))
  where
    beside : (p : Option (Reverse Waiting)) (j : ℕ) (d : Train) → IsTrain j heap (get_or trains j d) → IsTrain j (option_to_list p ++ heap) (get_or trains j d)
    beside None j d train = train
    beside (Some r) j d train = train_with j heap r (get_or trains j d) train

-- ---- what waits in trains

pub rows_kept : (trains : List Train) (k : ℕ) (l m : Train) → k < length trains → l ≡ get_or trains k l → m.visits.items ≡ l.visits.items → rows_in (set trains k m) ≡ rows_in trains
unfolding rows_in
rows_kept [] k l m short is same = absurd (omega (arith, short))
rows_kept (x ∷ trains) zero l m short is same = ap (λ us. us ++ rows_in trains) (same ∙ ap (λ (y : Train). y.visits.items) is)
rows_kept (x ∷ trains) (suc k) l m short is same = ap (λ us. x.visits.items ++ us) (rows_kept trains k l m (omega (arith, short)) is same)

pub rows_put : (trains : List Train) (k : ℕ) (l m : Train) (v : Reverse Waiting) → k < length trains → l ≡ get_or trains k l → m.visits.items ≡ l.visits.items ++ v ∷ []
    → IsPermutation (v ∷ rows_in trains) (rows_in (set trains k m))
unfolding rows_in
rows_put [] k l m v short is put = absurd (omega (arith, short))
rows_put (x ∷ trains) zero l m v short is put =
    subst (λ us. IsPermutation (v ∷ (x.visits.items ++ rows_in trains)) (us ++ rows_in trains)) (sym (put ∙ ap (λ (y : Train). y.visits.items ++ v ∷ []) is))
    (subst (λ us. IsPermutation (v ∷ (x.visits.items ++ rows_in trains)) us) (sym (append_assoc x.visits.items (v ∷ []) (rows_in trains)))
    (IsPermutation-sym (x.visits.items ++ v ∷ rows_in trains) (v ∷ (x.visits.items ++ rows_in trains)) (IsPermutation-middle x.visits.items v (rows_in trains))))
rows_put (x ∷ trains) (suc k) l m v short is put =
    IsPermutation-trans (v ∷ (x.visits.items ++ rows_in trains)) (x.visits.items ++ v ∷ rows_in trains) (x.visits.items ++ rows_in (set trains k m))
    (IsPermutation-sym (x.visits.items ++ v ∷ rows_in trains) (v ∷ (x.visits.items ++ rows_in trains)) (IsPermutation-middle x.visits.items v (rows_in trains)))
    (IsPermutation-append_right x.visits.items (v ∷ rows_in trains) (rows_in (set trains k m)) (rows_put trains k l m v (omega (arith, short)) is put))

pub rows_taken : (trains : List Train) (k : ℕ) (l m : Train) (o : Option (Reverse Waiting)) → k < length trains → l ≡ get_or trains k l
    → l.visits.items ≡ option_to_list o ++ m.visits.items → IsPermutation (rows_in trains) (option_to_list o ++ rows_in (set trains k m))
unfolding rows_in
rows_taken trains k l m None short is visits =
    subst (λ us. IsPermutation us (rows_in (set trains k m))) (rows_kept trains k l m short is (sym visits)) (IsPermutation-refl (rows_in (set trains k m)))
rows_taken trains k l m (Some r) short is visits = rows_next trains k l m r short is visits
  where
    rows_next : (all : List Train) (j : ℕ) (a b : Train) (q : Reverse Waiting) → j < length all → a ≡ get_or all j a → a.visits.items ≡ q ∷ b.visits.items
        → IsPermutation (rows_in all) (q ∷ rows_in (set all j b))
    rows_next [] j a b q inside at next = absurd (omega (arith, inside))
    rows_next (x ∷ all) zero a b q inside at next =
        subst (λ us. IsPermutation (us ++ rows_in all) (q ∷ (b.visits.items ++ rows_in all))) (sym next ∙ ap (λ (y : Train). y.visits.items) at)
        (IsPermutation-refl (q ∷ (b.visits.items ++ rows_in all)))
    rows_next (x ∷ all) (suc j) a b q inside at next =
        IsPermutation-trans (x.visits.items ++ rows_in all) (x.visits.items ++ q ∷ rows_in (set all j b)) (q ∷ (x.visits.items ++ rows_in (set all j b)))
        (IsPermutation-append_right x.visits.items (rows_in all) (q ∷ rows_in (set all j b)) (rows_next all j a b q (omega (arith, inside)) at next))
        (IsPermutation-middle x.visits.items q (rows_in (set all j b)))

-- a visit was put in its train, or was not
pub told_put : (v : Reverse Waiting) (trains : List Train) (k : ℕ) (l m : Train) → k < length trains → l ≡ get_or trains k l → v.0.train ≡ k
    → (b : Bool) → MatchBool b (IsPutBehind v l m) (IsLeftOut v l m) → IsPut b v trains (set trains k m)
told_put v trains k l m short is tag true put = (rows_put trains k l m v short is put.visits, (λ heap are. trains_put heap v trains k l m short is tag put are))
told_put v trains k l m short is tag false left = (rows_kept trains k l m short is left.visits, (λ heap are. trains_left heap v trains k l m short is tag left are))

-- one train more, which is empty
pub kept_more : (trains before after : List Train) (l : Train) → l.visits.items ≡ [] → l.last ≡ None → after ≡ before ++ l ∷ [] → IsKept trains before → IsKept trains after
kept_more trains before after l none last is kept = record {
  rows = ap (λ (ls : List Train). rows_in ls) is ∙ rows_new before l none ∙ kept.rows;
  behind = λ heap are. subst (λ (ls : List Train). AreTrains heap ls) (sym is) (trains_new heap before l none last (kept.behind heap are));
}

-- what bounds the heap bounds all that waits in trains
rows_bound : (t : Reverse Waiting) (trains : List Train) → ((k : ℕ) (d : Train) → k < length trains → IsNotLater t (get_or trains k d).visits.items) → IsNotLater t (rows_in trains)
unfolding rows_in
rows_bound t [] each = All-nil (λ q. is_later t q ≡ false)
rows_bound t (l ∷ trains) each =
    All-append (λ q. is_later t q ≡ false) l.visits.items (rows_in trains) (each 0 l (omega arith)) (rows_bound t trains (λ k d short. each (suc k) d (omega (arith, short))))

trains_bound : (t : Reverse Waiting) (heap : List (Reverse Waiting)) (trains : List Train) → AreTrains heap trains → IsUpperBound first_on_top t heap
    → IsUpperBound first_on_top t (heap ++ rows_in trains)
trains_bound t heap trains are bound =
    let here = All-from_recursion (λ q. is_later t q ≡ false) heap bound in
    recursion_from_All (λ q. is_later t q ≡ false) (heap ++ rows_in trains)
    (All-append (λ q. is_later t q ≡ false) heap (rows_in trains) here
    (rows_bound t trains (λ k d short.
    (behind (get_or trains k d) ((are k d short).led t (All-weaker (λ q. is_later t q ≡ false) (λ q. q.0.train ≡ k → is_later t q ≡ false) (λ q first tag. first) heap here))))))
  where
    behind : (l : Train) → IsNotLater t (l.visits.items ++ option_to_list l.last) → IsNotLater t l.visits.items
    behind l all = (All-pop (λ q. is_later t q ≡ false) (l.visits.items ++ option_to_list l.last) l.visits.items l.last refl all).0

-- ---- a heap with its trains

pub held_none : (heap : List (Reverse Waiting)) (trains : List Train) → heap ≡ [] → trains ≡ [] → heap ++ rows_in trains ≡ []
unfolding rows_in
held_none heap trains first next = ap (λ us. us ++ rows_in trains) first ∙ ap (λ (ls : List Train). rows_in ls) next

pub held_put : (heap after rows now : List (Reverse Waiting)) (v : Reverse Waiting) → now ≡ rows → IsPermutation (v ∷ heap) after → IsPermutation (v ∷ (heap ++ rows)) (after ++ now)
held_put heap after rows now v same moved =
    subst (λ us. IsPermutation (v ∷ (heap ++ rows)) (after ++ us)) (sym same) (IsPermutation-append_left rows (v ∷ heap) after moved)

pub held_train : (heap rows now : List (Reverse Waiting)) (v : Reverse Waiting) → IsPermutation (v ∷ rows) now → IsPermutation (v ∷ (heap ++ rows)) (heap ++ now)
held_train heap rows now v moved =
    IsPermutation-trans (v ∷ (heap ++ rows)) (heap ++ v ∷ rows) (heap ++ now)
    (IsPermutation-sym (heap ++ v ∷ rows) (v ∷ (heap ++ rows)) (IsPermutation-middle heap v rows)) (IsPermutation-append_right heap (v ∷ rows) now moved)

pub held_led : (heap after rows now : List (Reverse Waiting)) (v : Reverse Waiting) → IsPermutation rows (v ∷ now) → IsPermutation (v ∷ heap) after
    → IsPermutation (heap ++ rows) (after ++ now)
held_led heap after rows now v moved pushed =
    IsPermutation-trans (heap ++ rows) (heap ++ v ∷ now) (after ++ now) (IsPermutation-append_right heap rows (v ∷ now) moved)
    (IsPermutation-trans (heap ++ v ∷ now) (v ∷ (heap ++ now)) (after ++ now) (IsPermutation-middle heap v now) (IsPermutation-append_left now (v ∷ heap) after pushed))

pub held_popped : (heap left rows : List (Reverse Waiting)) (held : List (Reverse Waiting)) (v : Reverse Waiting) → IsPermutation heap (v ∷ left) → IsPermutation (left ++ rows) held
    → IsPermutation (heap ++ rows) (v ∷ held)
held_popped heap left rows held v popped led =
    IsPermutation-trans (heap ++ rows) (v ∷ (left ++ rows)) (v ∷ held) (IsPermutation-append_left rows heap (v ∷ left) popped) (IsPermutation-cons v (left ++ rows) held led)

pub not_err : {T E P : Type 0} (r : Result T E) (b : Bool) (a c new : P) → b ≡ false → b ≡ is_err r → new ≡ (if is_ok r then a else c) → new ≡ a
not_err (Ok x) b a c new well told is = is
not_err (Err e) b a c new well told is = absurd (false≢true (sym well ∙ told))

-- the first of the heap is that of all
pub first_of : (heap : List (Reverse Waiting)) (trains : List Train) (r : Reverse Waiting) → 0 < length heap → r ≡ get_or heap 0 r → IsUpperBound first_on_top r heap
    → AreTrains heap trains → IsFirst r (heap ++ rows_in trains)
first_of heap trains r there front bound are = record {
  there = omega (arith, there, length-append heap (rows_in trains));
  front = front ∙ sym (get_or_append_left heap (rows_in trains) r 0 there);
  bound = trains_bound r heap trains are bound;
}

abbrev later_visit : ℕ → Reverse Waiting
later_visit moment = record { 0 = record { moment = moment + 1; place = 0; number = 0; site = 0; train = 0 } }

-- none are before all visits
none_bound : (rows : List (Reverse Waiting)) → ((t : Reverse Waiting) → IsUpperBound first_on_top t rows) → rows ≡ []
none_bound [] each = refl
none_bound (r ∷ rows) each =
    let late = late_rows r.0.moment (later_visit r.0.moment) (r ∷ rows) (omega arith) (each (later_visit r.0.moment)) in
    absurd (omega (arith, All-head (λ v. r.0.moment < v.moment) (visit_in r) (visits_in rows) late))

-- where the heap is empty, so are the trains
pub none_held : (heap : List (Reverse Waiting)) (trains : List Train) → length heap ≡ 0 → AreTrains heap trains → heap ++ rows_in trains ≡ []
none_held [] trains empty are = none_bound (rows_in trains) (λ t. trains_bound t [] trains are tt)
none_held (r ∷ heap) trains empty are = absurd (omega (arith, empty))

-- what stands on top of the heap is the first of all, and where nothing does there is none
pub first_told : {B : Type 0} {P : Type 0} (heap : List (Reverse Waiting)) (trains : List Train) (n : ℕ) (o : Option B) (row : B → Reverse Waiting) → n ≡ length heap
    → (IsSome o ↔ (0 < n)) → IfSome o (λ x. row x ≡ get_or heap 0 (row x)) → IfSome o (λ x. P → IsUpperBound first_on_top (row x) heap) → P → AreTrains heap trains
    → MatchOption o (heap ++ rows_in trains ≡ []) (λ x. IsFirst (row x) (heap ++ rows_in trains))
first_told heap trains n None row size some front bound held are = none_held heap trains (sym size ∙ none_there n some.1) are
first_told heap trains n (Some x) row size some front bound held are = first_of heap trains (row x) (omega (arith, size, some.0 refl)) front (bound held) are

-- the first of a heap that is looked at
pub peeked_first : (heap : List (Reverse Waiting)) (trains : List Train) (r : Reverse Waiting) → 0 < length heap → r ≡ get_or heap 0 r
    → IsUpperBound first_on_top r heap → AreTrains heap trains → IsFirst r (heap ++ rows_in trains)
peeked_first heap trains r there front bound are = first_of heap trains r there front bound are

-- what is taken out of a heap is what was looked at
pub popped_as : (heap left : List (Reverse Waiting)) (result : Option (Reverse Waiting)) (first : Reverse Waiting) → 0 < length heap → IsSome result
    → IfSome result (λ r. r ≡ get_or heap 0 r) → IfSome result (λ r. IsPermutation heap (r ∷ left)) → first ≡ get_or heap 0 first
    → (result ≡ Some first) × IsPermutation heap (first ∷ left)
popped_as heap left None first there some top moved front = let no : false ≡ true = some in absurd cc
popped_as heap left (Some r) first there some top moved front =
    let same : r ≡ first = same_at heap 0 r first there top front in
    (ap Some same, subst (λ q. IsPermutation heap (q ∷ left)) same moved)

-- and the next one of its train goes there, if there is one
pub taken_rest : (heap left after : List (Reverse Waiting)) (trains now : List Train) (r : Reverse Waiting) (next : Option (Reverse Waiting)) → IsPermutation heap (r ∷ left)
    → IsLed next r trains now → IsPermutation (option_to_list next ++ left) after → IsPermutation (heap ++ rows_in trains) (r ∷ (after ++ rows_in now))
taken_rest heap left after trains now r None popped led pushed =
    held_popped heap left (rows_in trains) (after ++ rows_in now) r popped
    (IsPermutation-trans (left ++ rows_in trains) (after ++ rows_in trains) (after ++ rows_in now) (IsPermutation-append_left (rows_in trains) left after pushed)
    (IsPermutation-append_right after (rows_in trains) (rows_in now) led.rows))
taken_rest heap left after trains now r (Some next) popped led pushed =
    held_popped heap left (rows_in trains) (after ++ rows_in now) r popped (held_led left after (rows_in trains) (rows_in now) next led.rows pushed)

pub taken_trains : (heap left after : List (Reverse Waiting)) (trains now : List Train) (r : Reverse Waiting) (next : Option (Reverse Waiting)) → IsPermutation heap (r ∷ left)
    → IsLed next r trains now → IsPermutation (option_to_list next ++ left) after → AreTrains heap trains → AreTrains after now
taken_trains heap left after trains now r next popped led pushed are =
    trains_permuted (option_to_list next ++ left) after now pushed (led.behind left (trains_permuted heap (r ∷ left) trains popped are))
