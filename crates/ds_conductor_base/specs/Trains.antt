-- Visits that wait in trains behind a heap.
use Rattle.std.specs.Prelude.{◌≡◌, ℕ, ◌<◌, ◌++◌, false, List, [], ◌∷◌, length, slice_index_or, Bool, IsPermutation, IsSome, MatchBool, Some, Option, option_to_list, All}
use Rattle.std.specs.BinaryHeap.{IsHeap, IsUpperBound}
use Rattle.std.specs.Option.{option_or}
use Rattle.std.specs.Ordering.{is_lt}
use Rattle.std.specs.declared.cmp.Reverse.{Reverse}
use Rattle.ds_conductor_base.specs.Waits.{first_on_top}
use Rattle.ds_conductor_base.specs.declared.train.Train.{Train}
use Rattle.ds_conductor_base.specs.declared.waiting.Waiting.{Waiting}

-- a visit is not later than any of these
abbrev pub IsNotLater : Reverse Waiting → List (Reverse Waiting) → Type 0
IsNotLater t rows = All (λ q. is_lt (first_on_top t q) ≡ false) rows

-- nor than any of these that have a train
abbrev pub IsNotLaterIn : ℕ → Reverse Waiting → List (Reverse Waiting) → Type 0
IsNotLaterIn k t rows = All (λ q. q.0.train ≡ k → is_lt (first_on_top t q) ≡ false) rows

-- all that wait in trains
unfoldable pub rows_in : List Train → List (Reverse Waiting)
rows_in [] = []
rows_in (l ∷ trains) = l.visits.items ++ rows_in trains

-- each is not later than those behind it, nor than the last
unfoldable pub Rises : List (Reverse Waiting) → Option (Reverse Waiting) → Type 0
Rises [] last = Unit {0}
Rises (r ∷ rows) last = IsNotLater r (rows ++ option_to_list last) × (IsSome last × Rises rows last)

-- what is not later than those of a heap that have a train is not later than those in the train
pub record IsTrain (k : ℕ) (heap : List (Reverse Waiting)) (l : Train) : Type 0 where
  pub rises : Rises l.visits.items l.last
  pub tagged : All (λ q. q.0.train ≡ k) l.visits.items
  pub led : (t : Reverse Waiting) → IsNotLaterIn k t heap → IsNotLater t (l.visits.items ++ option_to_list l.last)

abbrev pub AreTrains : List (Reverse Waiting) → List Train → Type 0
AreTrains heap trains = (k : ℕ) (d : Train) → k < length trains → IsTrain k heap (slice_index_or trains k d)

-- a visit was put behind those of a train
pub record IsPutBehind (v : Reverse Waiting) (l m : Train) : Type 0 where
  pub last : Reverse Waiting
  pub was : l.last ≡ Some last
  pub behind : is_lt (first_on_top last v) ≡ false
  pub visits : m.visits.items ≡ l.visits.items ++ v ∷ []
  pub is : m.last ≡ Some v

-- it was not, and is the first of the train where that is empty
pub record IsLeftOut (v : Reverse Waiting) (l m : Train) : Type 0 where
  pub visits : m.visits.items ≡ l.visits.items
  pub last : m.last ≡ option_or l.last (Some v)

-- trains that hold the same visits as others, and stand behind each heap behind which these do
pub record IsKept (trains after : List Train) : Type 0 where
  pub rows : rows_in after ≡ rows_in trains
  pub behind : (heap : List (Reverse Waiting)) → AreTrains heap trains → AreTrains heap after

-- a visit was put into its train, or is to go into the heap
abbrev pub IsPut : Bool → Reverse Waiting → List Train → List Train → Type 0
IsPut done v trains after = MatchBool done
    (IsPermutation (v ∷ rows_in trains) (rows_in after)
    × ((heap : List (Reverse Waiting)) → AreTrains heap trains → AreTrains heap after))
    ((rows_in after ≡ rows_in trains)
    × ((heap : List (Reverse Waiting)) → AreTrains heap trains → AreTrains (v ∷ heap) after))

-- once a visit left the heap, the next one of its train is to go there, if there is one
pub record IsLed (next : Option (Reverse Waiting)) (v : Reverse Waiting) (trains after : List Train) : Type 0 where
  pub rows : IsPermutation (rows_in trains) (option_to_list next ++ rows_in after)
  pub behind : (heap : List (Reverse Waiting)) → AreTrains (v ∷ heap) trains
      → AreTrains (option_to_list next ++ heap) after

-- all that wait in a heap and in trains, and for how many more the heap has room
pub record Stock : Type 0 where
  pub rows : List (Reverse Waiting)
  pub room : ℕ

-- a visit stands in front of the others, and is not later than any
pub record IsFirst (r : Reverse Waiting) (rows : List (Reverse Waiting)) : Type 0 where
  pub there : 0 < length rows
  pub front : r ≡ slice_index_or rows 0 r
  pub bound : IsUpperBound first_on_top r rows

-- the first of a heap was taken out, and another visit put in
pub record IsReplaced (next : Reverse Waiting) (heap after : List (Reverse Waiting)) : Type 0 where
  pub first : Reverse Waiting
  pub left : List (Reverse Waiting)
  pub top : first ≡ slice_index_or heap 0 first
  pub taken : IsPermutation heap (first ∷ left)
  pub put : IsPermutation (next ∷ left) after
  pub ordered : IsHeap first_on_top heap → IsHeap first_on_top after
