-- What was put is what was taken and then what the lane holds. One end at most puts, and it has the list of what was
-- put. One end at most takes, and it has the list of what was taken. What an end was told of the other is a beginning.
use Rattle.std.specs.Prelude.{◌≡◌, ℕ, Bool, true, List, ◌++◌}
use mathlib.Core.Option.{some}
use mathlib.Core.List.{IsPrefix}
use lib.ListN.{get_elem?}
use Rattle.lane.specs.declared.rule.Known.{Known}

module _ {T : Type 0} where
  abbrev pub known : Bool → Bool → List T → List T → Known T
  known puts takes put taken = record { puts = puts; takes = takes; put = put; taken = taken }

  abbrev pub Fits : ℕ → ℕ → List T → List T → ℕ → Known T → Type 0
  Fits putter taker put taken end v = (v.puts ≡ true → (end ≡ putter) × (v.put ≡ put))
      × (v.takes ≡ true → (end ≡ taker) × (v.taken ≡ taken))
      × IsPrefix v.put put × IsPrefix v.taken taken

  abbrev pub InOrder : List T → List (Known T) → Type 0
  InOrder items ends = (putter : ℕ) × (taker : ℕ) × (put : List T) × (taken : List T) × (put ≡ taken ++ items)
      × ((end : ℕ) (v : Known T) → get_elem? ends end ≡ some v → Fits putter taker put taken end v)
