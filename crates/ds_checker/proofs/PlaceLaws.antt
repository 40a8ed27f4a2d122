-- What sums are at the place of a name, and the first place at which a meter has too little.
use Rattle.std.proofs.Common.{arith, ◌≡◌, ℕ, zero, suc, ◌+◌, ◌-◌, ◌<◌, ◌≤◌, Bool, true, false, nat_lt, List, [], ◌∷◌, length, set, get_or, if◌then◌else◌, Option, None, Some, option_map, refl, sym, ap, ◌∙◌}
use Rattle.std.specs.List.{AllByRecursion}
use Rattle.std.specs.Option.{option_or}
use Rattle.std.proofs.lemmas.Bool.Decides.{nat_tests}
use Rattle.envelope_core.specs.Curve.{Curve, widened}
use Rattle.moment_core.specs.declared.column.Column.TheVariants.{Green, All, Excess}
use Rattle.ds_domain_base.specs.declared.parts.Meter.{Meter}
use Rattle.ds_checker.specs.Loads.{Share, kept}
use Rattle.ds_checker.specs.Places.{at_place, earlier}
use Rattle.ds_checker.specs.Sums.{IsCounted, IsPeakCounted, less, plus, sum_tests, sums_tests, with_share, without_share}
use Rattle.ds_checker.specs.Tests.{first_failed}
use Rattle.ds_checker.specs.declared.load.Loads.{Loads}
use Rattle.ds_checker.specs.declared.refusal.Refusal.{Refusal}
use Rattle.ds_checker.proofs.BoundLaws.{first_failed-append, none_failed}
use Rattle.ds_checker.proofs.LoadLaws.{same_curve}

-- ---- a share that is taken back
abbrev pub loads_with : ℕ → Curve → Curve → Curve → ℕ → Loads
loads_with skew green all peaked number = record { skew = skew; green = green; all = all; peaked = peaked; peaked_number = number }

pub same_loads : (skew : ℕ) (green green' all all' peaked peaked' : Curve) (number number' : ℕ) → green ≡ green' → all ≡ all' → peaked ≡ peaked' → number ≡ number'
    → loads_with skew green all peaked number ≡ loads_with skew green' all' peaked' number'
same_loads skew green green' all all' peaked peaked' number number' greens alls peakeds numbers =
    ap (λ c. loads_with skew c all peaked number) greens ∙ ap (λ c. loads_with skew green' c peaked number) alls
    ∙ ap (λ c. loads_with skew green' all' c number) peakeds ∙ ap (loads_with skew green' all' peaked') numbers

less-plus : (c a : Curve) → less (plus c a) a ≡ c
less-plus c a = same_curve (c.rate + a.rate - a.rate) c.rate (c.burst + a.burst - a.burst) c.burst (omega arith) (omega arith)

peak-back : (p : Bool) (c a : Curve) → (if p then less (if p then plus c a else c) a else (if p then plus c a else c)) ≡ c
peak-back true c a = less-plus c a
peak-back false c a = refl

number-back : (p : Bool) (n : ℕ) → (if p then (if p then n + 1 else n) - 1 else (if p then n + 1 else n)) ≡ n
number-back true n = omega arith
number-back false n = refl

pub without-with : (l : Loads) (share : Share) → without_share (with_share l share) share ≡ l
without-with l share = same_loads l.skew _ l.green _ l.all _ l.peaked _ l.peaked_number
    (less-plus l.green (widened l.skew (kept Green share)))
    (less-plus l.all (widened l.skew (kept All share)))
    (peak-back share.has_peak l.peaked (widened l.skew (kept Excess share)))
    (number-back share.has_peak l.peaked_number)

peak-counted : (p : Bool) (l : Loads) (share : Share) → share.has_peak ≡ p → IsPeakCounted share.has_peak (widened l.skew (kept Excess share)) (with_share l share)
peak-counted true l share is = rw is ((omega arith, omega arith), omega arith)
peak-counted false l share is = rw is tt

pub counted-with : (l : Loads) (share : Share) → IsCounted share (with_share l share)
counted-with l share = ((omega arith, omega arith), (omega arith, omega arith), peak-counted share.has_peak l share refl)

-- ---- what each meter answers
pub answers : List (List ℕ × Meter) → List Loads → List (Option Refusal)
answers (entry ∷ meters) (l ∷ loads) = first_failed (sum_tests entry l) ∷ answers meters loads
answers meters loads = []

-- the first of them, with its place, of which the first has this one
pub first_at : ℕ → List (Option Refusal) → Option (ℕ × Refusal)
first_at place [] = None
first_at place (None ∷ found) = first_at (suc place) found
first_at place (Some refusal ∷ found) = Some (place, refusal)

second_by : (place : ℕ) (found : Option Refusal) (rest : List (Option Refusal)) (others : Option Refusal)
    → option_map (λ f. f.1) (first_at (suc place) rest) ≡ others → option_map (λ f. f.1) (first_at place (found ∷ rest)) ≡ option_or found others
unfolding first_at
second_by place None rest others behind = behind
second_by place (Some refusal) rest others behind = refl

pub first-failed-at : (place : ℕ) (meters : List (List ℕ × Meter)) (loads : List Loads)
    → option_map (λ f. f.1) (first_at place (answers meters loads)) ≡ first_failed (sums_tests meters loads)
unfolding answers sums_tests first_at
first-failed-at place [] loads = sym none_failed
first-failed-at place (entry ∷ meters) [] = sym none_failed
first-failed-at place (entry ∷ meters) (l ∷ loads) =
    second_by place (first_failed (sum_tests entry l)) (answers meters loads) (first_failed (sums_tests meters loads)) (first-failed-at (suc place) meters loads)
    ∙ sym (first_failed-append (sum_tests entry l) (sums_tests meters loads))

pub some_first : (found : Option (ℕ × Refusal)) → option_map (λ f. f.1) found ≡ None → found ≡ None
some_first None none = refl
some_first (Some f) none = absurd cc

-- none answers
pub first_at-None : (place : ℕ) (found : List (Option Refusal)) → option_map (λ f. f.1) (first_at place found) ≡ None → AllByRecursion (λ f. f ≡ None) found
unfolding first_at
first_at-None place [] none = tt
first_at-None place (None ∷ found) none = (refl, first_at-None (suc place) found none)
first_at-None place (Some refusal ∷ found) none = absurd cc

pub none-at : (found : List (Option Refusal)) (i : ℕ) → AllByRecursion (λ f. f ≡ None) found → get_or found i None ≡ None
none-at [] i none = refl
none-at (f ∷ found) zero none = none.0
none-at (f ∷ found) (suc i) none = none-at found i none.1

-- answers of sums of which one is another
pub answers-set : (meters : List (List ℕ × Meter)) (loads : List Loads) (i : ℕ) (l : Loads) (e : List ℕ × Meter) → i < length meters
    → answers meters (set loads i l) ≡ set (answers meters loads) i (first_failed (sum_tests (get_or meters i e) l))
unfolding answers
answers-set [] loads i l e inside = absurd (omega (arith, inside))
answers-set (entry ∷ meters) [] i l e inside = refl
answers-set (entry ∷ meters) (own ∷ loads) zero l e inside = refl
answers-set (entry ∷ meters) (own ∷ loads) (suc i) l e inside =
    ap (λ rest. first_failed (sum_tests entry own) ∷ rest) (answers-set meters loads i l e (omega (arith, inside)))

pub answers-at : (meters : List (List ℕ × Meter)) (loads : List Loads) (i : ℕ) (l : Loads) (e : List ℕ × Meter) → i < length meters → i < length loads
    → get_or (answers meters loads) i None ≡ first_failed (sum_tests (get_or meters i e) (get_or loads i l))
unfolding answers
answers-at [] loads i l e inside within = absurd (omega (arith, inside))
answers-at (entry ∷ meters) [] i l e inside within = absurd (omega (arith, within))
answers-at (entry ∷ meters) (own ∷ loads) zero l e inside within = refl
answers-at (entry ∷ meters) (own ∷ loads) (suc i) l e inside within = answers-at meters loads i l e (omega (arith, inside)) (omega (arith, within))

pub length-answers : (meters : List (List ℕ × Meter)) (loads : List Loads) → length loads ≡ length meters → length (answers meters loads) ≡ length meters
unfolding answers
length-answers [] loads long = refl
length-answers (entry ∷ meters) [] long = absurd (omega (arith, long))
length-answers (entry ∷ meters) (l ∷ loads) long = ap suc (length-answers meters loads (omega (arith, long)))

-- the lower of two places
lower_by : (b : Bool) (a other : ℕ × Refusal) → nat_lt other.0 a.0 ≡ b → (if nat_lt other.0 a.0 then Some other else Some a) ≡ (if b then Some other else Some a)
lower_by b a other is = rw is refl

lower : (a other : ℕ × Refusal) → other.0 < a.0 → earlier (Some a) (Some other) ≡ Some other
lower a other below = lower_by true a other (grind (arith, below, nat_tests))

upper : (a other : ℕ × Refusal) → a.0 ≤ other.0 → earlier (Some a) (Some other) ≡ Some a
upper a other above = lower_by false a other (grind (arith, above, nat_tests))

pub earlier-None : (a : Option (ℕ × Refusal)) → earlier a None ≡ a
earlier-None None = refl
earlier-None (Some a) = refl

-- where the first is at no lower place
first_by : (place : ℕ) (refusal : Refusal) (found : List (Option Refusal)) (from : ℕ) → place ≤ from
    → earlier (Some (place, refusal)) (first_at from found) ≡ Some (place, refusal)
unfolding first_at
first_by place refusal [] from above = refl
first_by place refusal (None ∷ found) from above = first_by place refusal found (suc from) (omega (arith, above))
first_by place refusal (Some other ∷ found) from above = upper (place, refusal) (from, other) above

-- one more refusal at a place at which there was none
pub first_at-set : (from : ℕ) (found : List (Option Refusal)) (i : ℕ) (refusal : Option Refusal) → i < length found → get_or found i None ≡ None
    → first_at from (set found i refusal) ≡ earlier (at_place (from + i) refusal) (first_at from found)
unfolding first_at
first_at-set from [] i refusal inside none = absurd (omega (arith, inside))
first_at-set from (None ∷ found) zero None inside none = refl
first_at-set from (None ∷ found) zero (Some r) inside none =
    sym (first_by from r found (suc from) (omega arith)) ∙ ap (λ place. earlier (Some (place, r)) (first_at (suc from) found)) (plus_zero from)
  where
    plus_zero : (n : ℕ) → n ≡ n + 0
    plus_zero n = omega arith
first_at-set from (Some other ∷ found) zero refusal inside none = absurd cc
first_at-set from (None ∷ found) (suc i) refusal inside none =
    first_at-set (suc from) found i refusal (omega (arith, inside)) none
    ∙ ap (λ place. earlier (at_place place refusal) (first_at (suc from) found)) (next_place from i)
  where
    next_place : (n k : ℕ) → suc n + k ≡ n + suc k
    next_place n k = omega arith
first_at-set from (Some other ∷ found) (suc i) None inside none = refl
first_at-set from (Some other ∷ found) (suc i) (Some r) inside none = sym (lower (from + suc i, r) (from, other) (omega arith))

-- three places
three_by : (x y : Bool) (a b c : ℕ × Refusal) → nat_lt b.0 a.0 ≡ x → nat_lt c.0 b.0 ≡ y
    → earlier (earlier (Some a) (Some b)) (Some c) ≡ earlier (Some a) (earlier (Some b) (Some c))
three_by true true a b c is are =
    let below : b.0 < a.0 = grind (arith, is, nat_tests) in
    let lowest : c.0 < b.0 = grind (arith, are, nat_tests) in
    ap (λ f. earlier f (Some c)) (lower a b below) ∙ lower b c lowest ∙ sym (ap (earlier (Some a)) (lower b c lowest) ∙ lower a c (omega (arith, below, lowest)))
three_by true false a b c is are =
    let below : b.0 < a.0 = grind (arith, is, nat_tests) in
    let above : b.0 ≤ c.0 = grind (arith, are, nat_tests) in
    ap (λ f. earlier f (Some c)) (lower a b below) ∙ upper b c above ∙ sym (ap (earlier (Some a)) (upper b c above) ∙ lower a b below)
three_by false true a b c is are =
    let above : a.0 ≤ b.0 = grind (arith, is, nat_tests) in
    let lowest : c.0 < b.0 = grind (arith, are, nat_tests) in
    ap (λ f. earlier f (Some c)) (upper a b above) ∙ sym (ap (earlier (Some a)) (lower b c lowest))
three_by false false a b c is are =
    let above : a.0 ≤ b.0 = grind (arith, is, nat_tests) in
    let higher : b.0 ≤ c.0 = grind (arith, are, nat_tests) in
    ap (λ f. earlier f (Some c)) (upper a b above) ∙ upper a c (omega (arith, above, higher)) ∙ sym (ap (earlier (Some a)) (upper b c higher) ∙ upper a b above)

pub earlier-assoc : (a b c : Option (ℕ × Refusal)) → earlier (earlier a b) c ≡ earlier a (earlier b c)
earlier-assoc None b c = refl
earlier-assoc (Some a) None c = refl
earlier-assoc (Some a) (Some b) None = earlier-None (earlier (Some a) (Some b))
earlier-assoc (Some a) (Some b) (Some c) = three_by (nat_lt b.0 a.0) (nat_lt c.0 b.0) a b c refl refl

-- ---- a loop over a path
pub none_of : (meters : List (List ℕ × Meter)) (loads : List Loads) → first_failed (sums_tests meters loads) ≡ None → AllByRecursion (λ f. f ≡ None) (answers meters loads)
none_of meters loads passed = first_at-None 0 (answers meters loads) (first-failed-at 0 meters loads ∙ passed)

pub zero_plus : (n : ℕ) → 0 + n ≡ n
zero_plus n = omega arith

pub entry_of : (meters : List (List ℕ × Meter)) → 0 < length meters → List ℕ × Meter
entry_of [] some = absurd (omega (arith, some))
entry_of (entry ∷ meters) some = entry
