-- What making visits, sending a packet and handing one out change of the colours that are still to come.
use Rattle.std.proofs.Common.{◌≡◌, ◌⊎◌, inl, inr, ◌<◌, ◌≤◌, ◌+◌, ◌^◌, ℕ, suc, Bool, true, false, List, [], ◌∷◌, ◌++◌, length, length-append, get_or, map, Option, refl, sym, ap, ◌∙◌, subst, arith, append_assoc, append-nil, cond, ◌-◌, ◌||◌, ◌&&◌, IsPermutation, nat_eq, nat_le, nat_lt, not}
use Rattle.std.specs.List.{All, AllByRecursion, IsDistinct, list_any}
use Rattle.std.proofs.lemmas.Bool.Decides.{nat_tests}
use Rattle.std.proofs.lemmas.List.Elements.{All-append, All-nil, All-filter, All-from_recursion, All-head, All-tail, All-weaker, filter_passes}
use Rattle.std.proofs.lemmas.List.Sorted.{All-permutation, IsPermutation-append_left, IsPermutation-filter_both, IsPermutation-refl}
use Rattle.std.proofs.lemmas.Map.Keys.{IsDistinct-IsPermutation}
use Rattle.meter_book_base.specs.declared.any_meter.AnyMeter.{AnyMeter}
use Rattle.meter_fabric_base.specs.Orders.{in_order}
use Rattle.meter_fabric_base.proofs.OrderLaws.{Ascends, in_order-permutes}
use Rattle.ds_checker.specs.Acceptance.{Table}
use Rattle.ds_conductor_base.proofs.ApartLaws.{distinct_both, visits_differ}
use Rattle.ds_conductor_base.proofs.InOrderLaws.{visit_order}
use Rattle.ds_conductor_base.proofs.JoinLaws.{ascends-filter, in_order-both, in_order-rises, in_order-same, in_order-told}
use Rattle.ds_conductor_base.proofs.PassLaws.{passed-count, passed-first, passed_all-behind, passed_all-both, passed_all-count, passed_all-first, passed_all-with, with_first}
use Rattle.ds_conductor_base.proofs.VisitLaws.{apart_across, later-timed, visits_from-before, visits_from-behind, visits_from-both, visits_from-from, visits_to-all}
use Rattle.ds_conductor_base.specs.Streams.{ComeFrom, IsAmong, IsStream, Stream, colours_left, due, late, made_due, next_place, with_packets, with_sent}
use Rattle.ds_conductor_base.specs.Laws.{AllColoursCome, OneColourEach, VisitsUpToAMomentAreFinal}
use Rattle.ds_conductor_base.specs.Passing.{Carried, Traffic, came_in, colours_in, colours_of, entered, passed, passed_all}
use Rattle.ds_conductor_base.specs.Visits.{is_before, is_same, visit_to, visits_from, visits_of}
use Rattle.ds_conductor_base.specs.Ways.{stops_at}
use Rattle.ds_conductor_base.specs.declared.sent.Sent.{Sent}
use Rattle.ds_conductor_base.specs.declared.visit.Visit.{Visit}

flips : (v w : Visit) → is_same v w ≡ is_same w v
flips v w = visit_order.flips v w

-- ---- parts of lists whose elements differ

all_first : {A : Type 0} (P : A → Type 0) (xs ys : List A) → AllByRecursion P (xs ++ ys) → AllByRecursion P xs
all_first P [] ys all = tt
all_first P (x ∷ xs) ys all = (all.0, all_first P xs ys all.1)

pub distinct_first : {A : Type 0} (same : A → A → Bool) (xs ys : List A) → IsDistinct same (xs ++ ys) → IsDistinct same xs
unfolding IsDistinct
distinct_first same [] ys apart = tt
distinct_first same (x ∷ xs) ys apart = (all_first (λ y. same x y ≡ false) xs ys apart.0, distinct_first same xs ys apart.1)

pub distinct_next : {A : Type 0} (same : A → A → Bool) (xs ys : List A) → IsDistinct same (xs ++ ys) → IsDistinct same ys
unfolding IsDistinct
distinct_next same [] ys apart = apart
distinct_next same (x ∷ xs) ys apart = distinct_next same xs ys apart.1

-- ---- visits up to a moment, and later ones

late_otherwise : (moment m : ℕ) → nat_lt moment m ≡ not (nat_le m moment)
late_otherwise moment m = grind (arith, nat_tests)

pub due_or_late : (moment : ℕ) (visits : List Visit) → IsPermutation visits (due moment visits ++ late moment visits)
due_or_late moment visits = IsPermutation-filter_both (λ v. nat_le v.moment moment) (λ v. nat_lt moment v.moment) (λ v. late_otherwise moment v.moment) visits

due_first : (v w : Visit) (moment next : ℕ) → nat_le v.moment moment ≡ true → v.place < next → (moment < w.moment) ⊎ ((moment ≤ w.moment) × (next ≤ w.place)) → is_before v w ≡ true
due_first v w moment next up before after = by_numbers v.moment v.place v.hop.number w.moment w.place w.hop.number up before after
  where
    by_numbers : (m p h m' p' h' : ℕ) → nat_le m moment ≡ true → p < next → (moment < m') ⊎ ((moment ≤ m') × (next ≤ p'))
        → (nat_lt m m' || nat_eq m m' && (nat_lt p p' || nat_eq p p' && nat_lt h h')) ≡ true
    by_numbers m p h m' p' h' up before after = grind (arith, nat_tests)

late_after : (v : Visit) (moment : ℕ) → nat_lt moment v.moment ≡ true → moment < v.moment
late_after v moment late = grind (arith, nat_tests)

due_before : (v : Visit) (moment next : ℕ) (waiting behind : List Visit) → nat_le v.moment moment ≡ true → v.place < next
    → All (λ w. nat_lt moment w.moment ≡ true) waiting → All (λ w. next ≤ w.place) behind → All (λ w. moment ≤ w.moment) behind
    → All (λ w. is_before v w ≡ true) (waiting ++ behind)
due_before v moment next waiting behind up before later after from =
    All-append (λ w. is_before v w ≡ true) waiting behind
    (All-weaker (λ w. nat_lt moment w.moment ≡ true) (λ w. is_before v w ≡ true) (λ w late. due_first v w moment next up before (inl (late_after w moment late))) waiting later)
    (λ j e within. due_first v (get_or behind j e) moment next up before (inr (from j e within, after j e within)))

-- What waits in its order, and visits of later packets at a moment or later: those up to it stay in front.
pub due_stay : (moment next : ℕ) (waiting behind : List Visit) → IsDistinct is_same (waiting ++ behind) → in_order is_before waiting ≡ waiting
    → All (λ v. v.place < next) waiting → All (λ w. next ≤ w.place) behind → All (λ w. moment ≤ w.moment) behind
    → in_order is_before (waiting ++ behind) ≡ due moment waiting ++ in_order is_before (late moment waiting ++ behind)
due_stay moment next waiting behind apart ordered before after from =
    let split = due_or_late moment waiting in
    let moved : IsPermutation (waiting ++ behind) (due moment waiting ++ (late moment waiting ++ behind)) =
    subst (λ us. IsPermutation (waiting ++ behind) us) (append_assoc (due moment waiting) (late moment waiting) behind)
    (IsPermutation-append_left behind waiting (due moment waiting ++ late moment waiting) split) in
    let parts = IsDistinct-IsPermutation is_same flips (waiting ++ behind) (due moment waiting ++ (late moment waiting ++ behind)) moved apart in
    let first = distinct_first is_same (due moment waiting) (late moment waiting ++ behind) parts in
    let next_parts = distinct_next is_same (due moment waiting) (late moment waiting ++ behind) parts in
    let rises : Ascends is_before waiting = subst (λ us. Ascends is_before us) ordered (in_order-rises is_before is_same visit_order waiting (distinct_first is_same waiting behind apart)) in
    let kept = in_order-told is_before is_same visit_order (due moment waiting) (due moment waiting) first (IsPermutation-refl (due moment waiting))
    (ascends-filter is_before (λ v. nat_le v.moment moment) waiting rises) in
    in_order-both is_before is_same visit_order (due moment waiting) (late moment waiting ++ behind) (waiting ++ behind) apart moved first next_parts
    (λ k d short. due_before (get_or (due moment waiting) k d) moment next (late moment waiting) behind
    (filter_passes (λ v. nat_le v.moment moment) waiting k d short)
    (All-filter (λ v. nat_le v.moment moment) (λ v. v.place < next) waiting before k d short)
    (filter_passes (λ v. nat_lt moment v.moment) waiting) after from)
    ∙ ap (λ us. us ++ in_order is_before (late moment waiting ++ behind)) kept

-- ---- the visits of packets, and of packets behind them

behind_apart : (t : Table) (waiting : List Visit) (next : ℕ) (back : List Sent) → IsDistinct is_same waiting → All (λ v. v.place < next) waiting
    → IsDistinct is_same (waiting ++ visits_from t next back)
behind_apart t waiting next back apart before =
    distinct_both is_same waiting (visits_from t next back) apart (visits_differ t next back)
    (apart_across next waiting (visits_from t next back) before (visits_from-behind t next next back (omega arith)))

pub visits_final : VisitsUpToAMomentAreFinal
unfolding visits_of
visits_final t front back moment short from =
    let count : 0 + length front ≡ length front = omega arith in
    let own = visits_from t 0 front in
    let behind = visits_from t (length front) back in
    let before : All (λ v. v.place < length front) own = visits_from-before t 0 (length front) front (omega arith) in
    let apart = behind_apart t own (length front) back (visits_differ t 0 front) before in
    let moved = in_order-permutes is_before own in
    let ordered_before = All-permutation (λ v. v.place < length front) own (in_order is_before own) moved before in
    let ordered_apart = IsDistinct-IsPermutation is_same flips own (in_order is_before own) moved (visits_differ t 0 front) in
    ap (in_order is_before) (visits_from-both t 0 front back ∙ ap (λ n. own ++ visits_from t n back) count)
    ∙ in_order-same is_before is_same visit_order (own ++ behind) (in_order is_before own ++ behind) apart (IsPermutation-append_left behind own (in_order is_before own) moved)
    ∙ due_stay moment (length front) (in_order is_before own) behind (behind_apart t (in_order is_before own) (length front) back ordered_apart ordered_before)
    (sym (in_order-same is_before is_same visit_order own (in_order is_before own) (visits_differ t 0 front) moved)) ordered_before
    (visits_from-behind t (length front) (length front) back (omega arith)) (visits_from-from t moment (length front) back short from)

-- ---- what is still to come

length-map_in : (packets : List Carried) → length (colours_in packets) ≡ length packets
length-map_in [] = refl
length-map_in (p ∷ packets) = ap suc (length-map_in packets)

length-came : (t : Table) (sent : List Sent) → length (map (came_in t) sent) ≡ length sent
length-came t [] = refl
length-came t (s ∷ sent) = ap suc (length-came t sent)

pub one_colour_each : OneColourEach
unfolding colours_of
one_colour_each t sent =
    length-map_in (passed_all (entered t sent) (visits_of t sent)).packets ∙ passed_all-count (entered t sent) (visits_of t sent) ∙ length-came t sent

pub all_come : AllColoursCome
unfolding colours_left colours_of visits_of
all_come t sent = refl

before_next : (u : Stream) → IsStream u → All (λ v. v.place < next_place u) u.waiting
before_next u is = All-weaker (IsAmong u.traffic.first (length u.traffic.packets)) (λ v. v.place < next_place u) (λ v among. among.1) u.waiting is.among

-- a packet more
pub sent_comes : (u : Stream) (s : Sent) (back : List Sent) → IsStream u → colours_left (with_sent u s) back ≡ colours_left u (s ∷ back)
unfolding colours_left visits_from
sent_comes u s back is =
    let t = u.table in
    let next = next_place u in
    let own = map (visit_to next s) (stops_at t s.flow) in
    let count : u.traffic.first + length (u.traffic.packets ++ came_in t s ∷ []) ≡ suc next = omega (arith, length-append u.traffic.packets (came_in t s ∷ [])) in
    let apart = behind_apart t u.waiting next (s ∷ back) is.apart (before_next u is) in
    let moved : IsPermutation (u.waiting ++ (own ++ visits_from t (suc next) back)) (in_order is_before (u.waiting ++ own) ++ visits_from t (suc next) back) =
    subst (λ us. IsPermutation us (in_order is_before (u.waiting ++ own) ++ visits_from t (suc next) back)) (append_assoc u.waiting own (visits_from t (suc next) back))
    (IsPermutation-append_left (visits_from t (suc next) back) (u.waiting ++ own) (in_order is_before (u.waiting ++ own)) (in_order-permutes is_before (u.waiting ++ own))) in
    ap (λ n. colours_in (passed_all (with_packets (with_packets u.traffic (came_in t s ∷ [])) (map (came_in t) back))
    (in_order is_before (in_order is_before (u.waiting ++ own) ++ visits_from t n back))).packets) count
    ∙ ap (λ vs. colours_in (passed_all (with_packets (with_packets u.traffic (came_in t s ∷ [])) (map (came_in t) back)) vs).packets)
    (sym (in_order-same is_before is_same visit_order (u.waiting ++ (own ++ visits_from t (suc next) back)) (in_order is_before (u.waiting ++ own) ++ visits_from t (suc next) back) apart moved))
    ∙ ap (λ (ps : List Carried). let g : Traffic = record { meters = u.traffic.meters; first = u.traffic.first; packets = ps } in
    colours_in (passed_all g (in_order is_before (u.waiting ++ (own ++ visits_from t (suc next) back)))).packets)
    (append_assoc u.traffic.packets (came_in t s ∷ []) (map (came_in t) back))

-- visits that are made
pub made_comes : (moment : ℕ) (u : Stream) (back : List Sent) → moment < 2 ^ 63 → ComeFrom u.table moment back → IsStream u
    → colours_left (made_due moment u) back ≡ colours_left u back
unfolding colours_left
made_comes moment u back short from is =
    let t = u.table in
    let next = next_place u in
    let g = with_packets u.traffic (map (came_in t) back) in
    let first = passed_all-first u.traffic (due moment u.waiting) in
    let count = passed_all-count u.traffic (due moment u.waiting) in
    let same : next_place (made_due moment u) ≡ next = omega (arith, first, count) in
    let rest = in_order is_before (late moment u.waiting ++ visits_from t next back) in
    let stay = due_stay moment next u.waiting (visits_from t next back) (behind_apart t u.waiting next back is.apart (before_next u is)) is.ordered (before_next u is)
    (visits_from-behind t next next back (omega arith)) (visits_from-from t moment next back short from) in
    ap (λ n. colours_in (passed_all (with_packets (passed_all u.traffic (due moment u.waiting)) (map (came_in t) back)) (in_order is_before (late moment u.waiting ++ visits_from t n back))).packets) same
    ∙ ap (λ h. colours_in (passed_all h rest).packets)
    (sym (passed_all-with u.traffic (due moment u.waiting) (map (came_in t) back)
    (All-filter (λ v. nat_le v.moment moment) (IsAmong u.traffic.first (length u.traffic.packets)) u.waiting is.among)))
    ∙ ap (λ (h : Traffic). colours_in h.packets) (sym (passed_all-both g (due moment u.waiting) rest))
    ∙ ap (λ vs. colours_in (passed_all g vs).packets) (sym stay)

-- a packet that is handed out
any_of : (p : Visit → Bool) (visits : List Visit) → list_any p visits ≡ false → AllByRecursion (λ v. p v ≡ false) visits
any_of p [] none = tt
any_of p (v ∷ visits) none = (first_of_none (p v) (list_any p visits) none, any_of p visits (rest_of_none (p v) (list_any p visits) none))
  where
    first_of_none : (a b : Bool) → (a || b) ≡ false → a ≡ false
    first_of_none true b none = none
    first_of_none false b none = refl

    rest_of_none : (a b : Bool) → (a || b) ≡ false → b ≡ false
    rest_of_none true b none = absurd cc
    rest_of_none false b none = none

not_first : (first place : ℕ) → nat_eq place first ≡ false → first ≤ place → suc first ≤ place
not_first first place other from = grind (arith, nat_tests)

pub behind_first_all : (first count : ℕ) (visits : List Visit) → All (IsAmong first count) visits → list_any (λ v. nat_eq v.place first) visits ≡ false
    → All (λ v. suc first ≤ v.place) visits
behind_first_all first count visits among none =
    let others = All-from_recursion (λ v. nat_eq v.place first ≡ false) visits (any_of (λ v. nat_eq v.place first) visits none) in
    (λ k d short. not_first first _ (others k d short) (among k d short).0)

pub handed_comes : (t : Table) (meters : List (Option AnyMeter)) (first : ℕ) (p : Carried) (packets : List Carried) (waiting : List Visit) (back : List Sent)
    → IsDistinct is_same waiting → All (IsAmong first (suc (length packets))) waiting → list_any (λ v. nat_eq v.place first) waiting ≡ false
    → colours_left (record { table = t; traffic = record { meters = meters; first = first; packets = p ∷ packets }; waiting = waiting }) back
    ≡ p.colour ∷ colours_left (record { table = t; traffic = record { meters = meters; first = suc first; packets = packets }; waiting = waiting }) back
unfolding colours_left
handed_comes t meters first p packets waiting back apart among none =
    let next : first + suc (length packets) ≡ suc first + length packets = omega arith in
    let visits = in_order is_before (waiting ++ visits_from t (suc first + length packets) back) in
    let all = All-append (λ v. suc first ≤ v.place) waiting (visits_from t (suc first + length packets) back) (behind_first_all first (suc (length packets)) waiting among none)
    (visits_from-behind t (suc first) (suc first + length packets) back (omega arith)) in
    let moved = in_order-permutes is_before (waiting ++ visits_from t (suc first + length packets) back) in
    let g : Traffic = record { meters = meters; first = suc first; packets = packets ++ map (came_in t) back } in
    ap (λ n. colours_in (passed_all (with_first first p g) (in_order is_before (waiting ++ visits_from t n back))).packets) next
    ∙ ap (λ (h : Traffic). colours_in h.packets)
    (passed_all-behind g first p visits refl (All-permutation (λ v. suc first ≤ v.place) (waiting ++ visits_from t (suc first + length packets) back) visits moved all))

-- ---- what stays so

none_waiting : (t : Table) (meters : List (Option AnyMeter)) → IsStream (record { table = t; traffic = record { meters = meters; first = 0; packets = [] }; waiting = [] })
unfolding in_order IsDistinct
none_waiting t meters = record { ordered = refl; apart = tt; among = All-nil (IsAmong 0 0); timed = All-nil (λ v. v.moment < 2 ^ 63) }

pub begun_stream : (t : Table) (meters : List (Option AnyMeter)) (packets : List Carried) (waiting : List Visit) → packets ≡ [] → waiting ≡ []
    → IsStream (record { table = t; traffic = record { meters = meters; first = 0; packets = packets }; waiting = waiting })
begun_stream t meters packets waiting no_packets no_visits =
    subst (λ ps. IsStream (record { table = t; traffic = record { meters = meters; first = 0; packets = ps }; waiting = waiting })) (sym no_packets)
    (subst (λ vs. IsStream (record { table = t; traffic = record { meters = meters; first = 0; packets = [] }; waiting = vs })) (sym no_visits) (none_waiting t meters))

pub own_apart : (u : Stream) (s : Sent) → IsStream u → IsDistinct is_same (u.waiting ++ map (visit_to (next_place u) s) (stops_at u.table s.flow))
unfolding visits_from
own_apart u s is =
    subst (λ us. IsDistinct is_same (u.waiting ++ us)) (append-nil (map (visit_to (next_place u) s) (stops_at u.table s.flow)))
    (behind_apart u.table u.waiting (next_place u) (s ∷ []) is.apart (before_next u is))

pub sent_stream : (u : Stream) (s : Sent) → IsStream u → IsStream (with_sent u s)
sent_stream u s is =
    let own = map (visit_to (next_place u) s) (stops_at u.table s.flow) in
    let all = u.waiting ++ own in
    let moved = in_order-permutes is_before all in
    let apart = own_apart u s is in
    let first = u.traffic.first in
    let long = length-append u.traffic.packets (came_in u.table s ∷ []) in
    let count = length (u.traffic.packets ++ came_in u.table s ∷ []) in
    record {
      ordered = sym (in_order-same is_before is_same visit_order all (in_order is_before all) apart moved);
      apart = IsDistinct-IsPermutation is_same flips all (in_order is_before all) moved apart;
      among = All-permutation (IsAmong first count) all (in_order is_before all) moved
          (All-append (IsAmong first count) u.waiting own
          (All-weaker (IsAmong first (length u.traffic.packets)) (IsAmong first count) (λ v among. (among.0, omega (arith, among.1, long))) u.waiting is.among)
          (visits_to-all (IsAmong first count) (next_place u) s (stops_at u.table s.flow) (λ r. (omega arith, omega (arith, long)))));
      timed = All-permutation (λ v. v.moment < 2 ^ 63) all (in_order is_before all) moved
          (All-append (λ v. v.moment < 2 ^ 63) u.waiting own is.timed
          (visits_to-all (λ v. v.moment < 2 ^ 63) (next_place u) s (stops_at u.table s.flow) (λ r. later-timed s.moment r.delay)));
    }

tail_ordered : (v : Visit) (visits : List Visit) → IsDistinct is_same (v ∷ visits) → in_order is_before (v ∷ visits) ≡ v ∷ visits → in_order is_before visits ≡ visits
unfolding Ascends IsDistinct
tail_ordered v visits apart ordered =
    let rises : Ascends is_before (v ∷ visits) = subst (λ us. Ascends is_before us) ordered (in_order-rises is_before is_same visit_order (v ∷ visits) apart) in
    in_order-told is_before is_same visit_order visits visits apart.1 (IsPermutation-refl visits) rises.1

-- the first visit is made
pub made_stream : (t : Table) (g : Traffic) (v : Visit) (rest : List Visit) → IsStream (record { table = t; traffic = g; waiting = v ∷ rest })
    → IsStream (record { table = t; traffic = passed g v; waiting = rest })
made_stream t g v rest is =
    let first = passed-first g v in
    let count = passed-count g v in
    record {
      ordered = tail_ordered v rest is.apart is.ordered;
      apart = distinct_next is_same (v ∷ []) rest is.apart;
      among = λ k d short. let there = All-tail (IsAmong g.first (length g.packets)) v rest is.among k d short in (omega (arith, there.0, first), omega (arith, there.1, first, count));
      timed = All-tail (λ w. w.moment < 2 ^ 63) v rest is.timed;
    }

-- what making all that is due from here makes is what making all of it makes
pub made_more : (moment : ℕ) (t : Table) (g : Traffic) (v : Visit) (rest : List Visit) → v.moment ≤ moment
    → made_due moment (record { table = t; traffic = passed g v; waiting = rest }) ≡ made_due moment (record { table = t; traffic = g; waiting = v ∷ rest })
unfolding passed_all
made_more moment t g v rest up = by_test (nat_le v.moment moment) (nat_lt moment v.moment) (grind (arith, nat_tests)) (grind (arith, nat_tests))
  where
    by_test : (b c : Bool) → b ≡ true → c ≡ false → ◌≡◌ {A = Stream} (record { table = t; traffic = passed_all (passed g v) (due moment rest); waiting = late moment rest })
        (record { table = t; traffic = passed_all g (cond b (v ∷ due moment rest) (due moment rest)); waiting = cond c (v ∷ late moment rest) (late moment rest) })
    by_test true false holds fails = refl
    by_test true true holds fails = absurd cc
    by_test false c holds fails = absurd cc

none_due : (moment : ℕ) (visits : List Visit) → All (λ v. moment < v.moment) visits → due moment visits ≡ []
none_due moment [] later = refl
none_due moment (v ∷ visits) later = by_test (nat_le v.moment moment) (first_late v.moment (All-head (λ w. moment < w.moment) v visits later)) (none_due moment visits (All-tail (λ w. moment < w.moment) v visits later))
  where
    first_late : (m : ℕ) → moment < m → nat_le m moment ≡ false
    first_late m after = grind (arith, nat_tests)

    by_test : (b : Bool) → b ≡ false → due moment visits ≡ [] → cond b (v ∷ due moment visits) (due moment visits) ≡ []
    by_test true fails further = absurd cc
    by_test false fails further = further

all_late : (moment : ℕ) (visits : List Visit) → All (λ v. moment < v.moment) visits → late moment visits ≡ visits
all_late moment [] later = refl
all_late moment (v ∷ visits) later = by_test (nat_lt moment v.moment) (first_late v.moment (All-head (λ w. moment < w.moment) v visits later)) (all_late moment visits (All-tail (λ w. moment < w.moment) v visits later))
  where
    first_late : (m : ℕ) → moment < m → nat_lt moment m ≡ true
    first_late m after = grind (arith, nat_tests)

    by_test : (b : Bool) → b ≡ true → late moment visits ≡ visits → cond b (v ∷ late moment visits) (late moment visits) ≡ v ∷ visits
    by_test true holds further = ap (λ us. v ∷ us) further
    by_test false holds further = absurd cc

-- where all that waits is later, nothing is made
pub made_none : (moment : ℕ) (u : Stream) → All (λ v. moment < v.moment) u.waiting → made_due moment u ≡ u
unfolding passed_all
made_none moment u later =
    ap (λ (vs : List Visit). let w : Stream = record u { traffic = passed_all u.traffic vs; waiting = late moment u.waiting } in w) (none_due moment u.waiting later)
    ∙ ap (λ (vs : List Visit). let w : Stream = record u { waiting = vs } in w) (all_late moment u.waiting later)

-- at the last moment that there is, nothing is left
pub late_none : (visits : List Visit) → All (λ v. v.moment < 2 ^ 63) visits → late (2 ^ 63 - 1) visits ≡ []
late_none [] timed = refl
late_none (v ∷ visits) timed = by_test (nat_lt (2 ^ 63 - 1) v.moment) (first_due v.moment (All-head (λ w. w.moment < 2 ^ 63) v visits timed)) (late_none visits (All-tail (λ w. w.moment < 2 ^ 63) v visits timed))
  where
    first_due : (m : ℕ) → m < 2 ^ 63 → nat_lt (2 ^ 63 - 1) m ≡ false
    first_due m short = grind (arith, nat_tests)

    by_test : (b : Bool) → b ≡ false → late (2 ^ 63 - 1) visits ≡ [] → cond b (v ∷ late (2 ^ 63 - 1) visits) (late (2 ^ 63 - 1) visits) ≡ []
    by_test true fails further = absurd cc
    by_test false fails further = further

pub handed_stream : (t : Table) (meters : List (Option AnyMeter)) (first : ℕ) (p : Carried) (packets : List Carried) (waiting : List Visit)
    → list_any (λ v. nat_eq v.place first) waiting ≡ false
    → IsStream (record { table = t; traffic = record { meters = meters; first = first; packets = p ∷ packets }; waiting = waiting })
    → IsStream (record { table = t; traffic = record { meters = meters; first = suc first; packets = packets }; waiting = waiting })
handed_stream t meters first p packets waiting none is =
    let behind = behind_first_all first (suc (length packets)) waiting is.among none in
    record {
      ordered = is.ordered;
      apart = is.apart;
      among = λ k d short. let there = is.among k d short in (behind k d short, omega (arith, there.1));
      timed = is.timed;
    }
