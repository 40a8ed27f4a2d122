-- When the first packet comes to each site.
use Rattle.std.proofs.Common.{◌≡◌, ◌⊎◌, inl, inr, ◌≤◌, ◌+◌, ◌-◌, ℕ, zero, suc, Bool, true, false, cond, List, [], ◌∷◌, ◌++◌, map, get_or, min, Option, None, Some, refl, sym, ap, subst, ◌∙◌, arith, ◌&&◌, Contains, nat_eq, nat_le, not, slice_get, option_map, if◌then◌else◌, All, filter}
use Rattle.std.proofs.lemmas.Bool.Decides.{nat_tests}
use Rattle.std.proofs.lemmas.List.Elements.{All-cons, All-contains, All-head, All-nil, All-tail, All-weaker, Contains-get_or}
use Rattle.std.proofs.lemmas.List.Sorted.{Contains-permutation, IsPermutation-sym}
use Rattle.ds_checker.specs.Acceptance.{Table}
use Rattle.meter_fabric_base.specs.Grounds.{contract_of, ground_of}
use Rattle.run_audit.proofs.MemberLaws.{front_or_rest, in_filter, in_front, in_map, in_none, in_rest, of_filter, of_map}
use Rattle.meter_fabric_base.proofs.OrderLaws.{HasAllOf, in_order-permutes}
use Rattle.ds_conductor_base.specs.Streams.{rise_from}
use Rattle.ds_conductor_base.specs.Visits.{is_before, later, visit_to, visits_from, visits_of}
use Rattle.ds_conductor_base.specs.Ways.{stops_at, Stop}
use Rattle.ds_conductor_base.specs.declared.sent.Sent.{Sent}
use Rattle.ds_conductor_base.specs.declared.visit.Visit.{Visit}
use Rattle.ds_runs.specs.Behind.{visits_at}
use Rattle.ds_runs.specs.Judged.{first_moment}
use Rattle.ds_runs.specs.Judging.{Judging, earliest, is_first, noted, reached, reached_along, reached_at, reached_by}
use Rattle.ds_runs.specs.declared.sender.Sender.{Sender}
use Rattle.ds_runs.proofs.ListLaws.{set_here, set_there}
use Rattle.ds_runs.proofs.NotedLaws.{is_equal, noted_all, spoken_there}
use Rattle.ds_runs.proofs.VerdictLaws.{Climbs, visits_climb}

-- ---- the earliest of numbers

unfoldable least : Option ℕ → List ℕ → Option ℕ
least o [] = o
least o (m ∷ ms) = least (earliest o m) ms

least_some : (ms : List ℕ) (a n : ℕ) → n ≤ a → All (λ m. n ≤ m) ms → (a ≡ n) ⊎ Contains ms n → least (Some a) ms ≡ Some n
unfolding least
least_some [] a n below all (inl is) = ap Some is
least_some [] a n below all (inr (k, short, at)) = absurd (omega (arith, short))
least_some (m ∷ ms) a n below all (inl is) =
    let next : n ≤ m = All-head (λ i. n ≤ i) m ms all in
    least_some ms (min a m) n (omega (arith, below, next)) (All-tail (λ i. n ≤ i) m ms all) (inl (omega (arith, is, next)))
least_some (m ∷ ms) a n below all (inr (zero, short, at)) =
    let next : n ≤ m = All-head (λ i. n ≤ i) m ms all in
    least_some ms (min a m) n (omega (arith, below, next)) (All-tail (λ i. n ≤ i) m ms all) (inl (omega (arith, at, below)))
least_some (m ∷ ms) a n below all (inr (suc k, short, at)) =
    let next : n ≤ m = All-head (λ i. n ≤ i) m ms all in
    least_some ms (min a m) n (omega (arith, below, next)) (All-tail (λ i. n ≤ i) m ms all) (inr (k, omega (arith, short), at))

-- the earliest of numbers is the first of them in order
least_moved : (ms ns : List ℕ) → HasAllOf ns ms → HasAllOf ms ns → Climbs ns → least None ms ≡ slice_get ns 0
unfolding least Climbs
least_moved [] [] all back climbs = refl
least_moved [] (n ∷ ns) all back climbs = absurd (in_none n (back n (in_front n ns)))
least_moved (m ∷ ms) [] all back climbs = absurd (in_none m (all m (in_front m ms)))
least_moved (m ∷ ms) (n ∷ ns) all back climbs =
    let same : n ≤ n = omega arith in
    let least_of : (z : ℕ) → Contains (m ∷ ms) z → n ≤ z = λ z has. All-contains (λ i. n ≤ i) (n ∷ ns) z (All-cons (λ i. n ≤ i) n ns same climbs.0) (all z has) in
    least_some ms m n (least_of m (in_front m ms)) (λ k d short. least_of (get_or ms k d) (in_rest m (get_or ms k d) ms (Contains-get_or ms k d short)))
    (front_or_rest m n ms (back n (in_front n ns)))

-- moments of the same visits
moments_moved : (own : Visit → Bool) (xs ys : List Visit) → HasAllOf ys xs → HasAllOf (map (λ v. v.moment) (filter own ys)) (map (λ v. v.moment) (filter own xs))
moments_moved own xs ys all m has =
    let (v, there, is) = of_map (λ (w : Visit). w.moment) (filter own xs) m has in
    let both = of_filter own xs v there in
    subst (Contains (map (λ (w : Visit). w.moment) (filter own ys))) is (in_map (λ (w : Visit). w.moment) (filter own ys) v (in_filter own ys v (all v both.0) both.1))

-- ---- the earliest of a moment that may be there and those of visits to a site

unfoldable pub least_at : ℕ → Option ℕ → List Visit → Option ℕ
least_at site o [] = o
least_at site o (v ∷ visits) = least_at site (if nat_eq v.hop.site site then earliest o v.moment else o) visits

least_both : (site : ℕ) (o : Option ℕ) (front back : List Visit) → least_at site o (front ++ back) ≡ least_at site (least_at site o front) back
unfolding least_at
least_both site o [] back = refl
least_both site o (v ∷ front) back = least_both site (if nat_eq v.hop.site site then earliest o v.moment else o) front back

least_shown : (site : ℕ) (o : Option ℕ) (visits : List Visit) → least_at site o visits ≡ least o (map (λ v. v.moment) (filter (λ v. nat_eq v.hop.site site) visits))
unfolding least_at least
least_shown site o [] = refl
least_shown site o (v ∷ visits) = by_test (nat_eq v.hop.site site) (λ u. least_shown site u visits)
  where
    by_test : (b : Bool) → ((u : Option ℕ) → least_at site u visits ≡ least u (map (λ w. w.moment) (filter (λ w. nat_eq w.hop.site site) visits)))
        → least_at site (if b then earliest o v.moment else o) visits
        ≡ least o (map (λ w. w.moment) (cond b (v ∷ filter (λ w. nat_eq w.hop.site site) visits) (filter (λ w. nat_eq w.hop.site site) visits)))
    by_test true further = further (earliest o v.moment)
    by_test false further = further o

shown_first : (visits : List Visit) → option_map (λ v. v.moment) (slice_get visits 0) ≡ slice_get (map (λ v. v.moment) visits) 0
shown_first [] = refl
shown_first (v ∷ visits) = refl

pub first_told : (t : Table) (sent : List Sent) (site : ℕ) → first_moment t sent site ≡ least_at site None (visits_from t 0 sent)
unfolding visits_of
first_told t sent site =
    let own = λ (v : Visit). nat_eq v.hop.site site in
    let all = visits_from t 0 sent in
    let moved = in_order-permutes is_before all in
    shown_first (visits_at t sent site)
    ∙ sym (least_moved (map (λ v. v.moment) (filter own all)) (map (λ v. v.moment) (visits_at t sent site))
    (moments_moved own all (visits_of t sent) (λ v. Contains-permutation all (visits_of t sent) v moved))
    (moments_moved own (visits_of t sent) all (λ v. Contains-permutation (visits_of t sent) all v (IsPermutation-sym all (visits_of t sent) moved)))
    (visits_climb t sent site))
    ∙ sym (least_shown site None all)

-- ---- visits site by site

kept : {A : Type 0} (o : Option A) → o ≡ option_map (λ x. x) o
kept None = refl
kept (Some x) = refl

fused : {A : Type 0} (f g : A → A) (o : Option A) → option_map f (option_map g o) ≡ option_map (λ x. f (g x)) o
fused f g None = refl
fused f g (Some x) = refl

reached_here : (firsts : List (Option ℕ)) (site moment k : ℕ)
    → slice_get (reached firsts site moment) k ≡ option_map (λ o. if nat_eq site k then earliest o moment else o) (slice_get firsts k)
reached_here firsts site moment k = by_test (nat_eq site k) refl
  where
    here : (found : Option (Option ℕ)) → slice_get firsts site ≡ found → slice_get (reached_at firsts site moment found) site ≡ option_map (λ o. earliest o moment) found
    here None at = at
    here (Some o) at = set_here firsts site o (earliest o moment) at

    there : (found : Option (Option ℕ)) → nat_eq site k ≡ false → slice_get (reached_at firsts site moment found) k ≡ slice_get firsts k
    there None apart = refl
    there (Some o) apart = set_there firsts site k (earliest o moment) apart

    by_test : (b : Bool) → nat_eq site k ≡ b → slice_get (reached firsts site moment) k ≡ option_map (λ o. if b then earliest o moment else o) (slice_get firsts k)
    by_test true same =
        subst (λ n. slice_get (reached firsts site moment) n ≡ option_map (λ o. earliest o moment) (slice_get firsts n)) (is_equal site k same) (here (slice_get firsts site) refl)
    by_test false apart = there (slice_get firsts site) apart ∙ kept (slice_get firsts k)

along_here : (place : ℕ) (s : Sent) (firsts : List (Option ℕ)) (stops : List Stop) (k : ℕ)
    → slice_get (reached_along firsts s.moment stops) k ≡ option_map (λ o. least_at k o (map (visit_to place s) stops)) (slice_get firsts k)
unfolding reached_along least_at
along_here place s firsts [] k = kept (slice_get firsts k)
along_here place s firsts (stop ∷ stops) k =
    along_here place s (reached firsts stop.hop.site (later s.moment stop.delay)) stops k
    ∙ ap (option_map (λ o. least_at k o (map (visit_to place s) stops))) (reached_here firsts stop.hop.site (later s.moment stop.delay) k)
    ∙ fused (λ o. least_at k o (map (visit_to place s) stops)) (λ o. if nat_eq stop.hop.site k then earliest o (later s.moment stop.delay) else o) (slice_get firsts k)

-- ---- a contract that sent was at its stops

-- a moment that is there is no later than another
abbrev IsBy : ℕ → Option ℕ → Type 0
IsBy moment None = ⊥
IsBy moment (Some first) = first ≤ moment

by_later : (m n : ℕ) (o : Option ℕ) → m ≤ n → IsBy m o → IsBy n o
by_later m n None up by = by
by_later m n (Some first) up by = omega (arith, up, by)

earliest_by : (n m : ℕ) (o : Option ℕ) → IsBy n o → IsBy n (earliest o m)
earliest_by n m None by = absurd by
earliest_by n m (Some first) by = omega (arith, by)

earliest_own : (m : ℕ) (o : Option ℕ) → IsBy m (earliest o m)
earliest_own m None = omega arith
earliest_own m (Some first) = omega arith

least_by : (n site : ℕ) (o : Option ℕ) (visits : List Visit) → IsBy n o → IsBy n (least_at site o visits)
unfolding least_at
least_by n site o [] by = by
least_by n site o (v ∷ visits) by = least_by n site (if nat_eq v.hop.site site then earliest o v.moment else o) visits (by_test (nat_eq v.hop.site site))
  where
    by_test : (b : Bool) → IsBy n (if b then earliest o v.moment else o)
    by_test true = earliest_by n v.moment o by
    by_test false = by

abbrev IsOwn : ℕ → Sent → List Stop → Stop → Type 0
IsOwn place s stops stop = (o : Option ℕ) → IsBy (later s.moment stop.delay) (least_at stop.hop.site o (map (visit_to place s) stops))

least_own : (place : ℕ) (s : Sent) (stops : List Stop) → All (IsOwn place s stops) stops
unfolding least_at
least_own place s [] = All-nil (IsOwn place s [])
least_own place s (first ∷ stops) =
    All-cons (IsOwn place s (first ∷ stops)) first stops
    (λ o. least_by (later s.moment first.delay) first.hop.site (if nat_eq first.hop.site first.hop.site then earliest o (later s.moment first.delay) else o) (map (visit_to place s) stops)
    (by_test (nat_eq first.hop.site first.hop.site) o (itself first.hop.site)))
    (All-weaker (IsOwn place s stops) (IsOwn place s (first ∷ stops))
    (λ stop own o. own (if nat_eq first.hop.site stop.hop.site then earliest o (later s.moment first.delay) else o)) stops (least_own place s stops))
  where
    itself : (n : ℕ) → nat_eq n n ≡ true
    itself n = grind (arith, nat_tests)

    by_test : (b : Bool) (o : Option ℕ) → b ≡ true → IsBy (later s.moment first.delay) (if b then earliest o (later s.moment first.delay) else o)
    by_test true o same = earliest_own (later s.moment first.delay) o
    by_test false o same = absurd cc

least_same : (place : ℕ) (s : Sent) (k : ℕ) (o : Option ℕ) (stops : List Stop) → All (λ stop. nat_eq stop.hop.site k ≡ true → IsBy (later s.moment stop.delay) o) stops
    → least_at k o (map (visit_to place s) stops) ≡ o
unfolding least_at
least_same place s k o [] by = refl
least_same place s k o (stop ∷ stops) by =
    ap (λ u. least_at k u (map (visit_to place s) stops)) (by_test (nat_eq stop.hop.site k) (All-head (λ r. nat_eq r.hop.site k ≡ true → IsBy (later s.moment r.delay) o) stop stops by))
    ∙ least_same place s k o stops (All-tail (λ r. nat_eq r.hop.site k ≡ true → IsBy (later s.moment r.delay) o) stop stops by)
  where
    not_earlier : (m : ℕ) (u : Option ℕ) → IsBy m u → earliest u m ≡ u
    not_earlier m None none = absurd none
    not_earlier m (Some first) before = let same : min first m ≡ first = omega (arith, before) in ap Some same

    by_test : (b : Bool) → (b ≡ true → IsBy (later s.moment stop.delay) o) → (if b then earliest o (later s.moment stop.delay) else o) ≡ o
    by_test true by = not_earlier (later s.moment stop.delay) o (by refl)
    by_test false by = refl

-- the first packet came to a site by a moment
abbrev Comes : List (Option ℕ) → ℕ → ℕ → Type 0
Comes firsts site moment = (o : Option ℕ) → slice_get firsts site ≡ Some o → IsBy moment o

comes_later : (firsts : List (Option ℕ)) (site m n : ℕ) → m ≤ n → Comes firsts site m → Comes firsts site n
comes_later firsts site m n up comes o at = by_later m n o up (comes o at)

later_up : (m n delay : ℕ) → m ≤ n → later m delay ≤ later n delay
later_up m n delay up = omega (arith, up)

comes_along : (s : Sent) (firsts : List (Option ℕ)) (stops : List Stop) (site m : ℕ) → Comes firsts site m → Comes (reached_along firsts s.moment stops) site m
comes_along s firsts stops site m comes o at = by_found (slice_get firsts site) refl (sym (along_here 0 s firsts stops site) ∙ at)
  where
    by_found : (found : Option (Option ℕ)) → slice_get firsts site ≡ found → option_map (λ u. least_at site u (map (visit_to 0 s) stops)) found ≡ Some o → IsBy m o
    by_found None is none = absurd cc
    by_found (Some u) is shown =
        let same : least_at site u (map (visit_to 0 s) stops) ≡ o = cc in
        subst (IsBy m) same (least_by m site u (map (visit_to 0 s) stops) (comes u is))

comes_own : (s : Sent) (firsts : List (Option ℕ)) (stops : List Stop) → All (λ stop. Comes (reached_along firsts s.moment stops) stop.hop.site (later s.moment stop.delay)) stops
comes_own s firsts stops =
    All-weaker (IsOwn 0 s stops) (λ stop. Comes (reached_along firsts s.moment stops) stop.hop.site (later s.moment stop.delay))
    (λ stop own o at. by_found stop own o (slice_get firsts stop.hop.site) (sym (along_here 0 s firsts stops stop.hop.site) ∙ at)) stops (least_own 0 s stops)
  where
    by_found : (stop : Stop) → IsOwn 0 s stops stop → (o : Option ℕ) (found : Option (Option ℕ))
        → option_map (λ u. least_at stop.hop.site u (map (visit_to 0 s) stops)) found ≡ Some o → IsBy (later s.moment stop.delay) o
    by_found stop own o None none = absurd cc
    by_found stop own o (Some u) shown =
        let same : least_at stop.hop.site u (map (visit_to 0 s) stops) ≡ o = cc in
        subst (IsBy (later s.moment stop.delay)) same (own u)

-- the first packets came to the stops of each contract that sent as soon as one that is sent at a moment does
abbrev AreMet : Judging → ℕ → Type 0
AreMet j newest =
    (flow : ℕ) (sender : Sender) → slice_get j.senders flow ≡ Some sender → sender.sent ≡ true
    → All (λ stop. Comes j.firsts stop.hop.site (later newest stop.delay)) (stops_at j.table flow)

was_sent : (o : Option Sender) → is_first o ≡ false → (sender : Sender) × (o ≡ Some sender) × (sender.sent ≡ true)
was_sent None first = absurd cc
was_sent (Some sender) first = (sender, refl, by_test sender.sent first)
  where
    by_test : (b : Bool) → not b ≡ false → b ≡ true
    by_test true not_first = refl
    by_test false not_first = absurd cc

met_noted : (j : Judging) (s : Sent) (newest : ℕ) → newest ≤ s.moment → AreMet j newest → AreMet (noted j s) s.moment
met_noted j s newest up met flow sender at sent = by_flow (nat_eq s.flow flow) refl
  where
    goes_on : (b : Bool) → All (λ stop. Comes j.firsts stop.hop.site (later newest stop.delay)) (stops_at j.table flow)
        → All (λ stop. Comes (reached_by j.firsts j.table s b) stop.hop.site (later s.moment stop.delay)) (stops_at j.table flow)
    goes_on true before =
        All-weaker (λ (stop : Stop). Comes j.firsts stop.hop.site (later newest stop.delay)) (λ (stop : Stop). Comes (reached_by j.firsts j.table s true) stop.hop.site (later s.moment stop.delay))
        (λ stop comes. comes_later (reached_by j.firsts j.table s true) stop.hop.site (later newest stop.delay) (later s.moment stop.delay) (later_up newest s.moment stop.delay up)
        (comes_along s j.firsts (stops_at j.table s.flow) stop.hop.site (later newest stop.delay) comes))
        (stops_at j.table flow) before
    goes_on false before =
        All-weaker (λ (stop : Stop). Comes j.firsts stop.hop.site (later newest stop.delay)) (λ (stop : Stop). Comes j.firsts stop.hop.site (later s.moment stop.delay))
        (λ stop comes. comes_later j.firsts stop.hop.site (later newest stop.delay) (later s.moment stop.delay) (later_up newest s.moment stop.delay up) comes)
        (stops_at j.table flow) before

    by_first : (b : Bool) → is_first (slice_get j.senders s.flow) ≡ b → s.flow ≡ flow
        → All (λ stop. Comes (reached_by j.firsts j.table s b) stop.hop.site (later s.moment stop.delay)) (stops_at j.table flow)
    by_first true first is =
        subst (λ n. All (λ stop. Comes (reached_by j.firsts j.table s true) stop.hop.site (later s.moment stop.delay)) (stops_at j.table n)) is (comes_own s j.firsts (stops_at j.table s.flow))
    by_first false first is =
        let (before, there, did) = was_sent (slice_get j.senders s.flow) first in
        goes_on false (met flow before (ap (slice_get j.senders) (sym is) ∙ there) did)

    by_flow : (b : Bool) → nat_eq s.flow flow ≡ b
        → All (λ stop. Comes (reached_by j.firsts j.table s (is_first (slice_get j.senders s.flow))) stop.hop.site (later s.moment stop.delay)) (stops_at j.table flow)
    by_flow true same = by_first (is_first (slice_get j.senders s.flow)) refl (is_equal s.flow flow same)
    by_flow false apart =
        goes_on (is_first (slice_get j.senders s.flow))
        (met flow sender (sym (spoken_there j.senders s flow (contract_of (ground_of j.table) s.flow) apart) ∙ at) sent)

-- ---- the first packet at each site

-- where a contract sent before, one packet more of it changes nothing
not_earlier : (place : ℕ) (j : Judging) (s : Sent) (newest k : ℕ) → newest ≤ s.moment → AreMet j newest → is_first (slice_get j.senders s.flow) ≡ false
    → slice_get j.firsts k ≡ option_map (λ o. least_at k o (map (visit_to place s) (stops_at j.table s.flow))) (slice_get j.firsts k)
not_earlier place j s newest k up met first = by_found (slice_get j.firsts k) refl
  where
    by_found : (found : Option (Option ℕ)) → slice_get j.firsts k ≡ found → found ≡ option_map (λ o. least_at k o (map (visit_to place s) (stops_at j.table s.flow))) found
    by_found None is = refl
    by_found (Some o) is =
        let (before, there, did) = was_sent (slice_get j.senders s.flow) first in
        ap Some
        (sym
        (least_same place s k o (stops_at j.table s.flow)
        (All-weaker (λ (stop : Stop). Comes j.firsts stop.hop.site (later newest stop.delay)) (λ (stop : Stop). nat_eq stop.hop.site k ≡ true → IsBy (later s.moment stop.delay) o)
        (λ stop comes same. by_later (later newest stop.delay) (later s.moment stop.delay) o (later_up newest s.moment stop.delay up) (comes o (ap (slice_get j.firsts) (is_equal stop.hop.site k same) ∙ is)))
        (stops_at j.table s.flow) (met s.flow before there did))))

pub firsts_noted : (j : Judging) (newest place : ℕ) (sent : List Sent) (k : ℕ) → AreMet j newest → rise_from newest sent ≡ true
    → slice_get (noted_all j sent).firsts k ≡ option_map (λ o. least_at k o (visits_from j.table place sent)) (slice_get j.firsts k)
unfolding noted_all visits_from rise_from least_at
firsts_noted j newest place [] k met rises = kept (slice_get j.firsts k)
firsts_noted j newest place (s ∷ sent) k met rises =
    let up = first newest s.moment (rise_from s.moment sent) rises in
    let own = map (visit_to place s) (stops_at j.table s.flow) in
    let behind = visits_from j.table (suc place) sent in
    firsts_noted (noted j s) s.moment (suc place) sent k (met_noted j s newest up met) (rest (nat_le newest s.moment) (rise_from s.moment sent) rises)
    ∙ ap (option_map (λ o. least_at k o behind)) (by_first (is_first (slice_get j.senders s.flow)) refl up)
    ∙ fused (λ o. least_at k o behind) (λ o. least_at k o own) (slice_get j.firsts k)
    ∙ joined own behind (slice_get j.firsts k)
  where
    first : (m n : ℕ) (b : Bool) → (nat_le m n && b) ≡ true → m ≤ n
    first m n b passed = grind (arith, nat_tests)

    rest : (a b : Bool) → (a && b) ≡ true → b ≡ true
    rest true b passed = passed
    rest false b passed = absurd cc

    by_first : (b : Bool) → is_first (slice_get j.senders s.flow) ≡ b → newest ≤ s.moment
        → slice_get (reached_by j.firsts j.table s b) k ≡ option_map (λ o. least_at k o (map (visit_to place s) (stops_at j.table s.flow))) (slice_get j.firsts k)
    by_first true first up = along_here place s j.firsts (stops_at j.table s.flow) k
    by_first false first up = not_earlier place j s newest k up met first

    joined : (own behind : List Visit) (o : Option (Option ℕ)) → option_map (λ u. least_at k (least_at k u own) behind) o ≡ option_map (λ u. least_at k u (own ++ behind)) o
    joined own behind None = refl
    joined own behind (Some u) = ap Some (sym (least_both k u own behind))
