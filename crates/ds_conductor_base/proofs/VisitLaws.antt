-- Where the visits of packets stand, and when they are.
use Rattle.std.proofs.Common.{◌≡◌, ◌<◌, ◌≤◌, ◌+◌, ◌^◌, ℕ, suc, List, [], ◌∷◌, ◌++◌, length, map, refl, sym, ap, ◌∙◌, arith, append_assoc, ◌&&◌, Bool, nat_eq, true, false}
use Rattle.std.specs.List.{All, AllByRecursion}
use Rattle.std.proofs.lemmas.Bool.Decides.{nat_tests}
use Rattle.std.proofs.lemmas.List.Elements.{All-append, All-cons, All-head, All-map, All-nil, All-tail, All-weaker, recursion_from_All}
use Rattle.ds_checker.specs.Acceptance.{Table}
use Rattle.ds_conductor_base.specs.Streams.{ComeFrom}
use Rattle.ds_conductor_base.specs.Visits.{is_same, later, visit_to, visits_from}
use Rattle.ds_conductor_base.specs.Ways.{stops_at, Stop}
use Rattle.ds_conductor_base.specs.declared.sent.Sent.{Sent}
use Rattle.ds_conductor_base.specs.declared.visit.Visit.{Visit}

-- ---- the visits of a packet

pub visits_to-all : (P : Visit → Type 0) (place : ℕ) (s : Sent) (stops : List Stop) → ((r : Stop) → P (visit_to place s r)) → All P (map (visit_to place s) stops)
visits_to-all P place s [] each = All-nil P
visits_to-all P place s (r ∷ stops) each = All-cons P (visit_to place s r) (map (visit_to place s) stops) (each r) (visits_to-all P place s stops each)

-- ---- the visits of packets

pub visits_from-both : (t : Table) (place : ℕ) (front back : List Sent)
    → visits_from t place (front ++ back) ≡ visits_from t place front ++ visits_from t (place + length front) back
unfolding visits_from
visits_from-both t place [] back = ap (λ (n : ℕ). visits_from t n back) (omega arith)
visits_from-both t place (s ∷ front) back =
    let n : suc place + length front ≡ place + suc (length front) = omega arith in
    ap (λ (visits : List Visit). map (visit_to place s) (stops_at t s.flow) ++ visits) (visits_from-both t (suc place) front back)
    ∙ sym (append_assoc (map (visit_to place s) (stops_at t s.flow)) (visits_from t (suc place) front) (visits_from t (suc place + length front) back))
    ∙ ap (λ (n : ℕ). (map (visit_to place s) (stops_at t s.flow) ++ visits_from t (suc place) front) ++ visits_from t n back) n

pub visits_from-behind : (t : Table) (least place : ℕ) (sent : List Sent) → least ≤ place → All (λ v. least ≤ v.place) (visits_from t place sent)
unfolding visits_from
visits_from-behind t least place [] below = All-nil (λ v. least ≤ v.place)
visits_from-behind t least place (s ∷ sent) below =
    All-append (λ v. least ≤ v.place) (map (visit_to place s) (stops_at t s.flow)) (visits_from t (suc place) sent)
    (visits_to-all (λ v. least ≤ v.place) place s (stops_at t s.flow) (λ r. below))
    (visits_from-behind t least (suc place) sent (omega (arith, below)))

pub visits_from-before : (t : Table) (place end : ℕ) (sent : List Sent) → place + length sent ≤ end → All (λ v. v.place < end) (visits_from t place sent)
unfolding visits_from
visits_from-before t place end [] short = All-nil (λ v. v.place < end)
visits_from-before t place end (s ∷ sent) short =
    All-append (λ v. v.place < end) (map (visit_to place s) (stops_at t s.flow)) (visits_from t (suc place) sent)
    (visits_to-all (λ v. v.place < end) place s (stops_at t s.flow) (λ r. omega (arith, short)))
    (visits_from-before t (suc place) end sent (omega (arith, short)))

later-from : (moment sent delay : ℕ) → moment < 2 ^ 63 → moment ≤ sent + delay → moment ≤ later sent delay
later-from moment sent delay short from = grind arith

pub later-timed : (sent delay : ℕ) → later sent delay < 2 ^ 63
later-timed sent delay = grind arith

visits_to-from : (moment place : ℕ) (s : Sent) (stops : List Stop) → moment < 2 ^ 63 → All (λ r. moment ≤ s.moment + r.delay) stops
    → All (λ v. moment ≤ v.moment) (map (visit_to place s) stops)
visits_to-from moment place s stops short come =
    All-map (λ v. moment ≤ v.moment) (visit_to place s) stops
    (All-weaker (λ (r : Stop). moment ≤ s.moment + r.delay) (λ (r : Stop). moment ≤ later s.moment r.delay) (λ r there. later-from moment s.moment r.delay short there) stops come)

abbrev ComesFrom : Table → ℕ → Sent → Type 0
ComesFrom t moment s = All (λ r. moment ≤ s.moment + r.delay) (stops_at t s.flow)

pub visits_from-from : (t : Table) (moment place : ℕ) (sent : List Sent) → moment < 2 ^ 63 → ComeFrom t moment sent → All (λ v. moment ≤ v.moment) (visits_from t place sent)
unfolding visits_from
visits_from-from t moment place [] short from = All-nil (λ v. moment ≤ v.moment)
visits_from-from t moment place (s ∷ sent) short from =
    All-append (λ v. moment ≤ v.moment) (map (visit_to place s) (stops_at t s.flow)) (visits_from t (suc place) sent)
    (visits_to-from moment place s (stops_at t s.flow) short (All-head (ComesFrom t moment) s sent from))
    (visits_from-from t moment (suc place) sent short (All-tail (ComesFrom t moment) s sent from))

-- ---- visits of other packets

apart_at : (v w : Visit) (next : ℕ) → v.place < next → next ≤ w.place → is_same v w ≡ false
apart_at v w next before behind = other (nat_eq v.place w.place) (nat_eq v.hop.number w.hop.number) (grind (arith, nat_tests))
  where
    other : (a b : Bool) → a ≡ false → (a && b) ≡ false
    other true b apart = absurd cc
    other false b apart = refl

-- visits of packets before a place, and those of packets from it on
pub apart_across : (next : ℕ) (xs ys : List Visit) → All (λ v. v.place < next) xs → All (λ w. next ≤ w.place) ys
    → AllByRecursion (λ v. AllByRecursion (λ w. is_same v w ≡ false) ys) xs
apart_across next xs ys before behind =
    recursion_from_All (λ v. AllByRecursion (λ w. is_same v w ≡ false) ys) xs
    (All-weaker (λ v. v.place < next) (λ v. AllByRecursion (λ w. is_same v w ≡ false) ys)
    (λ v here. recursion_from_All (λ w. is_same v w ≡ false) ys (All-weaker (λ w. next ≤ w.place) (λ w. is_same v w ≡ false) (λ w there. apart_at v w next here there) ys behind))
    xs before)
