-- No two visits are those of one packet to one hop.
use Rattle.std.proofs.Common.{◌≡◌, ◌<◌, ℕ, suc, Bool, true, false, List, [], ◌∷◌, ◌++◌, map, Option, None, Some, refl, arith, ◌&&◌, nat_eq}
use Rattle.std.specs.List.{AllByRecursion, IsDistinct}
use Rattle.std.proofs.lemmas.Bool.Decides.{nat_tests}
use Rattle.ds_domain_base.specs.Domains.{Domain}
use Rattle.ds_domain_base.specs.declared.contract.Contract.{Contract}
use Rattle.ds_domain_base.specs.declared.terms.Terms.{Terms}
use Rattle.ds_domain_base.specs.declared.terms.Terms.TheVariants.{Trusted, Policed}
use Rattle.ds_checker.specs.Acceptance.{Table}
use Rattle.meter_fabric_base.specs.Grounds.{contract_of, ground_of}
use Rattle.ds_conductor_base.specs.Visits.{is_same, visit_to, visits_from}
use Rattle.ds_conductor_base.specs.Ways.{delay_over, edge_stops, stops_along, stops_at, stops_by, Stop}
use Rattle.ds_conductor_base.specs.declared.sent.Sent.{Sent}
use Rattle.ds_conductor_base.specs.declared.visit.Visit.{Visit}

-- ---- tests of numbers

below_apart : (m n : ℕ) → m < n → nat_eq m n ≡ false
below_apart m n below = grind (arith, nat_tests)

first_apart : (a b : Bool) → a ≡ false → (a && b) ≡ false
first_apart true b apart = absurd cc
first_apart false b apart = refl

second_apart : (a b : Bool) → b ≡ false → (a && b) ≡ false
second_apart true b apart = apart
second_apart false b apart = refl

-- ---- two lists, one behind the other

all_both : {A : Type 0} (P : A → Type 0) (xs ys : List A) → AllByRecursion P xs → AllByRecursion P ys → AllByRecursion P (xs ++ ys)
all_both P [] ys first next = next
all_both P (x ∷ xs) ys first next = (first.0, all_both P xs ys first.1 next)

all_still : {A : Type 0} (P Q : A → Type 0) → ((x : A) → P x → Q x) → (xs : List A) → AllByRecursion P xs → AllByRecursion Q xs
all_still P Q still [] all = tt
all_still P Q still (x ∷ xs) all = (still x all.0, all_still P Q still xs all.1)

pub distinct_both : {A : Type 0} (same : A → A → Bool) (xs ys : List A) → IsDistinct same xs → IsDistinct same ys
    → AllByRecursion (λ x. AllByRecursion (λ y. same x y ≡ false) ys) xs → IsDistinct same (xs ++ ys)
unfolding IsDistinct
distinct_both same [] ys first next across = next
distinct_both same (x ∷ xs) ys first next across =
    (all_both (λ y. same x y ≡ false) xs ys first.0 across.0, distinct_both same xs ys first.1 next across.1)

-- ---- the stops of a contract

abbrev same_hop : Stop → Stop → Bool
same_hop r s = nat_eq r.hop.number s.hop.number

numbered_from : (d : Domain) (n number : ℕ) (from : List ℕ) (delay : ℕ) (path : List (List ℕ)) → n < number
    → AllByRecursion (λ s. nat_eq n s.hop.number ≡ false) (stops_along d number from delay path)
unfolding stops_along
numbered_from d n number from delay [] below = tt
numbered_from d n number from delay (to ∷ path) below = (
  below_apart n number below,
  numbered_from d n (suc number) to (delay_over d from to delay) path (omega (arith, below)),
)

stops_along-differ : (d : Domain) (number : ℕ) (from : List ℕ) (delay : ℕ) (path : List (List ℕ)) → IsDistinct same_hop (stops_along d number from delay path)
unfolding stops_along IsDistinct
stops_along-differ d number from delay [] = tt
stops_along-differ d number from delay (to ∷ path) = (
  numbered_from d number (suc number) to (delay_over d from to delay) path (omega arith),
  stops_along-differ d (suc number) to (delay_over d from to delay) path,
)

edge_differs : (d : Domain) (flow : ℕ) (terms : Terms) (stops : List Stop) → AllByRecursion (λ s. nat_eq 0 s.hop.number ≡ false) stops
    → IsDistinct same_hop stops → IsDistinct same_hop (edge_stops d flow terms ++ stops)
unfolding IsDistinct
edge_differs d flow (Trusted committed peak) stops behind apart = apart
edge_differs d flow (Policed parameters mode) stops behind apart = (behind, apart)

stops_by-differ : (d : Domain) (flow : ℕ) (c : Option Contract) → IsDistinct same_hop (stops_by d flow c)
unfolding IsDistinct
stops_by-differ d flow None = tt
stops_by-differ d flow (Some c) =
    edge_differs d flow c.terms (stops_along d 1 c.port 0 c.path) (numbered_from d 0 1 c.port 0 c.path (omega arith)) (stops_along-differ d 1 c.port 0 c.path)

-- ---- the visits of a packet

visits_apart : (place : ℕ) (s : Sent) (r : Stop) (stops : List Stop) → AllByRecursion (λ q. same_hop r q ≡ false) stops
    → AllByRecursion (λ w. is_same (visit_to place s r) w ≡ false) (map (visit_to place s) stops)
visits_apart place s r [] apart = tt
visits_apart place s r (q ∷ stops) apart = (second_apart (nat_eq place place) (same_hop r q) apart.0, visits_apart place s r stops apart.1)

packet_differs : (place : ℕ) (s : Sent) (stops : List Stop) → IsDistinct same_hop stops → IsDistinct is_same (map (visit_to place s) stops)
unfolding IsDistinct
packet_differs place s [] apart = tt
packet_differs place s (r ∷ stops) apart = (visits_apart place s r stops apart.0, packet_differs place s stops apart.1)

-- ---- the visits of packets

placed_at : (p place : ℕ) (s : Sent) (stops : List Stop) → p < place → AllByRecursion (λ w. nat_eq p w.place ≡ false) (map (visit_to place s) stops)
placed_at p place s [] below = tt
placed_at p place s (r ∷ stops) below = (below_apart p place below, placed_at p place s stops below)

placed_from : (t : Table) (p place : ℕ) (sent : List Sent) → p < place → AllByRecursion (λ w. nat_eq p w.place ≡ false) (visits_from t place sent)
unfolding visits_from
placed_from t p place [] below = tt
placed_from t p place (s ∷ sent) below =
    all_both (λ w. nat_eq p w.place ≡ false) (map (visit_to place s) (stops_at t s.flow)) (visits_from t (suc place) sent)
    (placed_at p place s (stops_at t s.flow) below)
    (placed_from t p (suc place) sent (omega (arith, below)))

across : (place : ℕ) (s : Sent) (stops : List Stop) (others : List Visit) → AllByRecursion (λ w. nat_eq place w.place ≡ false) others
    → AllByRecursion (λ v. AllByRecursion (λ w. is_same v w ≡ false) others) (map (visit_to place s) stops)
across place s [] others apart = tt
across place s (r ∷ stops) others apart = (
  all_still (λ w. nat_eq place w.place ≡ false) (λ w. is_same (visit_to place s r) w ≡ false)
      (λ w other. first_apart (nat_eq place w.place) (nat_eq r.hop.number w.hop.number) other) others apart,
  across place s stops others apart,
)

pub visits_differ : (t : Table) (place : ℕ) (sent : List Sent) → IsDistinct is_same (visits_from t place sent)
unfolding visits_from IsDistinct
visits_differ t place [] = tt
visits_differ t place (s ∷ sent) =
    distinct_both is_same (map (visit_to place s) (stops_at t s.flow)) (visits_from t (suc place) sent)
    (packet_differs place s (stops_at t s.flow) (stops_by-differ t.domain s.flow (contract_of (ground_of t) s.flow)))
    (visits_differ t (suc place) sent)
    (across place s (stops_at t s.flow) (visits_from t (suc place) sent) (placed_from t place (suc place) sent (omega arith)))
