-- What is known of the ground of a table and of that of a timeline: each contract stands at the place of its flow, and was
-- granted in a timeline that is covered.
use Rattle.std.proofs.Common.{Bor, ◌≡◌, ◌⊎◌, inl, inr, ◌≤◌, ◌<◌, ◌+◌, ◌-◌, ⊎_elim, ℕ, suc, Bool, true, false, List, [], ◌∷◌, map, length, Option, None, Some, refl, sym, ap, ◌∙◌, arith, nat_eq, nat_lt, find, is_some, option_map, option_and_then, slice_get, take, IfSome, IsSome, if◌then◌else◌, option_copied, length-take}
use Rattle.std.specs.List.{enumerate_from}
use Rattle.std.specs.Map.{values_of}
use Rattle.std.proofs.lemmas.Bool.{false≢true}
use Rattle.std.proofs.lemmas.Bool.Decides.{nat_tests}
use Rattle.std.proofs.lemmas.List.FromFn.{length-enumerate_from}
use Rattle.std.proofs.lemmas.Map.Entries.{length-values_of}
use Rattle.std.proofs.lemmas.Option.{slice_get-map, slice_get_within}
use Rattle.ds_domain_base.specs.declared.contract.Contract.{Contract}
use Rattle.ds_domain_base.specs.Routes.{route_of}
use Rattle.ds_checker.specs.Acceptance.{IsAcceptable, Table}
use Rattle.ds_timeline.specs.Constant.{timeline_of}
use Rattle.ds_timeline.specs.Kept.{IsNumbered}
use Rattle.ds_timeline.specs.Timelines.{AreRated, IsCovered, Timeline, reservation_of, route_in}
use Rattle.ds_timeline.specs.declared.reservation.Reservation.{Reservation}
use Rattle.ds_timeline.proofs.ConstantLaws.{covered-constant}
use Rattle.ds_timeline.proofs.ReservedLaws.{granted-constant, rated-constant}
use Rattle.meter_fabric_base.specs.Grounds.{Ground, contract_of, flow_count, ground_of, most_flows}
use Rattle.meter_fabric_base.specs.Openings.{edge_opening, opening_at}
use Rattle.meter_fabric_base.proofs.GroundLaws.{found_from-at, place_of}
use Rattle.run_audit.specs.Bases.{IsCounted, IsGranted, ground_along, route_at, site_count}

-- ---- each contract stands at the place of its flow

values-counted : {X : Type 0} (n : ℕ) (xs : List X) → values_of (enumerate_from n xs) ≡ xs
values-counted n [] = refl
values-counted n (x ∷ xs) = ap (λ ys. x ∷ ys) (values-counted (n + 1) xs)

pub table_counted : (t : Table) → IsCounted (ground_of t)
table_counted t = ap (enumerate_from 0) (sym (values-counted 0 _))

pub value_along : (rs : List Reservation) (flow : ℕ)
    → slice_get (values_of (map (λ (r : Reservation). (r.flow, r.contract)) rs)) flow ≡ option_map (λ (r : Reservation). r.contract) (slice_get rs flow)
value_along rs flow = ap (λ cs. slice_get cs flow) (values rs) ∙ slice_get-map (λ (r : Reservation). r.contract) rs flow
  where
    values : (all : List Reservation) → values_of (map (λ (r : Reservation). (r.flow, r.contract)) all) ≡ map (λ (r : Reservation). r.contract) all
    values [] = refl
    values (r ∷ all) = ap (λ cs. r.contract ∷ cs) (values all)

counted_from : (n : ℕ) (rs : List Reservation) → IsNumbered n rs
    → map (λ r. (r.flow, r.contract)) rs ≡ enumerate_from n (values_of (map (λ r. (r.flow, r.contract)) rs))
unfolding IsNumbered
counted_from n [] numbered = refl
counted_from n (r ∷ rs) numbered =
    let next : suc n ≡ n + 1 = omega arith in
    let rest = values_of (map (λ (x : Reservation). (x.flow, x.contract)) rs) in
    ap (λ entries. (r.flow, r.contract) ∷ entries) (counted_from (suc n) rs numbered.1 ∙ ap (λ m. enumerate_from m rest) next)
    ∙ ap (λ flow. (flow, r.contract) ∷ enumerate_from (n + 1) rest) numbered.0

pub line_counted : (t : Timeline) → IsNumbered 0 t.reservations → IsCounted (ground_along t)
line_counted t numbered = counted_from 0 t.reservations numbered

pub counted_at : (g : Ground) (flow : ℕ) → IsCounted g → contract_of g flow ≡ slice_get (values_of g.contracts) flow
counted_at g flow counted =
    let place : flow ≡ 0 + flow = omega arith in
    ap (λ entries. option_map (λ entry. entry.1) (find (λ entry. nat_eq entry.0 flow) entries)) counted
    ∙ ap (λ n. option_map (λ entry. entry.1) (find (λ entry. nat_eq entry.0 n) (enumerate_from 0 (values_of g.contracts)))) place
    ∙ found_from-at 0 (values_of g.contracts) flow

-- where there is a contract, there is its route
pub route_there : {X Y : Type 0} (c : Option X) (r : Option Y) (f : X → Y) → r ≡ option_map f c → IsSome c → IsSome r
route_there None r f is there = absurd (false≢true there)
route_there (Some x) r f is there = rw is refl

slice_get_below : {X : Type 0} (xs : List X) (i : ℕ) → is_some (slice_get xs i) ≡ true → i < length xs
slice_get_below {X} xs i some = by_found (slice_get xs i) refl some
  where
    by_found : (found : Option X) → slice_get xs i ≡ found → is_some found ≡ true → i < length xs
    by_found None e there = absurd (false≢true there)
    by_found (Some x) e there = slice_get_within xs i x e

pub counted_below : (g : Ground) (flow : ℕ) → IsCounted g → is_some (contract_of g flow) ≡ true → flow < length g.contracts
counted_below g flow counted some =
    omega (arith, slice_get_below (values_of g.contracts) flow (ap is_some (sym (counted_at g flow counted)) ∙ some), length-values_of g.contracts)

either_some : {A : Type 0} (low : Bool) (first second : Option A) → is_some (if low then first else second) ≡ true → (low ≡ true) ⊎ (is_some second ≡ true)
either_some true first second some = inl refl
either_some false first second some = inr some

and_then_some : {A B : Type 0} (f : A → Option B) (found : Option A) → is_some (option_and_then f found) ≡ true → is_some found ≡ true
and_then_some f None some = some
and_then_some f (Some x) some = refl

low_test : (a b : ℕ) → nat_lt a b ≡ true → a < b
low_test a b low = grind (arith, nat_tests)

-- a flow has a number that packets can be of
pub numbered_some : {X : Type 0} (found : Option X) (g : Ground) (flow : ℕ) → IsCounted g → length g.contracts ≤ most_flows
    → is_some found ≡ is_some (contract_of g flow) → IfSome found (λ x. flow < most_flows)
numbered_some None g flow counted few same = tt
numbered_some (Some x) g flow counted few same = omega (arith, counted_below g flow counted (sym same), few)

pub some_copied : {X : Type 0} (found : Option (Bor X)) → is_some (option_copied found) ≡ is_some found
some_copied None = refl
some_copied (Some x) = refl

pub table_length : (t : Table) → flow_count t ≡ length (ground_of t).contracts
table_length t =
    let flows = take most_flows t.contracts in
    omega (arith, length-enumerate_from 0 flows, length-take most_flows t.contracts)

pub table_few : (t : Table) → length (ground_of t).contracts ≤ most_flows
table_few t = omega (arith, table_length t)

-- something stands only at the first numbers
pub opening_below : (g : Ground) (site : ℕ) → IsCounted g → IsSome (opening_at g site) → site < site_count g
opening_below g site counted some =
    ⊎_elim
    (λ low. omega (arith, low_test site (length g.domain.meters) low))
    (λ there.
    let place = site - length g.domain.meters in
    omega (arith, counted_below g place counted (and_then_some (edge_opening g.domain) (contract_of g place) there)))
    (either_some (nat_lt site (length g.domain.meters)) _ _ some)

-- ---- the contracts of a timeline

abbrev SameAt : ℕ → List Reservation → Type 0
SameAt flow rs =
    option_map (λ (e : ℕ × Contract). e.1) (find (λ (e : ℕ × Contract). nat_eq e.0 flow) (map (λ (r : Reservation). (r.flow, r.contract)) rs))
    ≡ option_map (λ (r : Reservation). r.contract) (find (λ (r : Reservation). nat_eq r.flow flow) rs)

same_at : (flow : ℕ) (rs : List Reservation) → SameAt flow rs
same_at flow [] = refl
same_at flow (r ∷ rs) = by_test (nat_eq r.flow flow) refl (same_at flow rs)
  where
    by_test : (b : Bool) → nat_eq r.flow flow ≡ b → SameAt flow rs → SameAt flow (r ∷ rs)
    by_test true own rest = rw own refl
    by_test false other rest = rw other rest

pub line_at : (t : Timeline) (flow : ℕ) → contract_of (ground_along t) flow ≡ option_map (λ r. r.contract) (reservation_of t flow)
line_at t flow = same_at flow t.reservations

pub line_route : (t : Timeline) (flow : ℕ) → option_map (route_in t.domain) (reservation_of t flow) ≡ route_at (ground_along t) flow
line_route t flow = twice (reservation_of t flow) ∙ ap (option_map (route_of t.domain)) (sym (line_at t flow))
  where
    twice : (o : Option Reservation) → option_map (route_in t.domain) o ≡ option_map (route_of t.domain) (option_map (λ r. r.contract) o)
    twice None = refl
    twice (Some r) = refl

pub line_granted : (t : Timeline) → IsCovered t → AreRated t → IsGranted (ground_along t)
line_granted t covered rated =
    (t, covered, rated, record { domain = refl; contracts = λ flow c is. sym (line_at t flow) ∙ is })

-- ---- the contracts of a table that is never changed

pub table_granted : (t : Table) → IsAcceptable t → IsGranted (ground_of t)
table_granted t met = (
  timeline_of t,
  covered-constant t met,
  rated-constant t,
  record { domain = refl; contracts = λ flow c is. granted-constant t met flow c (place_of t flow c is).1 },
)
