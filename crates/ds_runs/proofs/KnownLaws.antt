-- What is known of the contracts of an acceptable table and of the stops of their packets.
use Rattle.std.proofs.Common.{◌≡◌, ◌≤◌, ℕ, zero, suc, Bool, true, false, List, [], ◌∷◌, length, length-append, Option, None, Some, refl, ap, subst, arith, ◌||◌, is_none, nat_eq, nat_lt, slice_get, IsSome, if◌then◌else◌, All, filter}
use Rattle.std.proofs.lemmas.Bool.Decides.{nat_tests}
use Rattle.std.proofs.lemmas.List.Elements.{All-nil}
use Rattle.ds_domain_base.specs.Domains.{Domain}
use Rattle.ds_domain_base.specs.declared.contract.Contract.{Contract}
use Rattle.ds_domain_base.specs.declared.fault.DomainFault.{DomainFault}
use Rattle.ds_certificate.specs.Bounds.{IsCertificate, fits}
use Rattle.ds_certificate.specs.Columns.{Bound}
use Rattle.ds_checker.specs.Acceptance.{IsAcceptable, Table}
use Rattle.meter_fabric_base.specs.Grounds.{contract_of, ground_of}
use Rattle.meter_fabric_base.specs.Openings.{opening_at}
use Rattle.meter_fabric_base.proofs.GroundLaws.{place_of}
use Rattle.run_audit.proofs.Places.{fits_names, meters_known}
use Rattle.ds_conductor_base.specs.Ways.{delay_over, edge_stops, stops_along, stops_at, stops_by, stops_of, Stop}
use Rattle.ds_conductor_base.specs.declared.sent.Sent.{Sent}
use Rattle.ds_runs.specs.Behind.{AreSendable}
use Rattle.ds_runs.proofs.MadeLaws.{AreKnown}
use Rattle.ds_runs.proofs.StopLaws.{at_site, stops-once, stops-there}

-- ---- contracts that fit

certified_fits : (d : Domain) (contracts : List Contract) (certificate : List (List Bound)) (place : ℕ) (c : Contract)
    → IsCertificate d contracts certificate → slice_get contracts place ≡ Some c → fits d c ≡ true
certified_fits d [] certificate place c good is = absurd cc
certified_fits d (x ∷ contracts) [] place c good is = absurd good
certified_fits d (x ∷ contracts) (bounds ∷ certificate) zero c good is =
    let same : x ≡ c = cc in
    subst (λ (known : Contract). fits d known ≡ true) same good.0.0.0
certified_fits d (x ∷ contracts) (bounds ∷ certificate) (suc place) c good is = certified_fits d contracts certificate place c good.1 is

pub known_fits : (t : Table) (flow : ℕ) (c : Contract) → IsAcceptable t → contract_of (ground_of t) flow ≡ Some c → fits t.domain c ≡ true
known_fits t flow c good is = certified_fits t.domain t.contracts t.certificate flow c good.0 (place_of t flow c is).1

second_fails : (first second : Bool) (one other : DomainFault) (rest : Option DomainFault)
    → is_none (if first then Some one else if second then Some other else rest) ≡ true → second ≡ false
second_fails true second one other rest none = absurd cc
second_fails false true one other rest none = absurd cc
second_fails false false one other rest none = refl

long_test : (long : ℕ) → (nat_eq long 0 || nat_lt 16 long) ≡ false → 1 ≤ long
long_test long fails = grind (arith, nat_tests)

fits_long : (d : Domain) (c : Contract) → fits d c ≡ true → 1 ≤ length c.path
fits_long d c good = long_test (length c.path) (second_fails _ _ _ _ _ good)

-- ---- their stops

length-along : (d : Domain) (number : ℕ) (from : List ℕ) (delay : ℕ) (path : List (List ℕ)) → length (stops_along d number from delay path) ≡ length path
unfolding stops_along
length-along d number from delay [] = refl
length-along d number from delay (to ∷ path) = ap suc (length-along d (suc number) to (delay_over d from to delay) path)

stops_of-long : (d : Domain) (flow : ℕ) (c : Contract) → 1 ≤ length c.path → 1 ≤ length (stops_of d flow c)
stops_of-long d flow c long =
    let all = length-append (edge_stops d flow c.terms) (stops_along d 1 c.port 0 c.path) in
    omega (arith, all, length-along d 1 c.port 0 c.path, long)

module _ (t : Table) (good : IsAcceptable t) (flow : ℕ) where
  stand_by : (found : Option Contract) → contract_of (ground_of t) flow ≡ found → All (λ (r : Stop). IsSome (opening_at (ground_of t) r.hop.site)) (stops_by t.domain flow found)
  stand_by None is = All-nil (λ (r : Stop). IsSome (opening_at (ground_of t) r.hop.site))
  stand_by (Some c) is =
      stops-there (ground_of t) flow c is (meters_known t.domain c.path (fits_names t.domain c (known_fits t flow c good is)).0)

  once_by : (site : ℕ) (found : Option Contract) → contract_of (ground_of t) flow ≡ found → length (filter (at_site site) (stops_by t.domain flow found)) ≤ 1
  once_by site None is = omega arith
  once_by site (Some c) is =
      let names = fits_names t.domain c (known_fits t flow c good is) in
      stops-once t.domain site flow c (meters_known t.domain c.path names.0) names.1

  long_by : (found : Option Contract) → contract_of (ground_of t) flow ≡ found → IsSome found → 1 ≤ length (stops_by t.domain flow found)
  long_by None is known = absurd cc
  long_by (Some c) is known = stops_of-long t.domain flow c (fits_long t.domain c (known_fits t flow c good is))

  -- the packets of a contract come to a meter
  pub stops-long : IsSome (contract_of (ground_of t) flow) → 1 ≤ length (stops_at t flow)
  stops-long known = long_by (contract_of (ground_of t) flow) refl known

pub are_known : (t : Table) (sent : List Sent) → IsAcceptable t → AreSendable t sent → AreKnown t sent
are_known t sent good sendable = record {
  stand = λ flow. stand_by t good flow (contract_of (ground_of t) flow) refl;
  once = λ site flow. once_by t good flow site (contract_of (ground_of t) flow) refl;
  sendable = sendable;
}
