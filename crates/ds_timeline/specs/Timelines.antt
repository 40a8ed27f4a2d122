-- Contracts that come and go: every contract that was ever granted in a domain, and which are reserved at a moment.
use Rattle.std.specs.Prelude.{◌≡◌, ℕ, ◌+◌, ◌≤◌, Bool, false, not, ◌&&◌, nat_eq, nat_le, List, map, filter, find, All, AllPairs, Option, None, Some, IsSomeAnd}
use Rattle.std.specs.Option.{ForSome}
use Rattle.ds_certificate.specs.Rates.{HasRates}
use Rattle.ds_domain_base.specs.Domains.{Domain}
use Rattle.ds_domain_base.specs.Routes.{Route, route_of}
use Rattle.ds_checker.specs.Acceptance.{IsAcceptable, Table}
use Rattle.ds_checker.specs.Holds.{hold_of}
use Rattle.ds_timeline.specs.declared.reservation.Reservation.{Reservation}

-- every contract that was ever granted in a domain, in the order of the grants
pub record Timeline : Type 0 where
  pub domain : Domain
  pub reservations : List Reservation

-- a moment has come by another, if there is one
abbrev pub is_by : ℕ → Option ℕ → Bool
is_by moment None = false
is_by moment (Some earlier) = nat_le earlier moment

-- a share is reserved from its first moment on until before its retirement
abbrev pub is_reserved : Reservation → ℕ → Bool
is_reserved r moment = nat_le r.from moment && not (is_by moment r.retirement)

-- those that are reserved at a moment, in the order of their grants
abbrev pub reserved_at : Timeline → ℕ → List Reservation
reserved_at t moment = filter (λ r. is_reserved r moment) t.reservations

-- contracts with their bounds, as a table
abbrev pub table_by : Domain → List Reservation → Table
table_by d reservations = record {
  domain = d;
  contracts = map (λ r. r.contract) reservations;
  certificate = map (λ r. r.bounds) reservations;
}

-- the table of a moment: those that are reserved then
abbrev pub table_at : Timeline → ℕ → Table
table_at t moment = table_by t.domain (reserved_at t moment)

-- the route of a reservation's contract, and those of some
abbrev pub route_in : Domain → Reservation → Route
route_in d r = route_of d r.contract

abbrev pub routes_in : Domain → List Reservation → List Route
routes_in d reservations = map (route_in d) reservations

-- how long a share is held once its contract has ended
abbrev pub hold_in : Domain → Reservation → ℕ
hold_in d r = hold_of d r.contract r.bounds

-- a share may be given to others from a moment on: its contract has ended, and its hold has passed behind the end
abbrev pub IsFreeBy : Domain → Reservation → ℕ → Type 0
IsFreeBy d r moment = IsSomeAnd r.contract.lifetime.until (λ until. until + hold_in d r ≤ moment)

-- no share is retired before
abbrev pub IsHeld : Domain → Reservation → Type 0
IsHeld d r = ForSome r.retirement (IsFreeBy d r)

-- What was retired has a rate in each column, so that there is a time in which that alone gives its burst.
abbrev pub IsRated : Domain → Reservation → Type 0
IsRated d r = ForSome r.retirement (λ moment. HasRates d r.contract)

abbrev pub AreRated : Timeline → Type 0
AreRated t = All (IsRated t.domain) t.reservations

-- Covered: flows differ, a contract sends from its reservation on at the earliest, a share is held until it is free,
-- and at any moment what is reserved is acceptable.
pub record IsCovered (t : Timeline) : Type 0 where
  pub apart : AllPairs (λ r s. ¬ (r.flow ≡ s.flow)) t.reservations
  pub begun : All (λ r. r.from ≤ r.contract.lifetime.since) t.reservations
  pub held : All (IsHeld t.domain) t.reservations
  pub acceptable : (moment : ℕ) → IsAcceptable (table_at t moment)

-- the reservation of a flow, if there is one
abbrev pub reservation_of : Timeline → ℕ → Option Reservation
reservation_of t flow = find (λ r. nat_eq r.flow flow) t.reservations
