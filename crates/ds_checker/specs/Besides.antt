-- A table as the route of one contract more sees it, with one of the table's own contracts left out.
use Rattle.std.specs.Prelude.{◌≡◌, ⊤, ℕ, ◌≤◌, Bool, ◌^◌, List, [], length, nat_eq, take, bytes_eq, IfSome, IsTrue, Option, None, Some}
use Rattle.std.specs.List.{AllByRecursion, IsDistinct}
use Rattle.std.specs.Option.{option_map_or}
use Rattle.std.specs.Map.{keys_of}
use Rattle.ds_domain_base.specs.Routes.{AreInside, IsRoute, Route, places_of, route_of}
use Rattle.ds_domain_base.specs.declared.contract.Contract.{Contract}
use Rattle.ds_domain_base.specs.declared.route.Leg.{Leg}
use Rattle.ds_certificate.specs.Bounds.{fits}
use Rattle.ds_certificate.specs.Columns.{Bound}
use Rattle.ds_certificate.specs.Sources.{source_on}
use Rattle.ds_certificate.specs.declared.source.Source.{Source}
use Rattle.ds_checker.specs.Acceptance.{IsAcceptable, Table}
use Rattle.ds_checker.specs.Changes.{without_contract}
use Rattle.ds_checker.specs.Loads.{Share}
use Rattle.ds_checker.specs.Routed.{bound_at, sums_on, with_legs}
use Rattle.ds_checker.specs.Sums.{AreBelow, IsSound, loads_of, share_by}
use Rattle.ds_checker.specs.declared.load.Loads.{Loads}
use Rattle.ds_checker.specs.declared.refusal.Refusal.{Refusal}
use Rattle.ds_checker.specs.declared.refusal.Refusal.TheVariants as refusals

-- a table without the contract at a place, if one is to be left out
abbrev pub rest_of : Table → Option ℕ → Table
rest_of t left_out = option_map_or (without_contract t) left_out t

-- a contract beside a table that does not hold it
pub record Offer : Type 0 where
  pub table : Table
  pub contract : Contract

-- a refusal that names no contract of the table
abbrev pub IsNameless : Refusal → Type 0
IsNameless (refusals.FirstBound contract column needed given) = ⊥
IsNameless (refusals.HopBound contract hop column needed given) = ⊥
IsNameless refusal = ⊤

-- what a contract brings along its route, by the bounds of the hops into its meters
pub record Brought : Type 0 where
  pub legs : List Leg
  pub bounds : List Bound
  pub source : Source
  pub has_peak : Bool

-- nothing where no contract is left out
abbrev pub brought_at : ℕ → Option Brought → List Share
brought_at place None = []
brought_at place (Some held) = share_by held.source held.has_peak (bound_at place held.legs held.bounds)

abbrev pub with_held : Option Brought → List Loads → List Loads
with_held None sums = sums
with_held (Some held) sums = with_legs held.source held.has_peak held.legs held.bounds sums

-- sums are what they were before what a contract brings was added along its route, and those were small
pub record IsLeft (held : Option Brought) (sums before : List Loads) : Type 0 where
  pub added : sums ≡ with_held held before
  pub once : IfSome held (λ own. IsDistinct nat_eq (places_of own.legs))
  pub room : AllByRecursion (AreBelow (2 ^ 120)) before

-- the sums at the meters of legs: those of a table, or what is left of them
abbrev pub along_of : List Leg → List Loads → Option (List Loads) → List Loads
along_of legs table None = sums_on legs table
along_of legs table (Some left) = take (length legs) left

-- there are at most 16 legs, each to a meter that the table has sums of
abbrev pub HasPlaces : List Leg → List Loads → Type 0
HasPlaces legs table = (length legs ≤ 16) × AreInside (length table) legs

-- a contract fits the domain of a table, this is its route, and these are the sums of the rest of that table along it
pub record IsBeside (t : Table) (left_out : Option ℕ) (c : Contract) (route : Route) (sums : List Loads) : Type 0 where
  pub fit : IsTrue (fits t.domain c)
  pub is_route : route ≡ route_of t.domain c
  pub sound : IsSound (rest_of t left_out) (loads_of (rest_of t left_out))
  pub is_sums : sums ≡ sums_on route.legs (loads_of (rest_of t left_out))
  pub room : AllByRecursion (AreBelow (2 ^ 120)) sums

-- a contract fits the domain of a table that is acceptable: its route comes to no meter twice, it has a rate, and the
-- names of meters are apart
pub record IsOffered (o : Offer) : Type 0 where
  pub acceptable : IsAcceptable o.table
  pub fit : IsTrue (fits o.table.domain o.contract)
  pub route : IsRoute (route_of o.table.domain o.contract)
  pub least : 1 ≤ (source_on o.table.domain (route_of o.table.domain o.contract) o.contract.terms).green.rate
  pub apart : IsDistinct bytes_eq (keys_of o.table.domain.meters)
