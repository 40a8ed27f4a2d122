-- What runs stand on where contracts have flows of their own.
use Rattle.std.specs.Prelude.{◌≡◌, ◌<◌, ℕ, nat_lt, List, length, slice_index, filter, zip}
use Rattle.ds_checker.specs.Acceptance.{Table}
use Rattle.meter_fabric_base.specs.Grounds.{Ground, most_flows}

-- a table whose contracts have flows of their own, as a ground: of the flows, those that packets can be of
abbrev pub numbered_ground : Table → List ℕ → Ground
numbered_ground t flows =
    record { domain = t.domain; contracts = filter (λ entry. nat_lt entry.0 most_flows) (zip flows t.contracts) }

-- a flow that packets can be of stands at a place among the flows
pub record IsPlaceOf (flow : ℕ) (flows : List ℕ) (place : ℕ) : Type 0 where
  pub low : flow < most_flows
  pub within : place < length flows
  pub here : slice_index flows place ≡ flow
