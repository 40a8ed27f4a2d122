-- What an audited run stands on: a table that stays as it is, or a timeline of contracts that come and go.
use Rattle.std.specs.Prelude.{◌≡◌, ℕ, ◌+◌, length, map, option_map, Option}
use Rattle.std.specs.List.{enumerate_from}
use Rattle.std.specs.Map.{values_of}
use Rattle.ds_domain_base.specs.Routes.{Route, route_of}
use Rattle.ds_timeline.specs.Timelines.{AreRated, IsCovered, Timeline}
use Rattle.meter_fabric_base.specs.Grounds.{Ground, contract_of, ground_of}
use Rattle.run_audit.specs.KeptColours.{WasGranted}
use Rattle.run_audit.specs.declared.basis.Ground as bases
use Rattle.run_audit.specs.declared.basis.Ground.TheVariants.{Table, Line}

-- a timeline as a ground: every contract that was ever granted, behind its flow
abbrev pub ground_along : Timeline → Ground
ground_along t = record { domain = t.domain; contracts = map (λ r. (r.flow, r.contract)) t.reservations }

-- the ground of either
abbrev pub basis_of : bases.Ground → Ground
basis_of (Table accepted) = ground_of accepted.now
basis_of (Line timeline) = ground_along timeline.now

-- the route of the contract of a flow, if there is one
abbrev pub route_at : Ground → ℕ → Option Route
route_at g flow = option_map (route_of g.domain) (contract_of g flow)

-- the flow of each contract is its place
abbrev pub IsCounted : Ground → Type 0
IsCounted g = g.contracts ≡ enumerate_from 0 (values_of g.contracts)

-- the contracts were all granted in a timeline that is covered, in which what was retired had rates
abbrev pub IsGranted : Ground → Type 0
IsGranted g = (t : Timeline) × IsCovered t × AreRated t × WasGranted t g

-- how many numbers the sites have: one for each meter, then one for each contract
abbrev pub site_count : Ground → ℕ
site_count g = length g.domain.meters + length g.contracts
