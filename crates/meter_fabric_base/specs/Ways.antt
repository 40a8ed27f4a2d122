-- The way of a packet as sites one behind the other, and the ways of the packets of all contracts.
use Rattle.std.specs.Prelude.{ℕ, suc, List, [], ◌∷◌, map, option_map, unwrap_or}
use Rattle.std.specs.List.{range_with_len}
use Rattle.meter_fabric_base.specs.Grounds.{Ground, contract_of, flow_count, ground_of}
use Rattle.meter_fabric_base.specs.Numbered.{numbered_ground}
use Rattle.meter_fabric_base.specs.Sites.{hops_of}
use Rattle.meter_fabric_base.specs.declared.hop.Hop.{Hop}
use Rattle.meter_fabric_base.specs.declared.way.Over.{Over}
use Rattle.meter_fabric_base.specs.declared.way.Over.TheVariants.{Placed, Numbered}

-- sites in order, of which the first is the hop of this number
unfoldable pub hops_from : ℕ → List ℕ → List Hop
hops_from number [] = []
hops_from number (site ∷ sites) = record { number = number; site = site } ∷ hops_from (suc number) sites

-- the hops of the packets of a flow; none where there is no such contract
abbrev pub way_at : Ground → ℕ → List Hop
way_at g flow = unwrap_or (option_map (hops_of g.domain flow) (contract_of g flow)) []

-- what ways are over, as a ground
abbrev pub ground_over : Over → Ground
ground_over (Placed accepted) = ground_of accepted.now
ground_over (Numbered n) = numbered_ground n.accepted.now n.flows.now

-- the flows of its contracts, each at its place
abbrev pub flows_over : Over → List ℕ
flows_over (Placed accepted) = range_with_len 0 (flow_count accepted.now)
flows_over (Numbered n) = n.flows.now

-- the ways of the packets of each
abbrev pub ways_over : Over → List (List Hop)
ways_over over = map (way_at (ground_over over)) (flows_over over)
