-- The stops of each contract at its number.
use Rattle.std.proofs.Common.{◌≡◌, ◌⊎◌, inl, inr, ◌<◌, ◌≤◌, ◌*◌, ◌^◌, ℕ, List, [], map, sym, ap, ◌∙◌, arith, slice_get, unwrap_or}
use Rattle.std.specs.List.{range_with_len}
use Rattle.std.proofs.lemmas.List.Elements.{All-nil, All-same}
use Rattle.ds_checker.specs.Acceptance.{Table}
use Rattle.meter_fabric_base.specs.Grounds.{flow_count}
use Rattle.meter_fabric_base.proofs.GroundLaws.{contract_past}
use Rattle.meter_fabric_base.proofs.RangeLaws.{range_past, range_within}
use Rattle.ds_conductor_base.specs.Ways.{AreInReach, AreNear, AreWays, stops_at, stops_by, Stop}

stops_past : (t : Table) (flow : ℕ) → flow_count t ≤ flow → stops_at t flow ≡ []
stops_past t flow past = ap (stops_by t.domain flow) (contract_past t flow past)

way_by : (t : Table) (count flow : ℕ) → count ≡ flow_count t → flow < count ⊎ count ≤ flow
    → unwrap_or (slice_get (map (stops_at t) (range_with_len 0 count)) flow) [] ≡ stops_at t flow
way_by t count flow all (inl short) = ap (λ found. unwrap_or found []) (range_within (stops_at t) count flow short)
way_by t count flow all (inr past) = ap (λ found. unwrap_or found []) (range_past (stops_at t) count flow past) ∙ sym (stops_past t flow (omega (arith, past, all)))

-- the stops of all contracts that have a number
pub are_ways : (t : Table) (ways : List (List Stop)) (count : ℕ) → ways ≡ map (stops_at t) (range_with_len 0 count) → count ≡ flow_count t
    → AreWays t ways
are_ways t ways count made all flow = ap (λ found. unwrap_or (slice_get found flow) []) made ∙ way_by t count flow all (grind arith)

-- the stops of all contracts that have a number are near, and no other contract has stops
pub are_near : (t : Table) (count : ℕ) → ((flow : ℕ) → flow < count → AreNear (stops_at t flow)) → count ≡ flow_count t → AreInReach t
are_near t count near all flow = by_place (grind arith)
  where
    by_place : flow < count ⊎ count ≤ flow → AreNear (stops_at t flow)
    by_place (inl short) = near flow short
    by_place (inr past) = All-same (λ (stop : Stop). stop.delay ≤ 16 * 10 ^ 10) (stops_at t flow) [] (stops_past t flow (omega (arith, past, all))) (All-nil (λ (stop : Stop). stop.delay ≤ 16 * 10 ^ 10))
