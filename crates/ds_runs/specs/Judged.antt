-- The verdict on packets that are sent, where each link takes its floor and one worker makes all visits in their order:
-- the first premise that they break, in the order of time, source and skew. Each link is kept, since it takes its floor.
use Rattle.std.specs.Prelude.{ℕ, ◌+◌, ◌-◌, ◌&&◌, nat_eq, nat_le, Bool, if◌then◌else◌, List, map, filter, slice_get, option_map, option_and_then, unwrap_or, Option, None, Some}
use Rattle.std.specs.List.{range_with_len}
use Rattle.moment_core.specs.Columns.{counts, each_column}
use Rattle.moment_core.specs.declared.column.Column.{Column}
use Rattle.envelope_core.specs.Curve.{Curve}
use Rattle.envelope_core.specs.LeakyBucket.{overflow_of}
use Rattle.meter_book_base.specs.AnyMeter.{newest_of}
use Rattle.ds_domain_base.specs.Sent.{came}
use Rattle.ds_domain_base.specs.declared.contract.Contract.{Contract}
use Rattle.ds_domain_base.specs.declared.terms.Terms.{Terms}
use Rattle.ds_domain_base.specs.declared.terms.Terms.TheVariants.{Trusted, Policed}
use Rattle.ds_certificate.specs.Columns.{envelope_in}
use Rattle.ds_certificate.specs.Sources.{source_of}
use Rattle.ds_checker.specs.Acceptance.{Table}
use Rattle.meter_fabric_base.specs.Grounds.{contract_of, flow_count, ground_of}
use Rattle.meter_fabric_base.specs.Openings.{opening_at, site_count}
use Rattle.meter_fabric_base.specs.declared.site.Opening.{Opening}
use Rattle.run_audit.specs.Verdicts.{first_found, first_of, may_send}
use Rattle.run_audit.specs.declared.verdict.Verdict.{Verdict}
use Rattle.run_audit.specs.declared.verdict.Verdict.TheVariants.{Kept, OutsideContract, SourceOver, Late}
use Rattle.ds_conductor_base.specs.declared.sent.Sent.{Sent}
use Rattle.ds_runs.specs.Behind.{visits_at}

-- TIME: a packet is sent when its contract may not send; none where there is no such contract
abbrev pub outside_by : Sent → Contract → Option ℕ
outside_by s c = if may_send c.lifetime s.moment then None else Some s.packet

abbrev pub outside_in : Table → Sent → Option ℕ
outside_in t s = option_and_then (outside_by s) (contract_of (ground_of t) s.flow)

abbrev pub time_in : Table → List Sent → Option Verdict
time_in t sent = option_map (λ packet. OutsideContract packet) (first_found (outside_in t) sent)

-- SOURCE: the packets of a contract that a column counts, by the colours that their code points show
abbrev pub is_counted : ℕ → Contract → Column → Sent → Bool
is_counted flow c column s = nat_eq s.flow flow && counts column (came c s.dscp)

abbrev pub sent_in : ℕ → Contract → Column → List Sent → List Sent
sent_in flow c column sent = filter (is_counted flow c column) sent

abbrev pub item_of : Sent → ℕ × ℕ
item_of s = (s.moment, s.size)

-- the packet with which a bucket overflows for the first time, into which these are poured as they are sent
abbrev pub overflowing : Curve → List Sent → Option ℕ
overflowing curve sent = option_map (λ s. s.packet)
    (option_and_then (slice_get sent) (overflow_of curve.rate curve.burst (map item_of sent)))

abbrev pub over_in : Table → List Sent → ℕ → Contract → Column → Option Verdict
over_in t sent flow c column =
    option_map
    (λ packet. SourceOver flow column packet)
    (overflowing (envelope_in column (source_of t.domain c)) (sent_in flow c column sent))

-- column by column; what is policed is not held against anything
abbrev pub over_by : Terms → Table → List Sent → ℕ → Contract → Option Verdict
over_by (Trusted committed peak) t sent flow c = first_found (over_in t sent flow c) each_column
over_by (Policed parameters mode) t sent flow c = None

abbrev pub over_at : Table → List Sent → ℕ → Option Verdict
over_at t sent flow = option_and_then (λ c. over_by c.terms t sent flow c) (contract_of (ground_of t) flow)

-- the contracts in their order
abbrev pub source_in : Table → List Sent → Option Verdict
source_in t sent = first_found (over_at t sent) (range_with_len 0 (flow_count t))

-- SKEW: the first visit to a site comes before its meter's newest moment, which is its origin, by more than its skew.
-- Visits to a site come at moments that do not fall, so none behind the first is later than it.
abbrev pub late_with : ℕ → ℕ → Opening → Option Verdict
late_with site moment o =
    if nat_le (newest_of o.meter - moment) o.skew then None else Some (Late site 0 (newest_of o.meter - moment))

abbrev pub late_by : Table → ℕ → Option ℕ → Option Verdict
late_by t site moment =
    option_and_then (λ m. option_and_then (late_with site m) (opening_at (ground_of t) site)) moment

abbrev pub first_moment : Table → List Sent → ℕ → Option ℕ
first_moment t sent site = option_map (λ v. v.moment) (slice_get (visits_at t sent site) 0)

abbrev pub late_at : Table → List Sent → ℕ → Option Verdict
late_at t sent site = late_by t site (first_moment t sent site)

-- the sites in their order
abbrev pub skew_in : Table → List Sent → Option Verdict
skew_in t sent = first_found (late_at t sent) (range_with_len 0 (site_count t))

-- The verdict: kept, where nothing is found.
abbrev pub judged : Table → List Sent → Verdict
judged t sent = unwrap_or (first_of (time_in t sent) (first_of (source_in t sent) (skew_in t sent))) Kept
