-- What is kept of packets that were sent, so that their verdict can be told at any time: it does not grow with them.
use Rattle.std.specs.Prelude.{ℕ, Bool, true, false, List, [], ◌∷◌, map, length, slice_get, slice_set, if◌then◌else◌, min, not, replicate, option_map, option_and_then, unwrap_or, Option, None, Some}
use Rattle.std.specs.List.{range_with_len}
use Rattle.std.specs.Option.{option_flatten}
use Rattle.moment_core.specs.Columns.{counts, each_column}
use Rattle.moment_core.specs.Metering.{used}
use Rattle.moment_core.specs.declared.colour.Colour.{Colour}
use Rattle.moment_core.specs.declared.column.Column.{Column}
use Rattle.moment_core.specs.declared.column.Column.TheVariants.{Green, All, Excess}
use Rattle.envelope_core.specs.Curve.{Curve}
use Rattle.envelope_core.specs.LeakyBucket.{Bucket, overflows, poured}
use Rattle.ds_domain_base.specs.Domains.{Domain}
use Rattle.ds_domain_base.specs.Sent.{came}
use Rattle.ds_domain_base.specs.declared.contract.Contract.{Contract}
use Rattle.ds_domain_base.specs.declared.terms.Terms.{Terms}
use Rattle.ds_domain_base.specs.declared.terms.Terms.TheVariants.{Trusted, Policed}
use Rattle.ds_certificate.specs.Columns.{envelope_in}
use Rattle.ds_certificate.specs.Sources.{source_of}
use Rattle.ds_certificate.specs.declared.source.Source.{Source}
use Rattle.ds_checker.specs.Acceptance.{Table}
use Rattle.meter_fabric_base.specs.Grounds.{contract_of, flow_count, ground_of}
use Rattle.meter_fabric_base.specs.Openings.{site_count}
use Rattle.run_audit.specs.Verdicts.{first_found, first_of}
use Rattle.run_audit.specs.declared.verdict.Verdict.{Verdict}
use Rattle.run_audit.specs.declared.verdict.Verdict.TheVariants.{Kept, OutsideContract, SourceOver}
use Rattle.ds_conductor_base.specs.Visits.{later}
use Rattle.ds_conductor_base.specs.Ways.{stops_at, Stop}
use Rattle.ds_conductor_base.specs.declared.sent.Sent.{Sent}
use Rattle.ds_runs.specs.Judged.{late_by, outside_in}
use Rattle.ds_runs.specs.declared.sender.Buckets.{Buckets}
use Rattle.ds_runs.specs.declared.sender.Sender.{Sender}
use Rattle.ds_runs.specs.declared.watch.Watch.{Watch}

-- The first packet outside its contract's time; for each contract whether it sent, and the buckets of its columns; and
-- for each site the moment of the first visit.
pub record Judging : Type 0 where
  pub table : Table
  pub outside : Option ℕ
  pub senders : List Sender
  pub firsts : List (Option ℕ)

-- ---- the buckets of a trusted contract

-- an empty bucket that drains at a rate and is as deep as a burst
abbrev pub empty : Curve → Watch
empty curve = record { bucket = record { curve = curve; level = 0; since = 0 }; over = None }

abbrev pub empty_each : Source → Buckets
empty_each s = record { green = empty s.green; all = empty s.all; excess = empty s.excess }

-- a packet is poured in; of a bucket that overflowed nothing more is asked
abbrev pub watched_with : Bucket → ℕ → ℕ × ℕ → Watch
watched_with b packet item = record { bucket = poured b item; over = if overflows b item then Some packet else None }

abbrev pub watched_by : Option ℕ → Watch → Sent → Watch
watched_by None w s = watched_with w.bucket s.packet (used w.bucket.since s.moment, s.size)
watched_by (Some packet) w s = w

abbrev pub watched : Watch → Sent → Watch
watched w s = watched_by w.over w s

abbrev pub watched_in : Column → Colour → Watch → Sent → Watch
watched_in column colour w s = if counts column colour then watched w s else w

abbrev pub watched_each : Colour → Buckets → Sent → Buckets
watched_each colour b s = record {
  green = watched_in Green colour b.green s;
  all = watched_in All colour b.all s;
  excess = watched_in Excess colour b.excess s;
}

abbrev pub watch_in : Column → Buckets → Watch
watch_in Green b = b.green
watch_in All b = b.all
watch_in Excess b = b.excess

-- ---- contracts

abbrev pub buckets_by : Terms → Source → Option Buckets
buckets_by (Trusted committed peak) s = Some (empty_each s)
buckets_by (Policed parameters mode) s = None

-- a contract before its first packet
abbrev pub silent : Domain → Contract → Sender
silent d c = record { sent = false; buckets = buckets_by c.terms (source_of d c) }

-- what a test finds of a sender's bucket
abbrev pub told_in : ℕ → Buckets → Column → Option Verdict
told_in flow b column = option_map (λ packet. SourceOver flow column packet) (watch_in column b).over

abbrev pub told_of : ℕ → Sender → Option Verdict
told_of flow sender = option_and_then (λ b. first_found (told_in flow b) each_column) sender.buckets

abbrev pub told_at : List Sender → ℕ → Option Verdict
told_at senders flow = option_and_then (told_of flow) (slice_get senders flow)

-- a packet of a contract more
abbrev pub spoken : Contract → Sent → Sender → Sender
spoken c s sender =
    record { sent = true; buckets = option_map (λ b. watched_each (came c s.dscp) b s) sender.buckets }

abbrev pub spoken_at : List Sender → ℕ → Contract → Sent → Option Sender → List Sender
spoken_at senders flow c s None = senders
spoken_at senders flow c s (Some sender) = slice_set senders flow (spoken c s sender)

abbrev pub spoken_by : List Sender → Sent → Option Contract → List Sender
spoken_by senders s None = senders
spoken_by senders s (Some c) = spoken_at senders s.flow c s (slice_get senders s.flow)

-- ---- sites

-- the earlier of a moment that may be there and another
abbrev pub earliest : Option ℕ → ℕ → Option ℕ
earliest None moment = Some moment
earliest (Some first) moment = Some (min first moment)

abbrev pub reached_at : List (Option ℕ) → ℕ → ℕ → Option (Option ℕ) → List (Option ℕ)
reached_at firsts site moment None = firsts
reached_at firsts site moment (Some first) = slice_set firsts site (earliest first moment)

abbrev pub reached : List (Option ℕ) → ℕ → ℕ → List (Option ℕ)
reached firsts site moment = reached_at firsts site moment (slice_get firsts site)

-- a packet that is sent at a moment comes to its stops
unfoldable pub reached_along : List (Option ℕ) → ℕ → List Stop → List (Option ℕ)
reached_along firsts moment [] = firsts
reached_along firsts moment (stop ∷ stops) =
    reached_along (reached firsts stop.hop.site (later moment stop.delay)) moment stops

-- A contract's first packet is the first of its packets at each of its stops. What is not kept of a contract did not
-- send.
abbrev pub is_first : Option Sender → Bool
is_first None = true
is_first (Some sender) = not sender.sent

abbrev pub reached_by : List (Option ℕ) → Table → Sent → Bool → List (Option ℕ)
reached_by firsts t s first = if first then reached_along firsts s.moment (stops_at t s.flow) else firsts

-- ---- all of them

-- before the first packet
abbrev pub unjudged : Table → Judging
unjudged t = record {
  table = t;
  outside = None;
  senders = map (λ entry. silent t.domain entry.1) (ground_of t).contracts;
  firsts = replicate (site_count t) None;
}

-- one packet more
abbrev pub noted : Judging → Sent → Judging
noted j s = record {
  table = j.table;
  outside = first_of j.outside (outside_in j.table s);
  senders = spoken_by j.senders s (contract_of (ground_of j.table) s.flow);
  firsts = reached_by j.firsts j.table s (is_first (slice_get j.senders s.flow));
}

abbrev pub late_told : Table → List (Option ℕ) → ℕ → Option Verdict
late_told t firsts site = late_by t site (option_flatten (slice_get firsts site))

-- the verdict on the packets so far
abbrev pub verdict_now : Judging → Verdict
verdict_now j = unwrap_or
    (first_of (option_map (λ packet. OutsideContract packet) j.outside)
    (first_of (first_found (told_at j.senders) (range_with_len 0 (flow_count j.table)))
    (first_found (late_told j.table j.firsts) (range_with_len 0 (site_count j.table))))) Kept

-- The verdict on the packets so far and these behind them.
unfoldable pub verdict_with : Judging → List Sent → Verdict
verdict_with j [] = verdict_now j
verdict_with j (s ∷ sent) = verdict_with (noted j s) sent
