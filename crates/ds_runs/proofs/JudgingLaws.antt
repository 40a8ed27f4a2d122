-- The verdict that is told of what is kept is that on the packets.
use Rattle.std.proofs.Common.{◌≡◌, ◌<◌, ℕ, zero, suc, Bool, true, false, List, Option, None, Some, refl, sym, ap, subst, ◌∙◌, arith, replicate, slice_get, option_map, unwrap_or}
use Rattle.std.specs.List.{range_with_len}
use Rattle.std.specs.Option.{option_flatten}
use Rattle.ds_domain_base.specs.declared.contract.Contract.{Contract}
use Rattle.ds_checker.specs.Acceptance.{Table}
use Rattle.meter_fabric_base.specs.Grounds.{contract_of, flow_count, ground_of}
use Rattle.meter_fabric_base.specs.Openings.{site_count}
use Rattle.run_audit.specs.Verdicts.{first_found, first_of}
use Rattle.run_audit.specs.declared.verdict.Verdict.{Verdict}
use Rattle.run_audit.specs.declared.verdict.Verdict.TheVariants.{Kept, OutsideContract}
use Rattle.ds_conductor_base.specs.Streams.{rise_from}
use Rattle.ds_conductor_base.specs.Visits.{visits_from}
use Rattle.ds_conductor_base.specs.declared.sent.Sent.{Sent}
use Rattle.ds_runs.proofs.RunLaws.{the_run_is_behind}
use Rattle.ds_runs.specs.Making.{run_behind}
use Rattle.ds_runs.specs.Judged.{first_moment, judged, late_at, late_by, over_at, skew_in, source_in, time_in}
use Rattle.ds_runs.specs.Judging.{Judging, late_told, silent, told_at, unjudged, verdict_now, verdict_with}
use Rattle.ds_runs.specs.JudgedLaws.{TheJudgeTells, TheMadeRunIsJudged}
use Rattle.ds_runs.specs.declared.sender.Sender.{Sender}
use Rattle.ds_runs.proofs.FirstLaws.{firsts_noted, first_told, least_at}
use Rattle.ds_runs.proofs.PairLaws.{found_each, found_range}
use Rattle.ds_runs.proofs.VerdictLaws.{run_is_judged}
use Rattle.ds_runs.proofs.NotedLaws.{noted_all, outside_noted, same_table, sender_tells, silent_at, told_now}

not_sent : (t : Table) (flow : ℕ) (sender : Sender) → slice_get (unjudged t).senders flow ≡ Some sender → sender.sent ≡ false
not_sent t flow sender at = by_found (contract_of (ground_of t) flow) (sym (silent_at t flow) ∙ at)
  where
    by_found : (found : Option Contract) → option_map (silent t.domain) found ≡ Some sender → sender.sent ≡ false
    by_found None none = absurd cc
    by_found (Some c) some = let is : silent t.domain c ≡ sender = cc in ap (λ (s : Sender). s.sent) (sym is)

no_moment : (n k : ℕ) → k < n → slice_get {X = Option ℕ} (replicate n None) k ≡ Some None
no_moment zero k short = absurd (omega (arith, short))
no_moment (suc n) zero short = refl
no_moment (suc n) (suc k) short = no_moment n k (omega (arith, short))

site_tells : (t : Table) (sent : List Sent) → rise_from 0 sent ≡ true → (k : ℕ) → k < site_count t
    → late_told t (noted_all (unjudged t) sent).firsts k ≡ late_at t sent k
site_tells t sent rises k short =
    ap (λ (found : Option (Option ℕ)). late_by t k (option_flatten found))
    (firsts_noted (unjudged t) 0 0 sent k (λ flow sender at did. absurd (never (not_sent t flow sender at) did)) rises
    ∙ ap (option_map (λ o. least_at k o (visits_from t 0 sent))) (no_moment (site_count t) k short))
    ∙ ap (late_by t k) (sym (first_told t sent k))
  where
    never : {b : Bool} → b ≡ false → b ≡ true → ⊥
    never fails passes = cc

pub judge_tells : TheJudgeTells
judge_tells t sent sendable =
    let j = noted_all (unjudged t) sent in
    let rises = sendable.rising in
    told_now (unjudged t) sent
    ∙ ap (λ (u : Table). unwrap_or (first_of (option_map (λ packet. OutsideContract packet) j.outside)
    (first_of (first_found (told_at j.senders) (range_with_len 0 (flow_count u))) (first_found (late_told u j.firsts) (range_with_len 0 (site_count u))))) Kept) (same_table (unjudged t) sent)
    ∙ ap (λ (found : Option ℕ). unwrap_or (first_of (option_map (λ packet. OutsideContract packet) found)
    (first_of (first_found (told_at j.senders) (range_with_len 0 (flow_count t))) (first_found (late_told t j.firsts) (range_with_len 0 (site_count t))))) Kept) (outside_noted (unjudged t) sent)
    ∙ ap (λ (found : Option Verdict). unwrap_or (first_of (time_in t sent) (first_of found (first_found (late_told t j.firsts) (range_with_len 0 (site_count t))))) Kept)
    (found_each (told_at j.senders) (over_at t sent) (range_with_len 0 (flow_count t)) (sender_tells t sent rises))
    ∙ ap (λ (found : Option Verdict). unwrap_or (first_of (time_in t sent) (first_of (source_in t sent) found)) Kept)
    (found_range (late_told t j.firsts) (late_at t sent) (site_count t) (site_tells t sent rises))

pub made_run_judged : TheMadeRunIsJudged
made_run_judged t sent good reach sendable =
    judge_tells t sent sendable ∙ sym (run_is_judged t sent (run_behind t sent) reach sendable (the_run_is_behind t sent good sendable))
