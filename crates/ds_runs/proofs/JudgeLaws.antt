-- What the steps of a judge make of what it keeps.
use Rattle.std.proofs.Common.{◌≡◌, ◌<◌, ◌≤◌, ◌+◌, ℕ, Bool, true, false, List, [], ◌∷◌, ◌++◌, length, drop, take, get_or, map, Option, None, Some, refl, sym, ap, ◌∙◌, slice_get, option_and_then, option_map, unwrap_or, if◌then◌else◌}
use Rattle.std.specs.List.{range_with_len}
use Rattle.std.proofs.lemmas.List.{drop_all, drop_more, map_push, take_more}
use Rattle.ds_domain_base.specs.Domains.{Domain}
use Rattle.ds_domain_base.specs.Routes.{Route, route_of}
use Rattle.ds_domain_base.specs.declared.contract.Contract.{Contract}
use Rattle.ds_certificate.specs.Sources.{source_on}
use Rattle.ds_certificate.specs.declared.source.Source.{Source}
use Rattle.ds_certificate.proofs.RouteLaws.{source-route}
use Rattle.ds_checker.specs.Acceptance.{Table}
use Rattle.meter_fabric_base.specs.Grounds.{contract_of, flow_count, ground_of}
use Rattle.meter_fabric_base.specs.Openings.{site_count}
use Rattle.run_audit.specs.Verdicts.{first_found, first_of}
use Rattle.run_audit.specs.declared.verdict.Verdict.{Verdict}
use Rattle.run_audit.specs.declared.verdict.Verdict.TheVariants.{Kept, OutsideContract}
use Rattle.ds_conductor_base.specs.Visits.{later}
use Rattle.ds_conductor_base.specs.Ways.{AreWays, stops_at, stops_by, Stop}
use Rattle.ds_conductor_base.specs.declared.sent.Sent.{Sent}
use Rattle.ds_runs.specs.Judged.{outside_by, outside_in}
use Rattle.ds_runs.specs.Judging.{Judging, buckets_by, is_first, late_told, noted, reached, reached_along, reached_by, silent, spoken_by, told_at, verdict_now, verdict_with}
use Rattle.ds_runs.specs.declared.sender.Buckets.{Buckets}
use Rattle.ds_runs.specs.declared.sender.Sender.{Sender}

-- ---- stops one by one

along_next : (firsts : List (Option ℕ)) (moment : ℕ) (stop : Stop) (stops : List Stop)
    → reached_along firsts moment (stop ∷ stops) ≡ reached_along (reached firsts stop.hop.site (later moment stop.delay)) moment stops
unfolding reached_along
along_next firsts moment stop stops = refl

pub along_more : (firsts next : List (Option ℕ)) (moment at i : ℕ) (stop : Stop) (stops : List Stop) (whole : List (Option ℕ)) → i < length stops → stop ≡ get_or stops i stop
    → at ≡ later moment stop.delay → next ≡ reached firsts stop.hop.site at
    → reached_along firsts moment (drop i stops) ≡ whole → reached_along next moment (drop (i + 1) stops) ≡ whole
along_more firsts next moment at i stop stops whole inside is is_later made kept =
    let here : drop i stops ≡ stop ∷ drop (i + 1) stops = drop_more stops i stop inside ∙ ap (λ (s : Stop). s ∷ drop (i + 1) stops) (sym is) in
    ap (λ (fs : List (Option ℕ)). reached_along fs moment (drop (i + 1) stops)) (made ∙ ap (reached firsts stop.hop.site) is_later)
    ∙ sym (along_next firsts moment stop (drop (i + 1) stops))
    ∙ sym (ap (reached_along firsts moment) here)
    ∙ kept

pub along_ended : (firsts : List (Option ℕ)) (moment i : ℕ) (stops : List Stop) (whole : List (Option ℕ)) → length stops ≤ i
    → reached_along firsts moment (drop i stops) ≡ whole → firsts ≡ whole
unfolding reached_along
along_ended firsts moment i stops whole ended kept = sym (ap (reached_along firsts moment) (drop_all i stops ended)) ∙ kept

-- ---- a packet more

nothing_outside : {A : Type 0} (o : Option A) → o ≡ first_of o None
nothing_outside None = refl
nothing_outside (Some x) = refl

no_stops : (t : Table) (flow : ℕ) → contract_of (ground_of t) flow ≡ None → stops_at t flow ≡ []
no_stops t flow none = ap (stops_by t.domain flow) none

unreached : (firsts : List (Option ℕ)) (t : Table) (s : Sent) (first : Bool) → contract_of (ground_of t) s.flow ≡ None → firsts ≡ reached_by firsts t s first
unfolding reached_along
unreached firsts t s true none = sym (ap (reached_along firsts s.moment) (no_stops t s.flow none))
unreached firsts t s false none = refl

-- a packet of no contract changes nothing
pub noted_none : (j : Judging) (s : Sent) → contract_of (ground_of j.table) s.flow ≡ None → j ≡ noted j s
noted_none j s none =
    let outside : j.outside ≡ first_of j.outside (outside_in j.table s) =
    nothing_outside j.outside ∙ ap (λ (found : Option Contract). first_of j.outside (outside_found s found)) (sym none) in
    let senders : j.senders ≡ spoken_by j.senders s (contract_of (ground_of j.table) s.flow) = ap (spoken_by j.senders s) (sym none) in
    let firsts = unreached j.firsts j.table s (is_first (slice_get j.senders s.flow)) none in
    ap (λ (o : Option ℕ). let k : Judging = record j { outside = o } in k) outside
    ∙ ap (λ (ss : List Sender). let k : Judging = record j { outside = first_of j.outside (outside_in j.table s); senders = ss } in k) senders
    ∙ ap (λ (fs : List (Option ℕ)). let k : Judging = record { table = j.table; outside = first_of j.outside (outside_in j.table s); senders = spoken_by j.senders s (contract_of (ground_of j.table) s.flow); firsts = fs } in k) firsts
  where
    outside_found : Sent → Option Contract → Option ℕ
    outside_found s found = option_and_then (outside_by s) found

-- a packet of a contract
pub noted_some : (j next : Judging) (s : Sent) (c : Contract) → contract_of (ground_of j.table) s.flow ≡ Some c → next.table ≡ j.table
    → next.outside ≡ first_of j.outside (outside_by s c) → next.senders ≡ spoken_by j.senders s (Some c)
    → next.firsts ≡ reached_by j.firsts j.table s (is_first (slice_get j.senders s.flow)) → next ≡ noted j s
noted_some j next s c known table outside senders firsts =
    let all_outside : next.outside ≡ first_of j.outside (outside_in j.table s) = outside ∙ ap (λ (found : Option Contract). first_of j.outside (option_and_then (outside_by s) found)) (sym known) in
    let all_senders : next.senders ≡ spoken_by j.senders s (contract_of (ground_of j.table) s.flow) = senders ∙ ap (spoken_by j.senders s) (sym known) in
    ap (λ (t : Table). let k : Judging = record next { table = t } in k) table
    ∙ ap (λ (o : Option ℕ). let k : Judging = record { table = j.table; outside = o; senders = next.senders; firsts = next.firsts } in k) all_outside
    ∙ ap (λ (ss : List Sender). let k : Judging = record { table = j.table; outside = first_of j.outside (outside_in j.table s); senders = ss; firsts = next.firsts } in k) all_senders
    ∙ ap (λ (fs : List (Option ℕ)). let k : Judging = record { table = j.table; outside = first_of j.outside (outside_in j.table s); senders = spoken_by j.senders s (contract_of (ground_of j.table) s.flow); firsts = fs } in k) firsts

-- the packets that come behind it
pub comes_behind : (j next : Judging) (s : Sent) (back : List Sent) → next ≡ noted j s → verdict_with next back ≡ verdict_with j (s ∷ back)
unfolding verdict_with
comes_behind j next s back is = ap (λ (k : Judging). verdict_with k back) is

-- by the stops that are kept
pub reached_first : (firsts next : List (Option ℕ)) (t : Table) (s : Sent) (ways shown : List (List Stop)) (stops : List Stop) (first : Bool) → AreWays t ways
    → shown ≡ ways → stops ≡ unwrap_or (slice_get shown s.flow) [] → first ≡ true → next ≡ reached_along firsts s.moment stops → next ≡ reached_by firsts t s first
reached_first firsts next t s ways shown stops first own same is passes made =
    made
    ∙ ap (reached_along firsts s.moment) (is ∙ ap (λ (ws : List (List Stop)). unwrap_or (slice_get ws s.flow) []) same ∙ own s.flow)
    ∙ sym (ap (reached_by firsts t s) passes)

-- ---- the verdict

pub told_outside : (j : Judging) (packet : ℕ) → j.outside ≡ Some packet → OutsideContract packet ≡ verdict_with j []
unfolding verdict_with
told_outside j packet is =
    sym (ap (λ (o : Option ℕ). unwrap_or (first_of (option_map (λ n. OutsideContract n) o)
    (first_of (first_found (told_at j.senders) (range_with_len 0 (flow_count j.table))) (first_found (late_told j.table j.firsts) (range_with_len 0 (site_count j.table))))) Kept) is)

not_outside : (o : Option ℕ) → ((packet : ℕ) → o ≡ Some packet → ⊥) → o ≡ None
not_outside None none = refl
not_outside (Some packet) none = absurd (none packet refl)

pub told_over : (j : Judging) (over : Verdict) (found : Option Verdict) (shown : List Sender) → ((packet : ℕ) → j.outside ≡ Some packet → ⊥) → shown ≡ j.senders
    → found ≡ first_found (told_at shown) (range_with_len 0 (flow_count j.table)) → found ≡ Some over → over ≡ verdict_with j []
unfolding verdict_with
told_over j over found shown inside same is some =
    sym
    (ap (λ (o : Option ℕ). unwrap_or (first_of (option_map (λ n. OutsideContract n) o)
    (first_of (first_found (told_at j.senders) (range_with_len 0 (flow_count j.table))) (first_found (late_told j.table j.firsts) (range_with_len 0 (site_count j.table))))) Kept) (not_outside j.outside inside)
    ∙ ap (λ (v : Option Verdict). unwrap_or (first_of v (first_found (late_told j.table j.firsts) (range_with_len 0 (site_count j.table)))) Kept)
    (sym (is ∙ ap (λ (ss : List Sender). first_found (told_at ss) (range_with_len 0 (flow_count j.table))) same) ∙ some))

pub told_late : (j : Judging) (verdict : Verdict) (found late : Option Verdict) (shown : List Sender) (moments : List (Option ℕ)) → ((packet : ℕ) → j.outside ≡ Some packet → ⊥)
    → shown ≡ j.senders → moments ≡ j.firsts → found ≡ first_found (told_at shown) (range_with_len 0 (flow_count j.table)) → ((over : Verdict) → found ≡ Some over → ⊥)
    → late ≡ first_found (late_told j.table moments) (range_with_len 0 (site_count j.table)) → verdict ≡ unwrap_or late Kept → verdict ≡ verdict_with j []
unfolding verdict_with
told_late j verdict found late shown moments inside same seen is none told told_is =
    sym
    (ap (λ (o : Option ℕ). unwrap_or (first_of (option_map (λ n. OutsideContract n) o)
    (first_of (first_found (told_at j.senders) (range_with_len 0 (flow_count j.table))) (first_found (late_told j.table j.firsts) (range_with_len 0 (site_count j.table))))) Kept) (not_outside j.outside inside)
    ∙ ap (λ (v : Option Verdict). unwrap_or (first_of v (first_found (late_told j.table j.firsts) (range_with_len 0 (site_count j.table)))) Kept)
    (sym (is ∙ ap (λ (ss : List Sender). first_found (told_at ss) (range_with_len 0 (flow_count j.table))) same) ∙ not_over found none)
    ∙ ap (λ (fs : List (Option ℕ)). unwrap_or (first_found (late_told j.table fs) (range_with_len 0 (site_count j.table))) Kept) (sym seen)
    ∙ ap (λ (v : Option Verdict). unwrap_or v Kept) (sym told)
    ∙ sym told_is)
  where
    not_over : (o : Option Verdict) → ((over : Verdict) → o ≡ Some over → ⊥) → o ≡ None
    not_over None none = refl
    not_over (Some over) none = absurd (none over refl)

-- ---- before the first packet

-- one contract more, by its route
pub silent_more : (d : Domain) (contracts : List Contract) (before after : List Sender) (place : ℕ) (c : Contract) (route : Route) (source : Source) (buckets : Option Buckets)
    → place < length contracts → c ≡ get_or contracts place c → route ≡ route_of d c → source ≡ source_on d route c.terms → buckets ≡ buckets_by c.terms source
    → after ≡ before ++ record { sent = false; buckets = buckets } ∷ [] → before ≡ map (silent d) (take place contracts) → after ≡ map (silent d) (take (place + 1) contracts)
silent_more d contracts before after place c route source buckets inside is on_route along filled pushed kept =
    let made : ◌≡◌ {A = Sender} (record { sent = false; buckets = buckets }) (silent d c) =
    ap (λ (b : Option Buckets). let s : Sender = record { sent = false; buckets = b } in s) (filled ∙ ap (buckets_by c.terms) (along ∙ source-route d c route on_route))
    in
    pushed
    ∙ ap (λ (ss : List Sender). ss ++ record { sent = false; buckets = buckets } ∷ []) kept
    ∙ ap (λ (s : Sender). map (silent d) (take place contracts) ++ s ∷ []) made
    ∙ sym (map_push (silent d) (take place contracts) c)
    ∙ ap (λ (x : Contract). map (silent d) (take place contracts ++ x ∷ [])) is
    ∙ sym (ap (map (silent d)) (take_more contracts place c inside))
