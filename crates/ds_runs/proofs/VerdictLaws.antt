-- What an audit finds of the run behind packets that are sent is found of the packets alone.
use Rattle.std.proofs.Common.{◌≡◌, ◌<◌, ◌≤◌, ◌+◌, ◌-◌, ◌*◌, ◌^◌, ℕ, zero, suc, Bool, true, false, List, [], ◌∷◌, length, map, get_or, take, Option, None, Some, refl, sym, ap, subst, ◌∙◌, arith, length-take}
use Rattle.std.specs.Prelude.{⊤, ◌&&◌, ◌||◌, AllPairs, is_some, nat_eq, nat_le, nat_lt, slice_get, option_map, option_and_then, unwrap_or, if◌then◌else◌}
use Rattle.std.specs.List.{All, filter, range_with_len}
use Rattle.std.proofs.lemmas.Bool.Decides.{nat_tests}
use Rattle.std.proofs.lemmas.List.Elements.{All-head, All-map, All-tail, All-weaker}
use Rattle.std.proofs.lemmas.List.Kept.{AllPairs-filter}
use Rattle.moment_core.specs.Columns.{counts, each_column}
use Rattle.moment_core.specs.declared.column.Column.{Column}
use Rattle.moment_core.specs.Metering.{used}
use Rattle.envelope_core.specs.LeakyBucket.{overflow_of}
use Rattle.meter_book_base.specs.AnyMeter.{after_any, newest_of}
use Rattle.meter_book_base.specs.OutputLaws.{goes_on-any}
use Rattle.meter_book_base.specs.declared.any_meter.AnyMeter.{AnyMeter}
use Rattle.meter_book.specs.Replay.{Journal, journal_rows, offer_of, rows_from}
use Rattle.meter_book.specs.declared.row.Arrival.{Arrival}
use Rattle.ds_domain_base.specs.Domains.{Domain, floor_of, jitter_of, link_of}
use Rattle.ds_domain_base.specs.Sent.{came}
use Rattle.ds_domain_base.specs.declared.contract.Contract.{Contract}
use Rattle.ds_domain_base.specs.declared.terms.Terms.{Terms}
use Rattle.ds_domain_base.specs.declared.terms.Terms.TheVariants.{Trusted, Policed}
use Rattle.ds_certificate.specs.Columns.{envelope_in}
use Rattle.ds_certificate.specs.Sources.{source_of}
use Rattle.ds_checker.specs.Acceptance.{Table}
use Rattle.meter_fabric_base.specs.Grounds.{contract_of, flow_count, ground_of, most_flows}
use Rattle.meter_fabric_base.specs.Openings.{opening_at, site_count}
use Rattle.meter_fabric_base.specs.Sites.{site_of}
use Rattle.meter_fabric_base.specs.Trails.{Packet}
use Rattle.meter_fabric_base.specs.declared.site.Opening.{Opening}
use Rattle.meter_fabric_base.specs.declared.trail.Receipt.{Receipt}
use Rattle.run_audit.specs.Premises.{IsTrusted}
use Rattle.run_audit.specs.Runs.{Passage, Run}
use Rattle.run_audit.specs.Sendings.{passages_of, sending_of, sent_items}
use Rattle.meter_fabric_base.proofs.OrderLaws.{Ascends}
use Rattle.run_audit.proofs.PremiseSourceLaws.{item_of, items_sent}
use Rattle.run_audit.proofs.SortLaws.{key_order}
use Rattle.run_audit.proofs.SourceLaws.{begun_order, counts-sent}
use Rattle.run_audit.specs.Verdicts as audits
use Rattle.run_audit.specs.Verdicts.{against_sent, by_number, by_site, first_found, first_of, is_begun_before, may_send, outside, delayed, time_of, source_of_run, link_of_run, skew_of_run, late_row, untimely, was_sent_as}
use Rattle.run_audit.specs.declared.verdict.Verdict.{Verdict}
use Rattle.run_audit.specs.declared.verdict.Verdict.TheVariants.{Kept, OutsideContract, SourceOver, DelayOver, Late}
use Rattle.ds_conductor_base.proofs.ApartLaws.{visits_differ}
use Rattle.ds_conductor_base.proofs.InOrderLaws.{visit_order}
use Rattle.ds_conductor_base.proofs.JoinLaws.{ascends-filter, in_order-rises}
use Rattle.ds_conductor_base.specs.Streams.{rise_from}
use Rattle.ds_conductor_base.specs.Visits.{is_before, is_same, later, visit_to, visits_from, visits_of}
use Rattle.ds_conductor_base.specs.Ways.{AreInReach, AreNear, delay_over, stops_along, Stop}
use Rattle.ds_conductor_base.specs.declared.sent.Sent.{Sent}
use Rattle.ds_conductor_base.specs.declared.visit.Visit.{Visit}
use Rattle.ds_runs.specs.Behind.{AreSendable, IsBehind, MadeItsVisits, packet_sent, visit_told, visits_at}
use Rattle.ds_runs.specs.Judged.{first_moment, is_counted, late_at, late_with, outside_by, outside_in, over_at, over_by, over_in, sent_in, skew_in, source_in, time_in}
use Rattle.ds_runs.specs.Judged as judgings
use Rattle.ds_runs.specs.JudgedLaws.{TheRunIsJudged}
use Rattle.ds_runs.proofs.ListLaws.{AllPairs-map, AllPairs-of_map}
use Rattle.ds_runs.proofs.PairLaws.{filter_both, found_each, found_filter, found_same, found_shown, found_told, get_through, in_order-kept, keys_counted, map_through, none_found, range_rises}
use Rattle.ds_runs.proofs.PassageLaws.{AreMade, IsTimed, MadeOf, are_made, filter_made, found_made, near_along, sent_so}

-- ---- the order in which packets stand

abbrev IsSentBefore : Packet → Packet → Type 0
IsSentBefore p q = (p.begun ≤ q.begun) × (p.number < q.number)

-- moments that do not fall
risen : (moment : ℕ) (sent : List Sent) → rise_from moment sent ≡ true → All (λ s. moment ≤ s.moment) sent
unfolding rise_from
risen moment [] rises k d short = absurd (omega (arith, short))
risen moment (s ∷ sent) rises zero d short = first moment s.moment (rise_from s.moment sent) rises
  where
    first : (m n : ℕ) (b : Bool) → (nat_le m n && b) ≡ true → m ≤ n
    first m n b passed = grind (arith, nat_tests)
risen moment (s ∷ sent) rises (suc k) d short =
    let further = risen s.moment sent (rest (nat_le moment s.moment) (rise_from s.moment sent) rises) k d (omega (arith, short)) in
    let here = first moment s.moment (rise_from s.moment sent) rises in
    omega (arith, further, here)
  where
    first : (m n : ℕ) (b : Bool) → (nat_le m n && b) ≡ true → m ≤ n
    first m n b passed = grind (arith, nat_tests)

    rest : (a b : Bool) → (a && b) ≡ true → b ≡ true
    rest true b passed = passed
    rest false b passed = absurd cc

pub moments_rise : (moment : ℕ) (sent : List Sent) → rise_from moment sent ≡ true → AllPairs (λ s r. s.moment ≤ r.moment) sent
unfolding rise_from
moments_rise moment [] rises i j d below short = absurd (omega (arith, short))
moments_rise moment (s ∷ sent) rises zero zero d below short = absurd (omega (arith, below))
moments_rise moment (s ∷ sent) rises zero (suc j) d below short = risen s.moment sent (rest (nat_le moment s.moment) (rise_from s.moment sent) rises) j d (omega (arith, short))
  where
    rest : (a b : Bool) → (a && b) ≡ true → b ≡ true
    rest true b passed = passed
    rest false b passed = absurd cc
moments_rise moment (s ∷ sent) rises (suc i) zero d below short = absurd (omega (arith, below))
moments_rise moment (s ∷ sent) rises (suc i) (suc j) d below short =
    moments_rise s.moment sent (rest (nat_le moment s.moment) (rise_from s.moment sent) rises) i j d (omega (arith, below)) (omega (arith, short))
  where
    rest : (a b : Bool) → (a && b) ≡ true → b ≡ true
    rest true b passed = passed
    rest false b passed = absurd cc

passages_stand : (t : Table) (sent : List Sent) (run : Run) → AreSendable t sent → IsBehind t sent run → AllPairs (λ p q. IsSentBefore p.packet q.packet) run.passages
passages_stand t sent run sendable behind =
    AllPairs-of_map IsSentBefore (λ (p : Passage). p.packet) run.passages
    (subst (AllPairs IsSentBefore) (sym behind.packets)
    (AllPairs-map IsSentBefore packet_sent sent
    (λ i j d below short. (moments_rise 0 sent sendable.rising i j d below short, sendable.numbered i j d below short))))

number_stands : (p q : Passage) → IsSentBefore p.packet q.packet → nat_lt p.packet.number q.packet.number ≡ true
number_stands p q before = by_numbers p.packet.number q.packet.number before.1
  where
    by_numbers : (m n : ℕ) → m < n → nat_lt m n ≡ true
    by_numbers m n below = grind (arith, nat_tests)

begun_stands : (p q : Passage) → IsSentBefore p.packet q.packet → is_begun_before p q ≡ true
begun_stands p q before = by_numbers p.packet.begun q.packet.begun p.packet.number q.packet.number before.0 before.1
  where
    by_numbers : (a b m n : ℕ) → a ≤ b → m < n → (nat_lt a b || nat_eq a b && nat_lt m n) ≡ true
    by_numbers a b m n up below = grind (arith, nat_tests)

numbers_kept : (t : Table) (sent : List Sent) (run : Run) → AreSendable t sent → IsBehind t sent run → by_number run.passages ≡ run.passages
numbers_kept t sent run sendable behind =
    in_order-kept (λ (p q : Passage). nat_lt p.packet.number q.packet.number) (key_order (λ (p : Passage). p.packet.number)) run.passages
    (λ i j d below short. number_stands (get_or run.passages i d) (get_or run.passages j d) (passages_stand t sent run sendable behind i j d below short))

made_of : (t : Table) (sent : List Sent) (run : Run) → IsBehind t sent run → AreMade t 0 sent run.passages
made_of t sent run behind = are_made t 0 sent run.passages behind.packets (λ i s p at to. let place : i ≡ 0 + i = omega arith in subst (λ n. MadeItsVisits t n s p) place (behind.visits i s p at to))

-- ---- time

time_here : (t : Table) (place : ℕ) (s : Sent) (p : Passage) → IsTimed s → MadeOf t place s p
    → against_sent (ground_of t) (outside p.packet.number) p ≡ option_map (λ n. OutsideContract n) (outside_in t s)
time_here t place s p timed made =
    ap (λ (packet : Packet). option_and_then (λ c. option_and_then (outside packet.number c) (sending_of c p)) (contract_of (ground_of t) packet.flow)) made.0
    ∙ by_found (contract_of (ground_of t) s.flow) refl
  where
    by_test : (b : Bool) → ◌≡◌ {A = Option Verdict} (if b then None else Some (OutsideContract s.packet)) (option_map (λ n. OutsideContract n) (if b then None else Some s.packet))
    by_test true = refl
    by_test false = refl

    by_found : (found : Option Contract) → contract_of (ground_of t) s.flow ≡ found
        → option_and_then (λ c. option_and_then (outside s.packet c) (sending_of c p)) found ≡ option_map (λ n. OutsideContract n) (option_and_then (outside_by s) found)
    by_found None known = refl
    by_found (Some c) known =
        let so = sent_so t place s p c timed made known in
        ap (option_and_then (outside s.packet c)) so.is
        ∙ ap (λ (m : ℕ). if may_send c.lifetime m then None else Some (OutsideContract s.packet)) so.moment
        ∙ by_test (may_send c.lifetime s.moment)

time_told : (t : Table) (sent : List Sent) (run : Run) → AreSendable t sent → IsBehind t sent run → time_of (ground_of t) run ≡ time_in t sent
time_told t sent run sendable behind =
    ap (first_found (λ p. against_sent (ground_of t) (outside p.packet.number) p)) (numbers_kept t sent run sendable behind)
    ∙ found_made t (λ p. against_sent (ground_of t) (outside p.packet.number) p) (λ s. option_map (λ n. OutsideContract n) (outside_in t s)) (time_here t)
    0 sent run.passages sendable.timed (made_of t sent run behind)
    ∙ found_told (λ n. OutsideContract n) (outside_in t) sent

-- ---- link

over_exactly : (floor jitter moment arrival : ℕ) → arrival ≡ moment + floor → (nat_le (moment + floor) arrival && nat_le arrival (moment + floor + jitter)) ≡ true
over_exactly floor jitter moment arrival exact = grind (arith, nat_tests)

arrives : (sent delay floor moment arrival : ℕ) → sent < 2 ^ 63 - 2 ^ 40 → moment ≡ sent + delay → delay + floor ≤ 16 * 10 ^ 10 → arrival ≡ later sent (delay + floor) → arrival ≡ moment + floor
arrives sent delay floor moment arrival timed is near at = grind arith

timely : (d : Domain) (place : ℕ) (s : Sent) (number hop : ℕ) (from : List ℕ) (path : List (List ℕ)) (delay moment : ℕ) (receipts : List Receipt)
    → IsTimed s → moment ≡ s.moment + delay → AreNear (stops_along d number from delay path)
    → map (visit_told place) receipts ≡ map (visit_to place s) (stops_along d number from delay path)
    → untimely d hop from path moment receipts ≡ None
unfolding stops_along untimely
timely d place s number hop from [] delay moment [] timed is near visits = refl
timely d place s number hop from [] delay moment (r ∷ receipts) timed is near visits = refl
timely d place s number hop from (to ∷ path) delay moment [] timed is near visits = refl
timely d place s number hop from (to ∷ path) delay moment (r ∷ receipts) timed is near visits =
    let arrived : r.row.arrival ≡ later s.moment (delay_over d from to delay) = first_moment visits in
    let first : Stop = record { hop = record { number = number; site = site_of d to }; delay = delay_over d from to delay } in
    let short : delay_over d from to delay ≤ 16 * 10 ^ 10 = near 0 first (omega arith) in
    let exact = arrives s.moment delay (floor_of (link_of d from to)) moment r.row.arrival timed is short arrived in
    let over = over_exactly (floor_of (link_of d from to)) (jitter_of (link_of d from to)) moment r.row.arrival exact in
    ap (λ (b : Bool). if b then untimely d (suc hop) to path r.row.arrival receipts else Some hop) over
    ∙ timely d place s (suc number) (suc hop) to path (delay_over d from to delay) r.row.arrival receipts timed (omega (arith, exact, is))
    (All-tail (λ (stop : Stop). stop.delay ≤ 16 * 10 ^ 10) first (stops_along d (suc number) to (delay_over d from to delay) path) near) (rest_of visits)
  where
    first_moment : {v w : Visit} {vs ws : List Visit} → v ∷ vs ≡ w ∷ ws → v.moment ≡ w.moment
    first_moment {v} {w} same = let here : v ≡ w = cc in ap (λ (u : Visit). u.moment) here

    rest_of : {v w : Visit} {vs ws : List Visit} → v ∷ vs ≡ w ∷ ws → vs ≡ ws
    rest_of same = cc

link_here : (t : Table) → AreInReach t → (place : ℕ) (s : Sent) (p : Passage) → IsTimed s → MadeOf t place s p
    → against_sent (ground_of t) (delayed t.domain p.packet.number) p ≡ None
link_here t reach place s p timed made =
    ap (λ (packet : Packet). option_and_then (λ c. option_and_then (delayed t.domain packet.number c) (sending_of c p)) (contract_of (ground_of t) packet.flow)) made.0
    ∙ by_found (contract_of (ground_of t) s.flow) refl
  where
    by_found : (found : Option Contract) → contract_of (ground_of t) s.flow ≡ found
        → option_and_then (λ c. option_and_then (delayed t.domain s.packet c) (sending_of c p)) found ≡ None
    by_found None known = refl
    by_found (Some c) known =
        let so = sent_so t place s p c timed made known in
        ap (option_and_then (delayed t.domain s.packet c)) so.is
        ∙ ap (option_map (λ hop. DelayOver s.packet hop))
        (timely t.domain place s 1 1 c.port c.path 0 so.sending.moment so.sending.receipts timed (omega (arith, so.moment)) (near_along t s.flow c known (reach s.flow)) so.visits)

none_told : {B : Type 0} (sent : List Sent) → first_found {B = B} (λ s. None) sent ≡ None
none_told sent = none_found (λ s. None) sent (λ k d short. refl)

link_told : (t : Table) (sent : List Sent) (run : Run) → AreInReach t → AreSendable t sent → IsBehind t sent run → link_of_run (ground_of t) run ≡ None
link_told t sent run reach sendable behind =
    ap (first_found (λ p. against_sent (ground_of t) (delayed t.domain p.packet.number) p)) (numbers_kept t sent run sendable behind)
    ∙ found_made t (λ p. against_sent (ground_of t) (delayed t.domain p.packet.number) p) (λ s. None) (link_here t reach)
    0 sent run.passages sendable.timed (made_of t sent run behind)
    ∙ none_told sent

-- ---- source

counted_here : (t : Table) (flow : ℕ) (c : Contract) (column : Column) → IsTrusted c.terms → (place : ℕ) (s : Sent) (p : Passage) → MadeOf t place s p
    → (nat_eq p.packet.flow flow && was_sent_as (counts column) (sending_of c p)) ≡ is_counted flow c column s
counted_here t flow c column trusted place s p made =
    ap (λ (b : Bool). nat_eq p.packet.flow flow && b) (sym (counts-sent (counts column) c.terms (came c p.packet.dscp) p.packet.begun p.receipts trusted))
    ∙ ap (λ (packet : Packet). nat_eq packet.flow flow && counts column (came c packet.dscp)) made.0

sent_kept : (t : Table) (sent : List Sent) (run : Run) → AreSendable t sent → IsBehind t sent run → (flow : ℕ) (c : Contract) (column : Column)
    → audits.sent_in column c (passages_of flow run) ≡ filter (λ p. nat_eq p.packet.flow flow && was_sent_as (counts column) (sending_of c p)) run.passages
sent_kept t sent run sendable behind flow c column =
    let picks = λ (p : Passage). was_sent_as (counts column) (sending_of c p) in
    let own = λ (p : Passage). nat_eq p.packet.flow flow in
    in_order-kept is_begun_before begun_order (filter picks (filter own run.passages))
    (AllPairs-filter (λ p q. is_begun_before p q ≡ true) picks (filter own run.passages)
    (AllPairs-filter (λ p q. is_begun_before p q ≡ true) own run.passages
    (λ i j d below short. begun_stands (get_or run.passages i d) (get_or run.passages j d) (passages_stand t sent run sendable behind i j d below short))))
    ∙ filter_both picks own run.passages

map_fused : {A B C : Type 0} (f : A → B) (g : B → C) (o : Option A) → option_map (λ x. g (f x)) o ≡ option_map g (option_map f o)
map_fused f g None = refl
map_fused f g (Some x) = refl

column_told : (t : Table) (sent : List Sent) (run : Run) → AreSendable t sent → IsBehind t sent run → (flow : ℕ) (c : Contract) → IsTrusted c.terms → (column : Column)
    → audits.over_in (ground_of t) run flow c column ≡ over_in t sent flow c column
column_told t sent run sendable behind flow c trusted column =
    let curve = envelope_in column (source_of t.domain c) in
    let left = audits.sent_in column c (passages_of flow run) in
    let told = sent_in flow c column sent in
    let picks = λ (p : Passage). nat_eq p.packet.flow flow && was_sent_as (counts column) (sending_of c p) in
    let same : map (λ (p : Passage). p.packet) left ≡ map packet_sent told =
    ap (map (λ (p : Passage). p.packet)) (sent_kept t sent run sendable behind flow c column)
    ∙ filter_made t picks (is_counted flow c column) (counted_here t flow c column trusted) 0 sent run.passages (made_of t sent run behind) in
    let items : sent_items (counts column) c left ≡ map judgings.item_of told =
    items_sent column c (passages_of flow run) trusted
    ∙ map_through (λ (packet : Packet). (packet.begun, packet.size)) (λ (p : Passage). p.packet) packet_sent left told same in
    map_fused (λ (p : Passage). p.packet.number) (λ (n : ℕ). SourceOver flow column n) (option_and_then (slice_get left) (overflow_of curve.rate curve.burst (sent_items (counts column) c left)))
    ∙ ap (λ (list : List (ℕ × ℕ)). option_map (λ (n : ℕ). SourceOver flow column n) (option_map (λ (p : Passage). p.packet.number) (option_and_then (slice_get left) (overflow_of curve.rate curve.burst list)))) items
    ∙ ap (option_map (λ (n : ℕ). SourceOver flow column n))
    (get_through (λ (packet : Packet). packet.number) (λ (p : Passage). p.packet) packet_sent left told (overflow_of curve.rate curve.burst (map judgings.item_of told)) same)

by_told : (t : Table) (sent : List Sent) (run : Run) → AreSendable t sent → IsBehind t sent run → (flow : ℕ) (c : Contract) (terms : Terms) → c.terms ≡ terms
    → audits.over_by terms (ground_of t) run flow c ≡ over_by terms t sent flow c
by_told t sent run sendable behind flow c (Trusted committed peak) is =
    found_each (audits.over_in (ground_of t) run flow c) (over_in t sent flow c) each_column
    (column_told t sent run sendable behind flow c (subst IsTrusted (sym is) tt))
by_told t sent run sendable behind flow c (Policed parameters mode) is = refl

at_told : (t : Table) (sent : List Sent) (run : Run) → AreSendable t sent → IsBehind t sent run → (flow : ℕ) → audits.over_at (ground_of t) run flow ≡ over_at t sent flow
at_told t sent run sendable behind flow = by_found (contract_of (ground_of t) flow)
  where
    by_found : (found : Option Contract)
        → option_and_then (λ c. audits.over_by c.terms (ground_of t) run flow c) found ≡ option_and_then (λ c. over_by c.terms t sent flow c) found
    by_found None = refl
    by_found (Some c) = by_told t sent run sendable behind flow c c.terms refl

source_told : (t : Table) (sent : List Sent) (run : Run) → AreSendable t sent → IsBehind t sent run → source_of_run (ground_of t) run ≡ source_in t sent
source_told t sent run sendable behind =
    let count : length (take most_flows t.contracts) ≡ flow_count t = long t in
    ap (first_found (audits.over_at (ground_of t) run)) (keys_counted 0 (take most_flows t.contracts) ∙ ap (range_with_len 0) count)
    ∙ found_each (audits.over_at (ground_of t) run) (over_at t sent) (range_with_len 0 (flow_count t)) (at_told t sent run sendable behind)
  where
    long : (t : Table) → length (take most_flows t.contracts) ≡ flow_count t
    long t = omega (arith, length-take most_flows t.contracts)

-- ---- skew

-- each number is no greater than those behind it
unfoldable pub Climbs : List ℕ → Type 0
Climbs [] = ⊤
Climbs (m ∷ ms) = All (λ n. m ≤ n) ms × Climbs ms

before_climbs : (v w : Visit) → is_before v w ≡ true → v.moment ≤ w.moment
before_climbs v w before = by_numbers v.moment v.place v.hop.number w.moment w.place w.hop.number before
  where
    by_numbers : (m p h m' p' h' : ℕ) → (nat_lt m m' || nat_eq m m' && (nat_lt p p' || nat_eq p p' && nat_lt h h')) ≡ true → m ≤ m'
    by_numbers m p h m' p' h' before = grind (arith, nat_tests)

ascends_climbs : (visits : List Visit) → Ascends is_before visits → Climbs (map (λ v. v.moment) visits)
unfolding Ascends Climbs
ascends_climbs [] ascends = tt
ascends_climbs (v ∷ visits) ascends = (
  All-map (λ n. v.moment ≤ n) (λ (w : Visit). w.moment) visits (All-weaker (λ w. is_before v w ≡ true) (λ w. v.moment ≤ w.moment) (λ w before. before_climbs v w before) visits ascends.0),
  ascends_climbs visits ascends.1,
)

pub visits_climb : (t : Table) (sent : List Sent) (site : ℕ) → Climbs (map (λ v. v.moment) (visits_at t sent site))
unfolding visits_of
visits_climb t sent site =
    ascends_climbs (visits_at t sent site)
    (ascends-filter is_before (λ v. nat_eq v.hop.site site) (visits_of t sent)
    (in_order-rises is_before is_same visit_order (visits_from t 0 sent) (visits_differ t 0 sent)))

how_late : (newest moment : ℕ) → used newest moment - moment ≡ newest - moment
unfolding used
how_late newest moment = by_test (nat_lt newest moment) refl
  where
    by_test : (b : Bool) → nat_lt newest moment ≡ b → (if b then moment else newest) - moment ≡ newest - moment
    by_test true after = let below : newest < moment = grind (arith, nat_tests) in omega (arith, below)
    by_test false before = refl

-- what comes later than one that is not too late is not too late
none_late : (j : Journal) (m : AnyMeter) (place least : ℕ) (arrivals : List Arrival) → newest_of m - least ≤ j.skew → All (λ n. least ≤ n) (map (λ a. a.moment) arrivals)
    → Climbs (map (λ a. a.moment) arrivals) → first_found (late_row j) (rows_from m place arrivals) ≡ None
unfolding Climbs first_found
none_late j m place least [] kept after climbs = refl
none_late j m place least (a ∷ arrivals) kept after climbs =
    let next : least ≤ a.moment = All-head (λ n. least ≤ n) a.moment (map (λ (b : Arrival). b.moment) arrivals) after in
    let late = how_late (newest_of m) a.moment in
    let in_time : nat_le (used (newest_of m) a.moment - a.moment) j.skew ≡ true = passes (used (newest_of m) a.moment - a.moment) j.skew (omega (arith, late, kept, next)) in
    let goes_on = goes_on-any m (offer_of a) in
    ap (λ (b : Bool). first_of (if b then None else Some (Late j.site place (used (newest_of m) a.moment - a.moment))) (first_found (late_row j) (rows_from (after_any m (offer_of a)) (place + 1) arrivals))) in_time
    ∙ none_late j (after_any m (offer_of a)) (place + 1) a.moment arrivals (omega (arith, goes_on, late, kept, next)) climbs.0 climbs.1
  where
    passes : (x y : ℕ) → x ≤ y → nat_le x y ≡ true
    passes x y below = grind (arith, nat_tests)

-- only the first row can be the first that is too late
rows_told : (j : Journal) (arrivals : List Arrival) → Climbs (map (λ a. a.moment) arrivals)
    → first_found (late_row j) (rows_from j.opening 0 arrivals)
    ≡ option_and_then (λ m. late_with j.site m (record { meter = j.opening; skew = j.skew })) (slice_get (map (λ a. a.moment) arrivals) 0)
unfolding Climbs first_found
rows_told j [] climbs = refl
rows_told j (a ∷ arrivals) climbs =
    ap (λ (late : ℕ). first_of (if nat_le late j.skew then None else Some (Late j.site 0 late)) (first_found (late_row j) (rows_from (after_any j.opening (offer_of a)) 1 arrivals))) (how_late (newest_of j.opening) a.moment)
    ∙ by_test (nat_le (newest_of j.opening - a.moment) j.skew) refl
  where
    passed : (x y : ℕ) → nat_le x y ≡ true → x ≤ y
    passed x y passes = grind (arith, nat_tests)

    by_test : (b : Bool) → nat_le (newest_of j.opening - a.moment) j.skew ≡ b
        → first_of (if b then None else Some (Late j.site 0 (newest_of j.opening - a.moment))) (first_found (late_row j) (rows_from (after_any j.opening (offer_of a)) 1 arrivals))
        ≡ (if b then None else Some (Late j.site 0 (newest_of j.opening - a.moment)))
    by_test true in_time =
        let late = how_late (newest_of j.opening) a.moment in
        let goes_on = goes_on-any j.opening (offer_of a) in
        none_late j (after_any j.opening (offer_of a)) 1 a.moment arrivals (omega (arith, goes_on, late, passed (newest_of j.opening - a.moment) j.skew in_time)) climbs.0 climbs.1
    by_test false late = refl

shown_first : (visits : List Visit) → slice_get (map (λ v. v.moment) visits) 0 ≡ option_map (λ v. v.moment) (slice_get visits 0)
shown_first [] = refl
shown_first (v ∷ visits) = refl

journal_told : (t : Table) (sent : List Sent) (j : Journal) → opening_at (ground_of t) j.site ≡ Some (record { meter = j.opening; skew = j.skew })
    → map (λ a. a.moment) j.arrivals ≡ map (λ v. v.moment) (visits_at t sent j.site)
    → first_found (late_row j) (journal_rows j) ≡ late_at t sent j.site
journal_told t sent j own moments =
    rows_told j j.arrivals (subst Climbs (sym moments) (visits_climb t sent j.site))
    ∙ ap (λ (ms : List ℕ). option_and_then (λ m. late_with j.site m (record { meter = j.opening; skew = j.skew })) (slice_get ms 0)) moments
    ∙ ap (option_and_then (λ m. late_with j.site m (record { meter = j.opening; skew = j.skew }))) (shown_first (visits_at t sent j.site))
    ∙ ap (λ (found : Option Opening). option_and_then (λ m. option_and_then (late_with j.site m) found) (first_moment t sent j.site)) (sym own)

sites_kept : (t : Table) (sent : List Sent) (run : Run) → IsBehind t sent run → by_site run.journals ≡ run.journals
sites_kept t sent run behind =
    in_order-kept (λ (j k : Journal). nat_lt j.site k.site) (key_order (λ (j : Journal). j.site)) run.journals
    (λ i j d below short. is_less (get_or run.journals i d).site (get_or run.journals j d).site
    (AllPairs-of_map (λ (m n : ℕ). m < n) (λ (k : Journal). k.site) run.journals
    (subst (AllPairs (λ (m n : ℕ). m < n)) (sym behind.sites)
    (AllPairs-filter (λ (m n : ℕ). m < n) (λ site. is_some (opening_at (ground_of t) site)) (range_with_len 0 (site_count t)) (range_rises 0 (site_count t)))) i j d below short))
  where
    is_less : (m n : ℕ) → m < n → nat_lt m n ≡ true
    is_less m n below = grind (arith, nat_tests)

nowhere : (t : Table) (sent : List Sent) (site : ℕ) → is_some (opening_at (ground_of t) site) ≡ false → late_at t sent site ≡ None
nowhere t sent site none = by_found (opening_at (ground_of t) site) (first_moment t sent site) none
  where
    by_found : (found : Option Opening) (first : Option ℕ) → is_some found ≡ false → option_and_then (λ m. option_and_then (late_with site m) found) first ≡ None
    by_found (Some o) first none = absurd cc
    by_found None None none = refl
    by_found None (Some m) none = refl

skew_told : (t : Table) (sent : List Sent) (run : Run) → IsBehind t sent run → skew_of_run run ≡ skew_in t sent
skew_told t sent run behind =
    ap (first_found (λ j. first_found (late_row j) (journal_rows j))) (sites_kept t sent run behind)
    ∙ found_same (λ j. first_found (late_row j) (journal_rows j)) (λ j. late_at t sent j.site) run.journals
    (λ k d short. journal_told t sent (get_or run.journals k d) (behind.run.journals.own k d short) (behind.journals k d short))
    ∙ found_shown (λ (j : Journal). j.site) (late_at t sent) run.journals
    ∙ ap (first_found (late_at t sent)) behind.sites
    ∙ found_filter (λ site. is_some (opening_at (ground_of t) site)) (late_at t sent) (nowhere t sent) (range_with_len 0 (site_count t))

-- ---- all premises

pub run_is_judged : TheRunIsJudged
run_is_judged t sent run reach sendable behind =
    ap (λ (found : Option Verdict). unwrap_or (first_of found (first_of (source_of_run (ground_of t) run) (first_of (link_of_run (ground_of t) run) (skew_of_run run)))) Kept) (time_told t sent run sendable behind)
    ∙ ap (λ (found : Option Verdict). unwrap_or (first_of (time_in t sent) (first_of found (first_of (link_of_run (ground_of t) run) (skew_of_run run)))) Kept) (source_told t sent run sendable behind)
    ∙ ap (λ (found : Option Verdict). unwrap_or (first_of (time_in t sent) (first_of (source_in t sent) (first_of found (skew_of_run run)))) Kept) (link_told t sent run reach sendable behind)
    ∙ ap (λ (found : Option Verdict). unwrap_or (first_of (time_in t sent) (first_of (source_in t sent) found)) Kept) (skew_told t sent run behind)
