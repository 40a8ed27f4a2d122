-- What comes to a meter keeps what the checker added up for it.
use Rattle.std.proofs.Common.{◌≡◌, ℕ, ◌+◌, ◌-◌, ◌*◌, ◌<◌, ◌≤◌, Bool, true, false, cond, List, [], ◌∷◌, ◌++◌, map, length, refl, sym, ◌∙◌, ap, arith, get_or, Some, None, find, nat_eq, slice_get, drop, option_map, option_to_list, Option, sum_by, filter, flat_map, All}
use Rattle.std.specs.Option.{ForSome}
use Rattle.std.proofs.lemmas.Bool.{false≢true}
use Rattle.std.proofs.lemmas.Bool.Decides.{nat_tests}
use Rattle.std.proofs.lemmas.List.Elements.{All-filter, filter_passes}
use Rattle.std.proofs.lemmas.List.Sorted.{sum_by-IsPermutation}
use Rattle.std.proofs.lemmas.Option.{none-some, same_Some, slice_get_within}
use Rattle.moment_core.specs.declared.colour.Colour.{Colour}
use Rattle.moment_core.specs.Columns.{counts}
use Rattle.moment_core.specs.declared.column.Column.{Column}
use Rattle.moment_core.specs.Conformance.{size_within, Keeps}
use Rattle.moment_core.specs.Volume.{bytes_over}
use Rattle.envelope_core.specs.Curve.{Curve, KeepsCurve, KeepsCurveUpTo}
use Rattle.envelope_core.proofs.Reserved as shares
use Rattle.envelope_core.proofs.Reserved.{IsPaid, paid-nothing, reserved-paid, shares-keep}
use Rattle.envelope_core.proofs.Windows.{sum_by-mono, sum_by-none, sum_by-map, sum_by-flat_map, sum_by-filter}
use Rattle.meter_book.specs.Replay.{Journal, journal_rows}
use Rattle.meter_book.specs.declared.row.Row.{Row}
use Rattle.ds_domain_base.specs.Domains.{Domain, meter_of}
use Rattle.ds_domain_base.specs.Sent.{came, has_peak}
use Rattle.ds_domain_base.specs.declared.contract.Contract.{Contract}
use Rattle.ds_domain_base.specs.declared.parts.Meter.{Meter}
use Rattle.ds_domain_base.specs.declared.terms.Terms.{Terms}
use Rattle.ds_domain_base.specs.declared.terms.Terms.TheVariants.{Trusted, Policed}
use Rattle.ds_certificate.specs.Bounds.{HasShape, Meets, MeetsIn}
use Rattle.ds_certificate.specs.Columns.{Bound, bytes_in, envelope_in}
use Rattle.ds_certificate.specs.Sources.{jitters_of, source_of}
use Rattle.ds_certificate.proofs.ColumnLaws.{in_column}
use Rattle.ds_checker.specs.Loads.{Share, bound_into, load, share_of}
use Rattle.ds_checker.proofs.WayLaws.{way_to}
use Rattle.ds_timeline.specs.Timelines.{IsHeld, IsRated, hold_in, is_reserved}
use Rattle.ds_timeline.specs.declared.reservation.Reservation.{Reservation}
use Rattle.ds_timeline.proofs.ReservedLaws.{found-own, held-over, is_reserved-at, never-reserved, shaped, some-and}
use Rattle.meter_fabric_base.specs.Grounds.{Ground, contract_of}
use Rattle.meter_fabric_base.specs.Openings.{meter_opening}
use Rattle.meter_fabric_base.specs.Sites.{edge_hops, hops_along, site_of}
use Rattle.meter_fabric_base.specs.Trails.{IsTrail, Packet}
use Rattle.meter_fabric_base.specs.declared.trail.Receipt.{Receipt}
use Rattle.run_audit.specs.Premises.{IsInTime, Premises}
use Rattle.run_audit.specs.Runs.{IsPassage, IsRun, Passage, Run, told, told_by}
use Rattle.run_audit.specs.Sendings.{Sending, passages_of, sending_by, sending_of}
use Rattle.run_audit.proofs.Journals.{ForEachSent, IsOver, Stands, each_sent, sent_from}
use Rattle.run_audit.proofs.Loads.{IsPartOf, gather, load-sum, load_of, part_of_load}
use Rattle.run_audit.proofs.Passages.{goes_along, item_of, moment_of, receipts_along, receipts_of, weight_of}
use Rattle.run_audit.proofs.Places.{apart_names, contract_keeps, fits_names, meters_known, named_meter}
use Rattle.run_audit.proofs.Ways.{All-crossing, All-flat_map, Goes, IsUsedBy, crossing, crossing-elsewhere, elsewhere, nat_eq-true, used_by}

-- ---- the packets of a contract

pub passages_of-contract : (g : Ground) (run : Run) (flow : ℕ) (c : Contract) → contract_of g flow ≡ Some c
    → All (λ p. contract_of g p.packet.flow ≡ Some c) (passages_of flow run)
passages_of-contract g run flow c is k e h =
    let p = get_or (passages_of flow run) k e in
    let passes : nat_eq p.packet.flow flow ≡ true = filter_passes (λ (q : Passage). nat_eq q.packet.flow flow) run.passages k e h in
    let same_flow : p.packet.flow ≡ flow = grind (arith, nat_tests) in
    ap (contract_of g) same_flow ∙ is

-- a flow that no contract has has no packets
of_nobody : (g : Ground) (run : Run) → IsRun g run → (flow : ℕ) → contract_of g flow ≡ None → (P : Passage → Type 0) → All P (passages_of flow run)
of_nobody g run is_run flow none P k e h =
    let is_flow = λ (q : Passage). nat_eq q.packet.flow flow in
    let p = get_or (passages_of flow run) k e in
    let passes : nat_eq p.packet.flow flow ≡ true = filter_passes is_flow run.passages k e h in
    let same_flow : p.packet.flow ≡ flow = grind (arith, nat_tests) in
    let (own, is_own, trail) = All-filter is_flow (IsPassage g) run.passages is_run.passages k e h in
    absurd (none-some own (sym none ∙ ap (contract_of g) (sym same_flow) ∙ is_own))

-- ---- their ways from the meters on

sent_goes : (d : Domain) (site skew : ℕ) (c : Contract) (sent : Option Sending)
    → ((s : Sending) → sent ≡ Some s → Goes d site skew c.port c.path s.moment s.receipts)
    → Goes d site skew c.port c.path (moment_of sent) (receipts_of sent)
unfolding Goes
sent_goes d site skew c None goes = tt
sent_goes d site skew c (Some s) goes = goes s refl

pub passages_go : (g : Ground) (rs : List Reservation) (run : Run) → IsOver g rs → IsRun g run → Premises g run
    → (site : ℕ) (entry : List ℕ × Meter) (j : Journal) → Stands run site (meter_opening entry.1) j
    → All (λ p. (c : Contract) → contract_of g p.packet.flow ≡ Some c → Goes g.domain site entry.1.skew c.port c.path (moment_of (sending_of c p)) (receipts_of (sending_of c p))) run.passages
passages_go g rs run good is_run premises site entry j stands k e h c is =
    let p = get_or run.passages k e in
    sent_goes g.domain site entry.1.skew c (sending_of c p)
    (λ s sent.
    goes_along g.domain site entry.1.skew p.packet 1 s.moment s.colour c.port c.path s.receipts
    (each_sent g rs run good is_run premises k e h c is s sent).trail
    (premises.link k e h c is s sent)
    (λ i d l at_site. sent_from run site (meter_opening entry.1) j (λ r. (r.arrival ≤ r.used) × (r.used ≤ r.arrival + entry.1.skew)) stands stands.used k e h c s sent i d l (grind (arith, nat_tests))))

-- ---- rows and the packets that they are of

-- what a row weighs that came with a colour that a test picks
abbrev row_weight : (Colour → Bool) → ℕ → ℕ → Row → ℕ
row_weight picked start end r = cond (picked r.came) (size_within start end (r.used, r.size)) 0

row_weight-le : (came sent : Bool) (used size all start end : ℕ) → (came ≡ true → sent ≡ true) → size ≡ all
    → cond came (size_within start end (used, size)) 0 ≤ size_within start end (used, cond sent all 0)
row_weight-le false sent used size all start end upward same = omega arith
row_weight-le true true used size all start end upward same = rw same (omega arith)
row_weight-le true false used size all start end upward same = absurd (false≢true (upward refl))

cond-le : (t : Bool) (m n : ℕ) → m ≤ n → cond t m 0 ≤ cond t n 0
cond-le true m n le = le
cond-le false m n le = omega arith

abbrev used_item : ℕ → Receipt → ℕ × ℕ
used_item weight r = (r.row.used, weight)

rows_within : (picked : Colour → Bool) (site start end size : ℕ) (colour : Colour) (rs : List Receipt)
    → All (λ r. (picked r.row.came ≡ true → picked colour ≡ true) × (r.row.size ≡ size)) rs
    → sum_by (row_weight picked start end) (map (λ r. r.row) (filter (λ r. nat_eq r.site site) rs))
    ≤ sum_by (size_within start end) (crossing site (cond (picked colour) size 0) rs)
rows_within picked site start end size colour rs each =
    let weigh = size_within start end in
    let here = λ (r : Receipt). nat_eq r.site site in
    let row = λ (r : Receipt). r.row in
    let item = used_item (cond (picked colour) size 0) in
    let less = sum_by-mono (λ r. cond (here r) (row_weight picked start end r.row) 0) (λ r. cond (here r) (weigh (item r)) 0) rs
    (λ k e h. let r = get_or rs k e in
    cond-le (here r) (row_weight picked start end r.row) (weigh (item r))
    (row_weight-le (picked r.row.came) (picked colour) r.row.used r.row.size size start end (each k e h).0 (each k e h).1)) in
    omega (arith, less, sum_by-map (row_weight picked start end) row (filter here rs), sum_by-map weigh item (filter here rs), sum_by-filter (λ r. row_weight picked start end r.row) here rs, sum_by-filter (λ r. weigh (item r)) here rs)

-- at a meter only the receipts since it was sent count
receipts_sent : (d : Domain) (flow site : ℕ) (packet : Packet) (begun : ℕ) (came : Colour) (terms : Terms) (path : List (List ℕ)) (receipts : List Receipt)
    → site < length d.meters
    → IsTrail packet begun came (edge_hops d flow terms ++ hops_along d 1 path) receipts
    → filter (λ r. nat_eq r.site site) receipts ≡ filter (λ r. nat_eq r.site site) (receipts_of (sending_by terms came begun receipts))
unfolding IsTrail
receipts_sent d flow site packet begun came (Trusted committed peak) path receipts low trail = refl
receipts_sent d flow site packet begun came (Policed parameters mode) path [] low trail = refl
receipts_sent d flow site packet begun came (Policed parameters mode) path (edge ∷ receipts) low trail =
    let at_edge : edge.site ≡ length d.meters + flow = trail.0.site in
    let other : nat_eq edge.site site ≡ false = grind (arith, nat_tests) in
    rw other refl

sent_within : (picked : Colour → Bool) (site start end size : ℕ) (sent : Option Sending)
    → ((s : Sending) → sent ≡ Some s → All (λ r. (picked r.row.came ≡ true → picked s.colour ≡ true) × (r.row.size ≡ size)) s.receipts)
    → sum_by (row_weight picked start end) (map (λ r. r.row) (filter (λ r. nat_eq r.site site) (receipts_of sent)))
    ≤ sum_by (size_within start end) (crossing site (weight_of picked size sent) (receipts_of sent))
sent_within picked site start end size None each = omega arith
sent_within picked site start end size (Some s) each = rows_within picked site start end size s.colour s.receipts (each s refl)

-- ---- all contracts together

-- what was sent keeps what its source keeps in a column
abbrev pub SourcesKeep : Ground → Run → Column → Type 0
SourcesKeep g run column =
    (flow : ℕ) (c : Contract) → contract_of g flow ≡ Some c
    → Keeps (envelope_in column (source_of g.domain c)).rate (envelope_in column (source_of g.domain c)).burst (map (item_of (counts column) c) (passages_of flow run))

-- what comes in with a colour that a test picks was sent with such a colour
abbrev pub ComesAsSent : Ground → Run → (Colour → Bool) → Type 0
ComesAsSent g run picked = ForEachSent g run (λ p c s. All (λ r. picked r.row.came ≡ true → picked s.colour ≡ true) s.receipts)

abbrev pub row_items : (Colour → Bool) → List Row → List (ℕ × ℕ)
row_items picked rows = map (λ r. (r.used, r.size)) (filter (λ r. picked r.came) rows)

-- a share that counts
abbrev pub is_among : (Bool → Bool) → Share → Bool
is_among among share = among share.has_peak

abbrev part_at : (Colour → Bool) → ℕ → Contract → Passage → List (ℕ × ℕ)
part_at picked site c p = crossing site (weight_of picked p.packet.size (sending_of c p)) (receipts_of (sending_of c p))

-- a passage brings no more to a meter than it does as one of its contract
passage_part : (g : Ground) (rs : List Reservation) (run : Run) → IsOver g rs → IsRun g run → Premises g run → (picked : Colour → Bool) → ComesAsSent g run picked
    → (site start end : ℕ) → site < length g.domain.meters
    → All (λ p. 0 < sum_by (row_weight picked start end) (told_by site p)
    → IsPartOf (λ (r : Reservation). r.flow) (λ r. part_at picked site r.contract) start end rs p.packet.flow p (sum_by (row_weight picked start end) (told_by site p))) run.passages
passage_part g rs run good is_run premises picked comes site start end low k e h some =
    let p = get_or run.passages k e in
    let (c, is, trail) = is_run.passages k e h in
    let granted = good.granted p.packet.flow c is in
    let same = receipts_sent g.domain p.packet.flow site p.packet p.packet.begun (came c p.packet.dscp) c.terms c.path p.receipts low trail in
    let less = sent_within picked site start end p.packet.size (sending_of c p)
    (λ s sent i d l. (
      comes k e h c is s sent i d l,
      receipts_along g.domain p.packet 1 s.moment s.colour c.path s.receipts (λ r. r.row.size ≡ p.packet.size) (λ n x m r site size. size)
          (each_sent g rs run good is_run premises k e h c is s sent).trail i d l,
    )) in
    (granted.reservation, granted.found, rw (granted.contract, same) less)

-- a share that counts stands for its contract
share_counts : (among : Bool → Bool) (d : Domain) (c : Contract) (found : Option Bound) → among (has_peak c.terms) ≡ true
    → filter (is_among among) (option_to_list (option_map (λ bound. record { source = source_of d c; bound = bound; has_peak = has_peak c.terms }) found))
    ≡ option_to_list (option_map (λ bound. record { source = source_of d c; bound = bound; has_peak = has_peak c.terms }) found)
share_counts among d c None counted = refl
share_counts among d c (Some bound) counted = rw counted refl

size_within-none : (start end used : ℕ) → size_within start end (used, 0) ≡ 0
size_within-none start end used = grind arith

crossing-weightless : (site start end : ℕ) (rs : List Receipt) → sum_by (size_within start end) (crossing site 0 rs) ≡ 0
crossing-weightless site start end rs =
    let here = λ (r : Receipt). nat_eq r.site site in
    sum_by-map (size_within start end) (used_item 0) (filter here rs)
    ∙ sum_by-none (λ r. size_within start end (used_item 0 r)) (filter here rs) (λ k e h. size_within-none start end (get_or (filter here rs) k e).row.used)

-- ---- what a reservation brings, which its share pays for

-- what is known of a reservation
record IsKnown (g : Ground) (rs : List Reservation) (r : Reservation) : Type 0 where
  own : find (λ x. nat_eq x.flow r.flow) rs ≡ Some r
  begun : r.from ≤ r.contract.lifetime.since
  held : IsHeld g.domain r
  rated : IsRated g.domain r
  shape : is_reserved r r.from ≡ true → HasShape g.domain r.contract r.bounds × Meets g.domain r.contract r.bounds

each_known : (g : Ground) (rs : List Reservation) → IsOver g rs → All (IsKnown g rs) rs
each_known g rs good k e h = record {
  own = found-own rs good.covered.apart k e h;
  begun = good.covered.begun k e h;
  held = good.covered.held k e h;
  rated = good.rated k e h;
  shape = shaped (record { domain = g.domain; reservations = rs }) good.covered (get_or rs k e).from k e h;
}

-- when a packet that was sent is used at a site
sent_used : (site way skew : ℕ) (sent : Option Sending) (P : ℕ → Type 0) → IsUsedBy site (moment_of sent) (moment_of sent + way + skew) (receipts_of sent)
    → ((s : Sending) → sent ≡ Some s → (used : ℕ) → s.moment ≤ used → used ≤ s.moment + way + skew → P used)
    → All (λ r. r.site ≡ site → P r.row.used) (receipts_of sent)
sent_used site way skew None P times holds k e h = absurd (omega (arith, h))
sent_used site way skew (Some s) P times holds k e h = λ here. let used = times k e h here in holds s refl _ used.0 used.1

-- what is never sent has no receipts
unsent : (sent : Option Sending) → ((s : Sending) → sent ≡ Some s → ⊥) → receipts_of sent ≡ []
unsent None never = refl
unsent (Some s) never = absurd (never s refl)

nothing_brought : {P : Type 0} (start end : ℕ) (some : P → List (ℕ × ℕ)) (ps : List P) → All (λ p. sum_by (size_within start end) (some p) ≡ 0) ps
    → sum_by (size_within start end) (flat_map some ps) ≡ 0
nothing_brought start end some ps none = sum_by-flat_map (size_within start end) some ps ∙ sum_by-none (λ p. sum_by (size_within start end) (some p)) ps none

nothing_more : (rate burst time : ℕ) → 8000000000 * burst ≤ rate * time → 8000000000 * (0 + burst) ≤ (0 + rate) * time
nothing_more rate burst time paid = let same : 0 + rate ≡ rate = omega arith in rw same (omega (arith, paid))

-- the share of a path that leads to the meter pays for what comes over it
share_paid : (d : Domain) (skew : ℕ) (column : Column) (c : Contract) (from : ℕ) (retirement : Option ℕ) (reserved : ℕ → Bool) (items : List (ℕ × ℕ)) (found : Option Bound)
    → KeepsCurve (load column skew (option_to_list (option_map (λ bound. record { source = source_of d c; bound = bound; has_peak = has_peak c.terms }) found))) items
    → All (λ item. from ≤ item.0) items
    → ((bound : Bound) → found ≡ Some bound
    → ForSome retirement (λ moment. shares.IsOver (envelope_in column (source_of d c)).rate (bytes_in column bound + bytes_over (envelope_in column (source_of d c)).rate skew) moment items))
    → ((moment : ℕ) → from ≤ moment → ForSome retirement (λ end. moment < end) → reserved moment ≡ true)
    → IsPaid (load column skew (option_to_list (option_map (λ bound. record { source = source_of d c; bound = bound; has_peak = has_peak c.terms }) found))).rate
    (load column skew (option_to_list (option_map (λ bound. record { source = source_of d c; bound = bound; has_peak = has_peak c.terms }) found))).burst reserved items
share_paid d skew column c from retirement reserved items None kept begun over held =
    paid-nothing 0 0 reserved items (λ start end ordered. let none = kept start end ordered in omega (arith, none))
share_paid d skew column c from retirement reserved items (Some bound) kept begun over held =
    let rate = (envelope_in column (source_of d c)).rate in
    let burst = bytes_in column bound + bytes_over rate skew in
    reserved-paid (0 + rate) (0 + burst) from retirement reserved items kept begun
    (λ moment is.
    let o = over bound refl moment is in
    record { last = o.last; ended = o.ended; held = o.held; burst_paid = nothing_more rate burst (moment - o.last) o.burst_paid })
    held

-- ---- at a meter, in a column

-- A run over a timeline, and a meter of its domain with its journal: what was sent keeps its sources in a column, and what
-- does not count there weighs nothing.
pub record AtMeter (g : Ground) (rs : List Reservation) (run : Run) (column : Column) (among : Bool → Bool) (site : ℕ) (entry : List ℕ × Meter) : Type 0 where
  pub over : IsOver g rs
  pub is_run : IsRun g run
  pub premises : Premises g run
  pub sources : SourcesKeep g run column
  pub light : (c : Contract) (p : Passage) → among (has_peak c.terms) ≡ false → weight_of (counts column) p.packet.size (sending_of c p) ≡ 0
  pub journal : Journal
  pub there : slice_get g.domain.meters site ≡ Some entry
  pub stands : Stands run site (meter_opening entry.1) journal

-- what the packets of a reservation bring
abbrev brought : Column → ℕ → Run → Reservation → List (ℕ × ℕ)
brought column site run r = flat_map (part_at (counts column) site r.contract) (passages_of r.flow run)

-- its share pays for it
abbrev IsPaidFor : Ground → Run → Column → (Bool → Bool) → ℕ → List ℕ × Meter → Reservation → Type 0
IsPaidFor g run column among site entry r =
    IsPaid (part_of_load g.domain entry.0 entry.1.skew column (is_among among) r).rate (part_of_load g.domain entry.0 entry.1.skew column (is_among among) r).burst
    (is_reserved r) (brought column site run r)

-- where its packets bring nothing
paid_for-nothing : (g : Ground) (run : Run) (column : Column) (among : Bool → Bool) (site : ℕ) (entry : List ℕ × Meter) (r : Reservation)
    → ((start end : ℕ) → All (λ p. sum_by (size_within start end) (part_at (counts column) site r.contract p) ≡ 0) (passages_of r.flow run))
    → IsPaidFor g run column among site entry r
paid_for-nothing g run column among site entry r none =
    let curve = part_of_load g.domain entry.0 entry.1.skew column (is_among among) r in
    paid-nothing curve.rate curve.burst (is_reserved r) (brought column site run r)
    (λ start end ordered. nothing_brought start end (part_at (counts column) site r.contract) (passages_of r.flow run) (none start end))

-- each of its packets is sent in time
sent_in_time : (g : Ground) (run : Run) → Premises g run → (r : Reservation) → contract_of g r.flow ≡ Some r.contract
    → All (λ p. (s : Sending) → sending_of r.contract p ≡ Some s → IsInTime r.contract s) (passages_of r.flow run)
sent_in_time g run premises r is k e h s sent =
    All-filter (λ p. nat_eq p.packet.flow r.flow)
    (λ p. (x : Contract) → contract_of g p.packet.flow ≡ Some x → (y : Sending) → sending_of x p ≡ Some y → IsInTime x y) run.passages premises.time k e h
    r.contract (passages_of-contract g run r.flow r.contract is k e h) s sent

-- and goes its way
sent_goes_on : (g : Ground) (rs : List Reservation) (run : Run) (column : Column) (among : Bool → Bool) (site : ℕ) (entry : List ℕ × Meter) → AtMeter g rs run column among site entry
    → (r : Reservation) → contract_of g r.flow ≡ Some r.contract
    → All (λ p. Goes g.domain site entry.1.skew r.contract.port r.contract.path (moment_of (sending_of r.contract p)) (receipts_of (sending_of r.contract p))) (passages_of r.flow run)
sent_goes_on g rs run column among site entry at r is k e h =
    All-filter (λ p. nat_eq p.packet.flow r.flow)
    (λ p. (x : Contract) → contract_of g p.packet.flow ≡ Some x → Goes g.domain site entry.1.skew x.port x.path (moment_of (sending_of x p)) (receipts_of (sending_of x p)))
    run.passages (passages_go g rs run at.over at.is_run at.premises site entry at.journal at.stands) k e h r.contract (passages_of-contract g run r.flow r.contract is k e h)

-- whose share is never reserved sends nothing
never_sent : (g : Ground) (rs : List Reservation) (run : Run) → Premises g run → (r : Reservation) → IsKnown g rs r → contract_of g r.flow ≡ Some r.contract → is_reserved r r.from ≡ false
    → All (λ p. receipts_of (sending_of r.contract p) ≡ []) (passages_of r.flow run)
never_sent g rs run premises r known is free k e h =
    unsent (sending_of r.contract (get_or (passages_of r.flow run) k e))
    (λ s sent.
    let in_time = sent_in_time g run premises r is k e h s sent in
    let retired = never-reserved r free in
    let (until, ended, held) = some-and (λ until. until + hold_in g.domain r ≤ retired.retirement) r.contract.lifetime.until (known.held retired.retirement retired.is) in
    let early = in_time.1 until ended in
    absurd (omega (arith, in_time.0, early, held, retired.early, known.begun)))

-- ---- where a path leads to the meter

-- what holds of the moments at which its packets are used there holds of what they bring
brought_used : (g : Ground) (run : Run) (column : Column) (site way skew : ℕ) (r : Reservation) (P : ℕ → Type 0)
    → All (λ p. IsUsedBy site (moment_of (sending_of r.contract p)) (moment_of (sending_of r.contract p) + way + skew) (receipts_of (sending_of r.contract p))) (passages_of r.flow run)
    → All (λ p. (s : Sending) → sending_of r.contract p ≡ Some s → IsInTime r.contract s) (passages_of r.flow run)
    → ((s : Sending) → IsInTime r.contract s → (used : ℕ) → s.moment ≤ used → used ≤ s.moment + way + skew → P used)
    → All (λ item. P item.0) (brought column site run r)
brought_used g run column site way skew r P times in_time holds =
    All-flat_map (λ item. P item.0) (part_at (counts column) site r.contract) (passages_of r.flow run)
    (λ k e h.
    let p = get_or (passages_of r.flow run) k e in
    All-crossing (λ item. P item.0) site (weight_of (counts column) p.packet.size (sending_of r.contract p)) (receipts_of (sending_of r.contract p))
    (sent_used site way skew (sending_of r.contract p) P (times k e h) (λ s sent used since by. holds s (in_time k e h s sent) used since by)))

paid_on_path : (g : Ground) (rs : List Reservation) (run : Run) (column : Column) (among : Bool → Bool) (site : ℕ) (entry : List ℕ × Meter) → AtMeter g rs run column among site entry
    → (r : Reservation) → IsKnown g rs r → contract_of g r.flow ≡ Some r.contract
    → HasShape g.domain r.contract r.bounds × Meets g.domain r.contract r.bounds
    → meter_of g.domain entry.0 ≡ Some entry.1
    → IsPaid (load column entry.1.skew (share_of g.domain entry.0 r.contract r.bounds)).rate (load column entry.1.skew (share_of g.domain entry.0 r.contract r.bounds)).burst
    (is_reserved r) (brought column site run r)
paid_on_path g rs run column among site entry at r known is ok is_meter =
    let d = g.domain in
    let c = r.contract in
    let way = way_to d entry.0 c.port c.path in
    let skew = entry.1.skew in
    let names = fits_names d c ok.0.0 in
    let apart = apart_names d entry.0 entry.1 site c.path at.there (meters_known d c.path names.0) in
    let goes = sent_goes_on g rs run column among site entry at r is in
    let in_time = sent_in_time g run at.premises r is in
    let times : All (λ p. IsUsedBy site (moment_of (sending_of c p)) (moment_of (sending_of c p) + way + skew) (receipts_of (sending_of c p))) (passages_of r.flow run) =
    λ k e h. let p = get_or (passages_of r.flow run) k e in
    used_by d entry.0 site skew c.port c.path (moment_of (sending_of c p)) (receipts_of (sending_of c p)) apart names.1 (goes k e h)
    in
    let kept = contract_keeps d entry.0 site skew column (counts column) c r.bounds (passages_of r.flow run) ok.0
    (in_column (λ k. MeetsIn k (source_of d c) (jitters_of d c) r.bounds) ok.1 column) apart goes (at.sources r.flow c is)
    in
    share_paid d skew column c r.from r.retirement (is_reserved r) (brought column site run r) (bound_into entry.0 c.path (drop 1 r.bounds)) kept
    (brought_used g run column site way skew r (λ used. r.from ≤ used) times in_time (λ s sent used since by. omega (arith, known.begun, sent.0, since)))
    (λ bound leads moment retired.
    let over = held-over d r entry.0 entry.1 column bound known.held known.rated leads is_meter moment retired in
    record {
      last = over.until + way + skew;
      ended = brought_used g run column site way skew r (λ used. used ≤ over.until + way + skew) times in_time
          (λ s sent used since by. let early = sent.1 over.until over.ended in omega (arith, early, by));
      held = over.held;
      burst_paid = over.paid;
    })
    (λ moment begun early. is_reserved-at r moment begun early)

-- ---- each reservation

same_test : (m n : ℕ) → m ≡ n → nat_eq m n ≡ true
same_test m n same = grind (arith, nat_tests, same)

paid_reserved : (g : Ground) (rs : List Reservation) (run : Run) (column : Column) (among : Bool → Bool) (site : ℕ) (entry : List ℕ × Meter) → AtMeter g rs run column among site entry
    → (r : Reservation) → IsKnown g rs r → contract_of g r.flow ≡ Some r.contract
    → HasShape g.domain r.contract r.bounds × Meets g.domain r.contract r.bounds
    → IsPaidFor g run column among site entry r
paid_reserved g rs run column among site entry at r known is ok = by_count (among (has_peak r.contract.terms)) refl (nat_eq (site_of g.domain entry.0) site) refl
  where
    by_count : (b : Bool) → among (has_peak r.contract.terms) ≡ b → (there : Bool) → nat_eq (site_of g.domain entry.0) site ≡ there → IsPaidFor g run column among site entry r
    by_count false uncounted there at_site =
        paid_for-nothing g run column among site entry r
        (λ start end k e h.
        let p = get_or (passages_of r.flow run) k e in
        ap (λ w. sum_by (size_within start end) (crossing site w (receipts_of (sending_of r.contract p)))) (at.light r.contract p uncounted)
        ∙ crossing-weightless site start end (receipts_of (sending_of r.contract p)))
    by_count true counted false apart =
        paid_for-nothing g run column among site entry r
        (λ start end k e h.
        let p = get_or (passages_of r.flow run) k e in
        ap (sum_by (size_within start end))
        (crossing-elsewhere site (weight_of (counts column) p.packet.size (sending_of r.contract p)) (receipts_of (sending_of r.contract p))
        (elsewhere g.domain entry.0 site entry.1.skew r.contract.port r.contract.path (moment_of (sending_of r.contract p)) (receipts_of (sending_of r.contract p))
        (apart_names g.domain entry.0 entry.1 site r.contract.path at.there (meters_known g.domain r.contract.path (fits_names g.domain r.contract ok.0.0).0))
        (λ same. absurd (false≢true (sym apart ∙ same_test (site_of g.domain entry.0) site same)))
        (sent_goes_on g rs run column among site entry at r is k e h))))
    by_count true counted true here =
        rw (share_counts among g.domain r.contract (bound_into entry.0 r.contract.path (drop 1 r.bounds)) counted)
        (paid_on_path g rs run column among site entry at r known is ok
        (named_meter g.domain entry.0 entry.1 site at.there (nat_eq-true (site_of g.domain entry.0) site here)))

reservation_paid : (g : Ground) (rs : List Reservation) (run : Run) (column : Column) (among : Bool → Bool) (site : ℕ) (entry : List ℕ × Meter) → AtMeter g rs run column among site entry
    → (r : Reservation) → IsKnown g rs r → IsPaidFor g run column among site entry r
reservation_paid g rs run column among site entry at r known = by_contract (contract_of g r.flow) refl
  where
    by_begin : contract_of g r.flow ≡ Some r.contract → (b : Bool) → is_reserved r r.from ≡ b → IsPaidFor g run column among site entry r
    by_begin is true reserved = paid_reserved g rs run column among site entry at r known is (known.shape reserved)
    by_begin is false free =
        paid_for-nothing g run column among site entry r
        (λ start end k e h.
        let p = get_or (passages_of r.flow run) k e in
        ap (λ receipts. sum_by (size_within start end) (crossing site (weight_of (counts column) p.packet.size (sending_of r.contract p)) receipts))
        (never_sent g rs run at.premises r known is free k e h))

    by_contract : (found : Option Contract) → contract_of g r.flow ≡ found → IsPaidFor g run column among site entry r
    by_contract None none =
        paid_for-nothing g run column among site entry r
        (λ start end. of_nobody g run at.is_run r.flow none (λ p. sum_by (size_within start end) (part_at (counts column) site r.contract p) ≡ 0))
    by_contract (Some c) is =
        let granted = at.over.granted r.flow c is in
        let own : r ≡ granted.reservation = same_Some r granted.reservation (sym known.own ∙ granted.found) in
        by_begin (is ∙ ap (λ x. Some x) (sym (ap (λ x. x.contract) own ∙ granted.contract))) (is_reserved r r.from) refl

-- ---- all of them together

-- What comes to a meter in a column keeps a limit in the windows that end at a moment, if at no moment the rates of what is
-- reserved are above its rate, and at that moment the bursts are not above its burst.
pub input_keeps : (g : Ground) (rs : List Reservation) (run : Run) (column : Column) (among : Bool → Bool) (site : ℕ) (entry : List ℕ × Meter) → (at : AtMeter g rs run column among site entry)
    → ComesAsSent g run (counts column)
    → (limit : Curve)
    → ((moment : ℕ) → (load_of g.domain entry.0 entry.1.skew column (is_among among) (filter (λ r. is_reserved r moment) rs)).rate ≤ limit.rate)
    → (end : ℕ) → (load_of g.domain entry.0 entry.1.skew column (is_among among) (filter (λ r. is_reserved r end) rs)).burst ≤ limit.burst
    → KeepsCurveUpTo end limit (row_items (counts column) (journal_rows at.journal))
input_keeps g rs run column among site entry at comes limit rates end burst start ordered =
    let rows = journal_rows at.journal in
    let weigh = size_within start end in
    let part = part_of_load g.domain entry.0 entry.1.skew column (is_among among) in
    let low : site < length g.domain.meters = slice_get_within g.domain.meters site entry at.there in
    let gathered = gather (λ (p : Passage). p.packet.flow) (λ (r : Reservation). r.flow) (λ r. part_at (counts column) site r.contract) run.passages start end rs
    (λ p. sum_by (row_weight (counts column) start end) (told_by site p))
    (passage_part g rs run at.over at.is_run at.premises (counts column) comes site start end low) in
    let whole = shares-keep (λ r. (part r).rate) (λ r. (part r).burst) is_reserved (brought column site run) rs limit.rate limit.burst
    (λ k e h. reservation_paid g rs run column among site entry at (get_or rs k e) (each_known g rs at.over k e h))
    (λ moment. omega (arith, rates moment, (load-sum g.domain entry.0 entry.1.skew column (is_among among) (filter (λ r. is_reserved r moment) rs)).0))
    end (omega (arith, burst, (load-sum g.domain entry.0 entry.1.skew column (is_among among) (filter (λ r. is_reserved r end) rs)).1)) start ordered in
    omega (
      arith,
      gathered,
      whole,
      sum_by-map weigh (λ (r : Row). (r.used, r.size)) (filter (λ r. counts column r.came) rows),
      sum_by-filter (λ (r : Row). weigh (r.used, r.size)) (λ r. counts column r.came) rows,
      sum_by-IsPermutation (row_weight (counts column) start end) (told site run.passages) rows at.stands.rows,
      sum_by-flat_map (row_weight (counts column) start end) (told_by site) run.passages,
    )
