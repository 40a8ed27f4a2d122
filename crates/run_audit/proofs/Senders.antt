-- What is sent into a domain keeps the envelopes of its source.
use Rattle.std.proofs.Common.{◌≡◌, ℕ, ◌+◌, ◌-◌, ◌≤◌, inl, inr, Bool, true, false, cond, List, [], ◌∷◌, ◌++◌, map, length, refl, sym, ◌∙◌, ap, subst, arith, get_or, Some, None, nat_eq, nat_lt, not, ◌&&◌, Option, if◌then◌else◌, sum_by, filter, All}
use Rattle.std.proofs.lemmas.Bool.{false≢true}
use Rattle.std.proofs.lemmas.Bool.Decides.{nat_tests}
use Rattle.std.proofs.lemmas.List.Elements.{All-filter, filter_passes}
use Rattle.std.proofs.lemmas.List.Sums.{sum_by-cons}
use Rattle.std.proofs.lemmas.List.Sorted.{sum_by-IsPermutation}
use Rattle.std.proofs.lemmas.Option.{same_Some}
use Rattle.moment_core.specs.declared.colour.Colour.{Colour}
use Rattle.moment_core.specs.declared.colour.Colour.TheVariants.{Green, Yellow, Red}
use Rattle.moment_core.specs.declared.colour.Mode.{Mode}
use Rattle.moment_core.specs.Colours.{is_in_profile, is_yellow}
use Rattle.moment_core.specs.Columns.{counts}
use Rattle.moment_core.specs.Conformance.{size_within}
use Rattle.moment_core.specs.declared.column.Column.{Column}
use Rattle.moment_core.specs.declared.column.Column.TheVariants as columns
use Rattle.envelope_core.specs.Curve.{Curve, KeepsCurve, widened}
use Rattle.envelope_core.proofs.Windows.{Keeps-lighter, bytes_delayed, size_within_cases, size_within_inside, sum_by-mono, sum_by-map, sum_by-flat_map, sum_by-filter}
use Rattle.meter_book_base.specs.AnyMeter.{opening_of}
use Rattle.meter_book_base.specs.Envelopes.{output_in}
use Rattle.meter_book.specs.Laws.{row_output}
use Rattle.meter_book.specs.Replay.{Journal, journal_rows, replay}
use Rattle.meter_book_base.specs.declared.any_meter.Parameters.{Parameters}
use Rattle.meter_book.specs.declared.row.Row.{Row}
use Rattle.meter_book.proofs.RowLaws.{opened_rows_keep}
use Rattle.ds_domain_base.specs.Domains.{Domain, port_of, skew_of}
use Rattle.ds_domain_base.specs.Sent.{came, has_peak, shown}
use Rattle.ds_domain_base.specs.declared.contract.Contract.{Contract}
use Rattle.ds_domain_base.specs.declared.parts.Version.{Version}
use Rattle.ds_domain_base.specs.declared.parts.Version.TheVariants.{One, Two, Three}
use Rattle.ds_domain_base.specs.declared.terms.Terms.{Terms}
use Rattle.ds_domain_base.specs.declared.terms.Terms.TheVariants.{Trusted, Policed}
use Rattle.ds_certificate.specs.Columns.{envelope_in}
use Rattle.ds_certificate.specs.Sources.{source_by, source_of}
use Rattle.ds_certificate.proofs.ColumnLaws.{in_column}
use Rattle.meter_fabric_base.specs.Grounds.{Ground, contract_of}
use Rattle.meter_fabric_base.specs.Openings.{opening_at}
use Rattle.meter_fabric_base.specs.Sites.{edge_hops, hops_along, hops_of}
use Rattle.meter_fabric_base.specs.Trails.{IsTrail, Packet}
use Rattle.meter_fabric_base.specs.declared.site.Opening.{Opening}
use Rattle.meter_fabric_base.specs.declared.trail.Receipt.{Receipt}
use Rattle.run_audit.specs.Premises.{IsTrusted, Premises}
use Rattle.run_audit.specs.Runs.{IsRun, Passage, Run, told, told_by}
use Rattle.run_audit.specs.Sendings.{Sending, passages_of, sending_by, sending_of, sent_items}
use Rattle.run_audit.proofs.Inputs.{SourcesKeep, passages_of-contract}
use Rattle.run_audit.proofs.Journals.{Stands, journal_at, receipts_from}
use Rattle.run_audit.proofs.Passages.{Keeps-sent, item_of, moment_of, weight_of}

-- ---- what left an edge

-- what a row weighs that left with a colour that a test picks
abbrev left_weight : (Colour → Bool) → ℕ → ℕ → Row → ℕ
left_weight picked start end r = cond (picked r.left) (size_within start end (r.used, r.size)) 0

-- what arrived in a window was used in a window that is longer by the skew
weight_back : (b : Bool) (arrival used size all skew start end : ℕ) → (arrival ≤ used) × (used ≤ arrival + skew) → size ≡ all
    → size_within start end (arrival, cond b all 0) ≤ cond b (size_within start (end + skew) (used, size)) 0
weight_back true arrival used size all skew start end late same =
    elim (size_within_cases start end (arrival, all)) [
      | inl inside ↦
          let there = size_within_inside start (end + skew) (used, size) (omega (arith, inside.0, late.0)) (omega (arith, inside.1, late.1)) in
          omega (arith, there, inside.2, same)
      | inr outside ↦ omega (arith, outside.1)
    ]
weight_back false arrival used size all skew start end late same =
    elim (size_within_cases start end (arrival, 0)) [ inl inside ↦ omega (arith, inside.2) | inr outside ↦ omega (arith, outside.1) ]

weight_none : (start end : ℕ) → size_within start end (0, 0) ≤ 0
weight_none start end = grind arith

-- what a packet was sent with weighs no more than its row at the edge
edge_weight : (d : Domain) (flow : ℕ) (packet : Packet) (begun : ℕ) (came : Colour) (parameters : Parameters) (mode : Mode) (path : List (List ℕ)) (receipts : List Receipt)
    (picked : Colour → Bool) (site skew start end : ℕ) → site ≡ length d.meters + flow
    → IsTrail packet begun came (edge_hops d flow (Policed parameters mode) ++ hops_along d 1 path) receipts
    → All (λ r. nat_eq r.site site ≡ true → (r.row.arrival ≤ r.row.used) × (r.row.used ≤ r.row.arrival + skew)) receipts
    → size_within start end (moment_of (sending_by (Policed parameters mode) came begun receipts), weight_of picked packet.size (sending_by (Policed parameters mode) came begun receipts))
    ≤ sum_by (left_weight picked start (end + skew)) (map (λ r. r.row) (filter (λ r. nat_eq r.site site) receipts))
unfolding IsTrail
edge_weight d flow packet begun came parameters mode path [] picked site skew start end at_edge trail late = weight_none start end
edge_weight d flow packet begun came parameters mode path (edge ∷ receipts) picked site skew start end at_edge trail late =
    let is_here : edge.site ≡ site = trail.0.site ∙ sym at_edge in
    let here : nat_eq edge.site site ≡ true = grind (arith, nat_tests) in
    let size : edge.row.size ≡ packet.size = ap (λ a. a.size) trail.0.arrival in
    let f = left_weight picked start (end + skew) in
    let rest = map (λ (r : Receipt). r.row) (filter (λ r. nat_eq r.site site) receipts) in
    let one = weight_back (picked edge.row.left) edge.row.arrival edge.row.used edge.row.size packet.size skew start end (late 0 edge (omega arith) here) size in
    rw here (omega (arith, one, sum_by-cons f edge.row rest))

cond-most : (t : Bool) (m : ℕ) → cond t m 0 ≤ m
cond-most true m = omega arith
cond-most false m = omega arith

-- where what leaves an edge keeps an envelope, what it sends keeps that, widened by the skew
policed_keeps : (g : Ground) (run : Run) → IsRun g run → (flow : ℕ) (c : Contract) → contract_of g flow ≡ Some c
    → (parameters : Parameters) (mode : Mode) → c.terms ≡ Policed parameters mode
    → (o : Opening) (j : Journal) → Stands run (length g.domain.meters + flow) o j
    → (picked : Colour → Bool) (out : Curve) → KeepsCurve out (row_output picked (journal_rows j))
    → KeepsCurve (widened o.skew out) (map (item_of picked c) (passages_of flow run))
policed_keeps g run is_run flow c found parameters mode policed o j stands picked out kept start end ordered =
    let site = length g.domain.meters + flow in
    let rows = journal_rows j in
    let is_flow = λ (p : Passage). nat_eq p.packet.flow flow in
    let f = left_weight picked start (end + o.skew) in
    let item = item_of picked c in
    let brought = λ (p : Passage). sum_by f (told_by site p) in
    let less = sum_by-mono (λ p. size_within start end (item p)) brought (passages_of flow run) (each start end) in
    let part = sum_by-filter brought is_flow run.passages in
    let most = sum_by-mono (λ p. cond (is_flow p) (brought p) 0) brought run.passages (λ k e h. cond-most (is_flow (get_or run.passages k e)) (brought (get_or run.passages k e))) in
    let whole = kept start (end + o.skew) (omega arith) in
    let longer = bytes_delayed out.rate (end + o.skew - start) (end - start) o.skew (omega arith) in
    omega (
      arith,
      less,
      part,
      most,
      whole,
      longer,
      sum_by-map (size_within start end) item (passages_of flow run),
      sum_by-flat_map f (told_by site) run.passages,
      sum_by-IsPermutation f (told site run.passages) rows stands.rows,
      sum_by-map (size_within start (end + o.skew)) (λ (r : Row). (r.used, r.size)) (filter (λ r. picked r.left) rows),
      sum_by-filter (λ (r : Row). size_within start (end + o.skew) (r.used, r.size)) (λ r. picked r.left) rows,
    )
  where
    each : (start end : ℕ) → All (λ p. size_within start end (item_of picked c p) ≤ sum_by (left_weight picked start (end + o.skew)) (told_by (length g.domain.meters + flow) p)) (passages_of flow run)
    each start end k e h =
        let p = get_or (passages_of flow run) k e in
        let site = length g.domain.meters + flow in
        let is_flow = λ (q : Passage). nat_eq q.packet.flow flow in
        let passes : nat_eq p.packet.flow flow ≡ true = filter_passes is_flow run.passages k e h in
        let same_flow : p.packet.flow ≡ flow = grind (arith, nat_tests) in
        let (own, is_own, trail) = All-filter is_flow (λ q. (x : Contract) × (contract_of g q.packet.flow ≡ Some x) × IsTrail q.packet q.packet.begun (came x q.packet.dscp) (hops_of g.domain q.packet.flow x) q.receipts) run.passages is_run.passages k e h in
        let same : own ≡ c = same_Some own c (sym is_own ∙ passages_of-contract g run flow c found k e h) in
        let late = All-filter is_flow (λ q. All (λ r. nat_eq r.site site ≡ true → (r.row.arrival ≤ r.row.used) × (r.row.used ≤ r.row.arrival + o.skew)) q.receipts) run.passages
        (receipts_from run site o j (λ r. (r.arrival ≤ r.used) × (r.used ≤ r.arrival + o.skew)) stands stands.used) k e h in
        let way : IsTrail p.packet p.packet.begun (came c p.packet.dscp) (edge_hops g.domain p.packet.flow (Policed parameters mode) ++ hops_along g.domain 1 c.path) p.receipts =
        subst (λ terms. IsTrail p.packet p.packet.begun (came c p.packet.dscp) (edge_hops g.domain p.packet.flow terms ++ hops_along g.domain 1 c.path) p.receipts) policed
        (subst (λ (x : Contract). IsTrail p.packet p.packet.begun (came x p.packet.dscp) (hops_of g.domain p.packet.flow x) p.receipts) same trail)
        in
        subst
        (λ terms.
        let sent = sending_by terms (came c p.packet.dscp) p.packet.begun p.receipts in
        size_within start end (moment_of sent, weight_of picked p.packet.size sent) ≤ sum_by (left_weight picked start (end + o.skew)) (told_by site p))
        (sym policed)
        (edge_weight g.domain p.packet.flow p.packet p.packet.begun (came c p.packet.dscp) parameters mode c.path p.receipts picked site o.skew start end
        (ap (λ n. length g.domain.meters + n) (sym same_flow)) way late)

-- ---- the sources of a ground

-- what stands at the edge of a policed contract
edge_at : (g : Ground) (flow : ℕ) (c : Contract) (parameters : Parameters) (mode : Mode) → contract_of g flow ≡ Some c → c.terms ≡ Policed parameters mode
    → opening_at g (length g.domain.meters + flow) ≡ Some (record { meter = opening_of parameters mode c.lifetime.since; skew = skew_of (port_of g.domain c.port) })
edge_at g flow c parameters mode is policed =
    let behind : nat_lt (length g.domain.meters + flow) (length g.domain.meters) ≡ false = grind (arith, nat_tests) in
    let number : length g.domain.meters + flow - length g.domain.meters ≡ flow = omega arith in
    rw (behind, number, is, policed) refl

source_policed : (d : Domain) (c : Contract) (parameters : Parameters) (mode : Mode) → c.terms ≡ Policed parameters mode
    → source_of d c ≡ source_by d.version (skew_of (port_of d c.port)) (Policed parameters mode)
unfolding source_of
source_policed d c parameters mode policed = ap (source_by d.version (skew_of (port_of d c.port))) policed

-- the yellow ones alone keep what green and yellow ones keep together
yellow_lighter : (start end size : ℕ) (sent : Option Sending)
    → size_within start end (moment_of sent, weight_of is_yellow size sent) ≤ size_within start end (moment_of sent, weight_of is_in_profile size sent)
yellow_lighter start end size None = omega arith
yellow_lighter start end size (Some s) = by_colour s.colour s.moment
  where
    by_colour : (colour : Colour) (moment : ℕ) → size_within start end (moment, cond (is_yellow colour) size 0) ≤ size_within start end (moment, cond (is_in_profile colour) size 0)
    by_colour Green moment =
        elim (size_within_cases start end (moment, 0)) [ inl inside ↦ omega (arith, inside.2) | inr outside ↦ omega (arith, outside.1) ]
    by_colour Yellow moment = omega arith
    by_colour Red moment = omega arith

yellow_keeps : (c : Contract) (curve : Curve) (ps : List Passage) → KeepsCurve curve (map (item_of is_in_profile c) ps) → KeepsCurve curve (map (item_of is_yellow c) ps)
yellow_keeps c curve ps =
    Keeps-lighter (item_of is_in_profile c) (item_of is_yellow c) curve.rate curve.burst ps
    (λ start end k e h. let p = get_or ps k e in yellow_lighter start end p.packet.size (sending_of c p))

source_keeps : (g : Ground) (run : Run) → IsRun g run → Premises g run → (flow : ℕ) (c : Contract) → contract_of g flow ≡ Some c
    → (terms : Terms) → c.terms ≡ terms → (column : Column) → KeepsCurve (envelope_in column (source_of g.domain c)) (map (item_of (counts column) c) (passages_of flow run))
source_keeps g run is_run premises flow c is (Trusted committed peak) trusted column =
    let kept = in_column (λ k. KeepsCurve (envelope_in k (source_of g.domain c)) (sent_items (counts k) c (passages_of flow run)))
    (premises.source flow c is (subst IsTrusted (sym trusted) tt)) column in
    let curve = envelope_in column (source_of g.domain c) in
    Keeps-sent (counts column) c (passages_of flow run) curve.rate curve.burst kept
source_keeps g run is_run premises flow c is (Policed parameters mode) policed column =
    subst (λ source. KeepsCurve (envelope_in column source) (map (item_of (counts column) c) (passages_of flow run)))
    (sym (source_policed g.domain c parameters mode policed)) (by_version g.domain.version column)
  where
    o : Opening
    o = record { meter = opening_of parameters mode c.lifetime.since; skew = skew_of (port_of g.domain c.port) }

    in_output : (k : Column) → KeepsCurve (widened (skew_of (port_of g.domain c.port)) (output_in k parameters)) (map (item_of (counts k) c) (passages_of flow run))
    in_output k =
        let (j, stands) = journal_at g run is_run premises (length g.domain.meters + flow) o (edge_at g flow c parameters mode is policed) in
        policed_keeps g run is_run flow c is parameters mode policed o j stands (counts k) (output_in k parameters)
        (subst (λ m. KeepsCurve (output_in k parameters) (row_output (counts k) (replay m j.arrivals))) (sym stands.meter)
        (opened_rows_keep parameters mode c.lifetime.since j.arrivals k))

    by_version : (version : Version) (k : Column)
        → KeepsCurve (envelope_in k (source_by version (skew_of (port_of g.domain c.port)) (Policed parameters mode))) (map (item_of (counts k) c) (passages_of flow run))
    by_version version columns.Green = in_output columns.Green
    by_version version columns.All = in_output columns.All
    by_version One columns.Excess = yellow_keeps c _ (passages_of flow run) (in_output columns.All)
    by_version Two columns.Excess = in_output columns.Excess
    by_version Three columns.Excess = in_output columns.Excess

pub sources_keep : (g : Ground) (run : Run) → IsRun g run → Premises g run → (column : Column) → SourcesKeep g run column
sources_keep g run is_run premises column flow c is = source_keeps g run is_run premises flow c is c.terms refl column

-- ---- no contract without a peak sends yellow packets

came-dull : (peak : Bool) (colour : Colour) → peak ≡ false → is_yellow (if is_yellow colour && not peak then Red else colour) ≡ false
came-dull true colour none = absurd (false≢true (sym none))
came-dull false Green none = refl
came-dull false Yellow none = refl
came-dull false Red none = refl

came_not_yellow : (c : Contract) (dscp : ℕ) → has_peak c.terms ≡ false → is_yellow (came c dscp) ≡ false
unfolding came
came_not_yellow c dscp none = came-dull (has_peak c.terms) (shown c.class dscp) none

pub sent_yellow-peak : (terms : Terms) (colour : Colour) (begun : ℕ) (receipts : List Receipt) (s : Sending)
    → (has_peak terms ≡ false → is_yellow colour ≡ false) → sending_by terms colour begun receipts ≡ Some s → is_yellow s.colour ≡ true → has_peak terms ≡ true
sent_yellow-peak (Trusted committed None) colour begun receipts s dull sent yellow =
    let same = same_Some (record { moment = begun; colour = colour; receipts = receipts }) s sent in
    absurd (false≢true (sym (dull refl) ∙ ap (λ x. is_yellow x.colour) same ∙ yellow))
sent_yellow-peak (Trusted committed (Some peak)) colour begun receipts s dull sent yellow = refl
sent_yellow-peak (Policed parameters mode) colour begun receipts s dull sent yellow = refl

pub yellow_has_peak : (c : Contract) (p : Passage) (s : Sending) → sending_of c p ≡ Some s → is_yellow s.colour ≡ true → has_peak c.terms ≡ true
yellow_has_peak c p s sent yellow = sent_yellow-peak c.terms (came c p.packet.dscp) p.packet.begun p.receipts s (came_not_yellow c p.packet.dscp) sent yellow

weight_dull : (size : ℕ) (sent : Option Sending) → ((s : Sending) → sent ≡ Some s → is_yellow s.colour ≡ false) → weight_of is_yellow size sent ≡ 0
weight_dull size None dull = refl
weight_dull size (Some s) dull = rw (dull s refl) refl

pub no_peak_no_yellow : (c : Contract) (p : Passage) → has_peak c.terms ≡ false → weight_of is_yellow p.packet.size (sending_of c p) ≡ 0
no_peak_no_yellow c p none = weight_dull p.packet.size (sending_of c p) (λ s sent. not_yellow s sent (is_yellow s.colour) refl)
  where
    not_yellow : (s : Sending) → sending_of c p ≡ Some s → (b : Bool) → is_yellow s.colour ≡ b → b ≡ false
    not_yellow s sent true yellow = absurd (false≢true (sym none ∙ yellow_has_peak c p s sent yellow))
    not_yellow s sent false other = refl
