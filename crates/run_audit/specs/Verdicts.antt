-- The verdict on a run: the first premise that it broke, in the order of time, source, link and skew.
use Rattle.std.specs.Prelude.{ℕ, suc, ◌+◌, ◌&&◌, ◌||◌, nat_eq, nat_le, nat_lt, Bool, true, false, if◌then◌else◌, List, [], ◌∷◌, filter, slice_get, option_map, option_and_then, unwrap_or, Option, None, Some}
use Rattle.std.specs.Map.{keys_of}
use Rattle.std.specs.Option.{option_map_or}
use Rattle.moment_core.specs.declared.colour.Colour.{Colour}
use Rattle.moment_core.specs.Columns.{counts, each_column}
use Rattle.moment_core.specs.declared.column.Column.{Column}
use Rattle.envelope_core.specs.Curve.{Curve}
use Rattle.envelope_core.specs.LeakyBucket.{overflow_of}
use Rattle.meter_book.specs.Replay.{Journal, journal_rows}
use Rattle.meter_book.specs.declared.row.Row.{Row}
use Rattle.ds_domain_base.specs.Domains.{Domain, floor_of, jitter_of, link_of}
use Rattle.ds_domain_base.specs.declared.contract.Contract.{Contract}
use Rattle.ds_domain_base.specs.declared.quantity.Lifetime.{Lifetime}
use Rattle.ds_domain_base.specs.declared.parts.Link.{Link}
use Rattle.ds_domain_base.specs.declared.terms.Terms.{Terms}
use Rattle.ds_domain_base.specs.declared.terms.Terms.TheVariants.{Trusted, Policed}
use Rattle.ds_certificate.specs.Columns.{envelope_in}
use Rattle.ds_certificate.specs.Sources.{source_of}
use Rattle.meter_fabric_base.specs.Grounds.{Ground, contract_of}
use Rattle.meter_fabric_base.specs.declared.trail.Receipt.{Receipt}
use Rattle.run_audit.specs.Runs.{Passage, Run}
use Rattle.run_audit.specs.Sendings.{Sending, passages_of, sending_of, sent_items}
use Rattle.meter_fabric_base.specs.Orders.{in_order}
use Rattle.run_audit.specs.declared.verdict.Verdict.{Verdict}
use Rattle.run_audit.specs.declared.verdict.Verdict.TheVariants.{Kept, OutsideContract, SourceOver, DelayOver, Late}

-- the first of two, if there is one
abbrev pub first_of : {A : Type 0} → Option A → Option A → Option A
first_of (Some x) other = Some x
first_of None other = other

-- what a test finds at the first place of a list at which it finds anything
unfoldable pub first_found : {A B : Type 0} → (A → Option B) → List A → Option B
first_found find [] = None
first_found find (x ∷ xs) = first_of (find x) (first_found find xs)

-- packets stand by their numbers; sent ones by the moments at which they begin, and by their numbers at the same one
abbrev pub is_numbered_before : Passage → Passage → Bool
is_numbered_before p q = nat_lt p.packet.number q.packet.number

abbrev pub is_begun_before : Passage → Passage → Bool
is_begun_before p q =
    nat_lt p.packet.begun q.packet.begun || nat_eq p.packet.begun q.packet.begun && is_numbered_before p q

abbrev pub by_number : List Passage → List Passage
by_number passages = in_order is_numbered_before passages

-- journals stand by their sites
abbrev pub by_site : List Journal → List Journal
by_site journals = in_order (λ j k. nat_lt j.site k.site) journals

-- what a test finds against a packet that has been sent, with its contract
abbrev pub against_sent : Ground → (Contract → Sending → Option Verdict) → Passage → Option Verdict
against_sent g find p = option_and_then (λ c. option_and_then (find c) (sending_of c p)) (contract_of g p.packet.flow)

-- whether a contract may send at a moment
abbrev pub may_send : Lifetime → ℕ → Bool
may_send l moment = nat_le l.since moment && option_map_or (λ until. nat_lt moment until) l.until true

-- TIME: a packet was sent when its contract may not send
abbrev pub outside : ℕ → Contract → Sending → Option Verdict
outside packet c s = if may_send c.lifetime s.moment then None else Some (OutsideContract packet)

abbrev pub time_of : Ground → Run → Option Verdict
time_of g run = first_found (λ p. against_sent g (outside p.packet.number) p) (by_number run.passages)

-- SOURCE: whether a packet was sent with a colour that a test picks
abbrev pub was_sent_as : (Colour → Bool) → Option Sending → Bool
was_sent_as picked sending = option_map_or (λ s. picked s.colour) sending false

-- the packets of a contract that a column counts, as they were sent
abbrev pub sent_in : Column → Contract → List Passage → List Passage
sent_in column c passages =
    in_order is_begun_before (filter (λ p. was_sent_as (counts column) (sending_of c p)) passages)

-- The packet with which a contract's bucket overflows for the first time.
abbrev pub overflowing : Curve → Column → Contract → List Passage → Option Passage
overflowing curve column c sent =
    option_and_then (slice_get sent) (overflow_of curve.rate curve.burst (sent_items (counts column) c sent))

abbrev pub over_in : Ground → Run → ℕ → Contract → Column → Option Verdict
over_in g run flow c column =
    option_map
    (λ p. SourceOver flow column p.packet.number)
    (overflowing (envelope_in column (source_of g.domain c)) column c (sent_in column c (passages_of flow run)))

-- column by column; what is policed is not held against anything
abbrev pub over_by : Terms → Ground → Run → ℕ → Contract → Option Verdict
over_by (Trusted committed peak) g run flow c = first_found (over_in g run flow c) each_column
over_by (Policed parameters mode) g run flow c = None

-- of the contract of a flow, if there is one
abbrev pub over_at : Ground → Run → ℕ → Option Verdict
over_at g run flow = option_and_then (λ c. over_by c.terms g run flow c) (contract_of g flow)

-- the contracts in their order
abbrev pub source_of_run : Ground → Run → Option Verdict
source_of_run g run = first_found (over_at g run) (keys_of g.contracts)

-- LINK: whether what left at a moment arrives over a link in its time
abbrev pub is_over : Option Link → ℕ → ℕ → Bool
is_over link moment arrival =
    nat_le (moment + floor_of link) arrival && nat_le arrival (moment + floor_of link + jitter_of link)

-- the first hop to which a packet at a name at a moment did not go on in time, along a path to the first hop of this
-- number
unfoldable pub untimely : Domain → ℕ → List ℕ → List (List ℕ) → ℕ → List Receipt → Option ℕ
untimely d hop from path moment [] = None
untimely d hop from [] moment (r ∷ receipts) = None
untimely d hop from (to ∷ path) moment (r ∷ receipts) =
    if is_over (link_of d from to) moment r.row.arrival then
    untimely d (suc hop) to path r.row.arrival receipts
    else
    Some hop

abbrev pub delayed : Domain → ℕ → Contract → Sending → Option Verdict
delayed d packet c s = option_map (λ hop. DelayOver packet hop) (untimely d 1 c.port c.path s.moment s.receipts)

abbrev pub link_of_run : Ground → Run → Option Verdict
link_of_run g run = first_found (λ p. against_sent g (delayed g.domain p.packet.number) p) (by_number run.passages)

-- SKEW: a row was metered later than the skew of its site
abbrev pub late_row : Journal → Row → Option Verdict
late_row j r = if nat_le r.late j.skew then None else Some (Late j.site r.place r.late)

abbrev pub skew_of_run : Run → Option Verdict
skew_of_run run = first_found (λ j. first_found (late_row j) (journal_rows j)) (by_site run.journals)

-- The verdict: kept, where nothing is found against any premise.
abbrev pub verdict_of : Ground → Run → Verdict
verdict_of g run =
    unwrap_or (first_of (time_of g run)
    (first_of (source_of_run g run) (first_of (link_of_run g run) (skew_of_run run)))) Kept
