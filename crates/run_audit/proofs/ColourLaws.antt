-- Each packet leaves each meter with the colour that it was sent with.
use Rattle.std.proofs.Common.{◌≡◌, ℕ, ◌≤◌, suc, Bool, true, false, List, [], ◌∷◌, map, length, refl, sym, ◌∙◌, ap, subst, arith, get_or, Some, None, find, nat_eq, slice_get, option_map, Option, if◌then◌else◌, bytes_eq}
use Rattle.std.specs.List.{filter, list_any, All}
use Rattle.std.proofs.lemmas.Bool.{false≢true}
use Rattle.std.proofs.lemmas.Bool.Decides.{nat_tests}
use Rattle.std.proofs.lemmas.Option.{get_or_from_slice_get, none-some, same_Some, slice_get_within}
use Rattle.moment_core.specs.declared.colour.Colour.{Colour}
use Rattle.moment_core.specs.declared.colour.Colour.TheVariants.{Green, Yellow, Red}
use Rattle.moment_core.specs.declared.colour.Mode.TheVariants.{Aware}
use Rattle.moment_core.specs.Colours.{IsNoBetter, is_green, is_in_profile, is_yellow}
use Rattle.moment_core.specs.Metering.{opening}
use Rattle.moment_core.specs.Columns.{counts}
use Rattle.moment_core.specs.declared.column.Column.{Column}
use Rattle.moment_core.specs.declared.column.Column.TheVariants as columns
use Rattle.envelope_core.specs.Curve.{Curve, KeepsCurve, KeepsCurveUpTo}
use Rattle.meter_book_base.specs.AnyMeter.{opening_of}
use Rattle.meter_book_base.specs.Envelopes.{mode_of}
use Rattle.meter_book.specs.KeptColours.{PeakIsKept, Stays, StaysAt, row_input}
use Rattle.meter_book_base.specs.Limits.{all_limit, green_limit, held_column}
use Rattle.meter_book.specs.Replay.{Journal, journal_rows, replay}
use Rattle.meter_book_base.specs.declared.any_meter.Parameters.{Parameters}
use Rattle.meter_book_base.specs.declared.any_meter.Parameters.TheVariants.{SrTcm, TrTcm, Rfc4115}
use Rattle.meter_book.specs.declared.row.Row.{Row}
use Rattle.meter_book.proofs.KeepingLaws.{green_stays_green-any, yellow_stays_yellow-at}
use Rattle.meter_book.proofs.RowLaws.{replay_never_improves}
use Rattle.ds_domain_base.specs.Domains.{Domain}
use Rattle.ds_domain_base.specs.Sent.{has_peak}
use Rattle.ds_domain_base.specs.declared.contract.Contract.{Contract}
use Rattle.ds_domain_base.specs.declared.parts.Meter.{Meter}
use Rattle.ds_checker.specs.Acceptance.{Carries, IsAcceptable, IsWithin, Table}
use Rattle.ds_checker.specs.Loads.{Share, counted, kept, load, shares_at}
use Rattle.ds_timeline.specs.Constant.{timeline_of}
use Rattle.ds_timeline.specs.Timelines.{AreRated, IsCovered, IsRated, Timeline, is_reserved, reservation_of}
use Rattle.ds_timeline.specs.declared.reservation.Reservation.{Reservation}
use Rattle.ds_timeline.proofs.ConstantLaws.{covered-constant}
use Rattle.ds_timeline.proofs.ReservedLaws.{granted-constant, rated-constant}
use Rattle.meter_fabric_base.specs.Grounds.{Ground, ground_of}
use Rattle.meter_fabric_base.specs.Openings.{meter_opening}
use Rattle.meter_fabric_base.proofs.GroundLaws.{place_of}
use Rattle.run_audit.specs.KeptColours.{ColoursKept, StandsIn, WasGranted}
use Rattle.run_audit.specs.Premises.{Premises}
use Rattle.run_audit.specs.Runs.{IsRun, Run}
use Rattle.run_audit.proofs.Inputs.{ComesAsSent, input_keeps}
use Rattle.run_audit.proofs.Journals.{ForEachSent, IsOver, IsReserved, Stands, each_sent, everywhere, journal_at, meter_at, sent_from}
use Rattle.run_audit.proofs.Passages.{comes_and_leaves, comes_no_better}
use Rattle.run_audit.proofs.Loads.{plain_load}
use Rattle.run_audit.proofs.Peaks.{passed, peak_there, still_reserved}
use Rattle.run_audit.proofs.Senders.{sources_keep, no_peak_no_yellow, yellow_has_peak}

-- ---- no meter improves a colour

mode_of-opening : (p : Parameters) (origin : ℕ) → mode_of (opening_of p Aware origin) ≡ Aware
unfolding opening
mode_of-opening (SrTcm p) origin = refl
mode_of-opening (TrTcm p) origin = refl
mode_of-opening (Rfc4115 p) origin = refl

-- what holds of all replays of a meter of the domain holds of its journal
at_journal : (run : Run) (site : ℕ) (m : Meter) (j : Journal) (P : List Row → Type 0) → Stands run site (meter_opening m) j
    → P (replay (opening_of m.parameters Aware m.origin) j.arrivals) → P (journal_rows j)
at_journal run site m j P stands holds = subst (λ o. P (replay o j.arrivals)) (sym stands.meter) holds

never_improves : (g : Ground) (rs : List Reservation) (run : Run) → IsOver g rs → IsRun g run → Premises g run
    → ForEachSent g run (λ p c s. All (λ r. IsNoBetter r.row.came r.row.left) s.receipts)
never_improves g rs run good is_run premises =
    everywhere g rs run good is_run premises (λ r. IsNoBetter r.came r.left)
    (λ site entry j there stands.
    at_journal run site entry.1 j (All (λ r. IsNoBetter r.came r.left)) stands
    (replay_never_improves (opening_of entry.1.parameters Aware entry.1.origin) j.arrivals (mode_of-opening entry.1.parameters entry.1.origin)))

comes_worse : (g : Ground) (rs : List Reservation) (run : Run) → IsOver g rs → IsRun g run → Premises g run
    → ForEachSent g run (λ p c s. All (λ r. IsNoBetter s.colour r.row.came) s.receipts)
comes_worse g rs run good is_run premises k e h c is s sent =
    comes_no_better g.domain (get_or run.passages k e).packet 1 s.moment s.colour s.colour c.path s.receipts
    (each_sent g rs run good is_run premises k e h c is s sent).trail (same_colour s.colour) (never_improves g rs run good is_run premises k e h c is s sent)
  where
    same_colour : (a : Colour) → IsNoBetter a a
    same_colour Green = tt
    same_colour Yellow = tt
    same_colour Red = tt

green_upward : (sent came : Colour) → IsNoBetter sent came → is_green came ≡ true → is_green sent ≡ true
green_upward Green came worse green = refl
green_upward Yellow Green worse green = absurd worse
green_upward Yellow Yellow worse green = green
green_upward Yellow Red worse green = green
green_upward Red Green worse green = absurd worse
green_upward Red Yellow worse green = green
green_upward Red Red worse green = green

in_profile_upward : (sent came : Colour) → IsNoBetter sent came → is_in_profile came ≡ true → is_in_profile sent ≡ true
in_profile_upward Green came worse good = refl
in_profile_upward Yellow came worse good = refl
in_profile_upward Red Green worse good = absurd worse
in_profile_upward Red Yellow worse good = absurd worse
in_profile_upward Red Red worse good = good

comes_green : (g : Ground) (rs : List Reservation) (run : Run) → IsOver g rs → IsRun g run → Premises g run → ComesAsSent g run is_green
comes_green g rs run good is_run premises k e h c is s sent i d l =
    green_upward s.colour (get_or s.receipts i d).row.came (comes_worse g rs run good is_run premises k e h c is s sent i d l)

comes_in_profile : (g : Ground) (rs : List Reservation) (run : Run) → IsOver g rs → IsRun g run → Premises g run → ComesAsSent g run is_in_profile
comes_in_profile g rs run good is_run premises k e h c is s sent i d l =
    in_profile_upward s.colour (get_or s.receipts i d).row.came (comes_worse g rs run good is_run premises k e h c is s sent i d l)

-- ---- what a meter has is enough for what comes

-- the shares that are reserved at a meter at a moment
abbrev shares_then : Ground → List Reservation → List ℕ → ℕ → List Share
shares_then g rs name moment =
    shares_at g.domain name (map (λ r. r.contract) (filter (λ r. is_reserved r moment) rs)) (map (λ r. r.bounds) (filter (λ r. is_reserved r moment) rs))

carries_at : (g : Ground) (rs : List Reservation) → IsOver g rs → (site : ℕ) (entry : List ℕ × Meter) → slice_get g.domain.meters site ≡ Some entry
    → (moment : ℕ) → Carries entry.1 (shares_then g rs entry.0 moment)
carries_at g rs good site entry there moment =
    subst (λ (e : List ℕ × Meter). Carries e.1 (shares_then g rs e.0 moment)) (get_or_from_slice_get g.domain.meters site entry entry there)
    ((good.covered.acceptable moment).1 site entry (slice_get_within g.domain.meters site entry there))

count_all : (shares : List Share) → filter (λ share. true) shares ≡ shares
count_all [] = refl
count_all (share ∷ shares) = ap (λ rest. share ∷ rest) (count_all shares)

-- what came in a column keeps a limit up to a moment, if that is enough for all shares
keeps_up_to : (g : Ground) (rs : List Reservation) (run : Run) → IsOver g rs → IsRun g run → Premises g run → (column : Column) → ComesAsSent g run (counts column)
    → (site : ℕ) (entry : List ℕ × Meter) (j : Journal) → slice_get g.domain.meters site ≡ Some entry → Stands run site (meter_opening entry.1) j
    → (end : ℕ) (limit : Curve) → ((moment : ℕ) → (load column entry.1.skew (shares_then g rs entry.0 moment)).rate ≤ limit.rate)
    → (load column entry.1.skew (shares_then g rs entry.0 end)).burst ≤ limit.burst
    → KeepsCurveUpTo end limit (row_input (counts column) (journal_rows j))
keeps_up_to g rs run good is_run premises column comes site entry j there stands end limit rates burst =
    input_keeps g rs run column (λ b. true) site entry
    (record {
      over = good;
      is_run = is_run;
      premises = premises;
      sources = sources_keep g run is_run premises column;
      light = λ c p uncounted. absurd (false≢true (sym uncounted));
      journal = j;
      there = there;
      stands = stands;
    }) comes limit
    (λ moment. subst (λ xs. (load column entry.1.skew xs).rate ≤ limit.rate) (sym (count_all (shares_then g rs entry.0 moment))) (rates moment))
    end
    (subst (λ xs. (load column entry.1.skew xs).burst ≤ limit.burst) (sym (count_all (shares_then g rs entry.0 end))) burst)

-- and in all windows, if that is enough at each moment
keeps : (g : Ground) (rs : List Reservation) (run : Run) → IsOver g rs → IsRun g run → Premises g run → (column : Column) → ComesAsSent g run (counts column)
    → (site : ℕ) (entry : List ℕ × Meter) (j : Journal) → slice_get g.domain.meters site ≡ Some entry → Stands run site (meter_opening entry.1) j
    → (limit : Curve) → ((moment : ℕ) → IsWithin limit (load column entry.1.skew (shares_then g rs entry.0 moment)))
    → KeepsCurve limit (row_input (counts column) (journal_rows j))
keeps g rs run good is_run premises column comes site entry j there stands limit enough start end ordered =
    keeps_up_to g rs run good is_run premises column comes site entry j there stands end limit (λ moment. (enough moment).0) (enough end).1 start ordered

-- ---- green stays green

peak_is_kept : (p : Parameters) (skew : ℕ) (shares : ℕ → List Share) (rows : List Row)
    → ((moment : ℕ) → IsWithin (all_limit p) (load (held_column p) skew (counted p (shares moment))))
    → ((limit : Curve) → ((moment : ℕ) → IsWithin limit (load columns.All skew (shares moment))) → KeepsCurve limit (row_input is_in_profile rows))
    → PeakIsKept p rows
peak_is_kept (SrTcm p) skew shares rows enough kept = tt
peak_is_kept (TrTcm p) skew shares rows enough kept = kept (all_limit (TrTcm p)) enough
peak_is_kept (Rfc4115 p) skew shares rows enough kept = tt

green_stays : (g : Ground) (rs : List Reservation) (run : Run) → IsOver g rs → IsRun g run → Premises g run
    → (site : ℕ) (entry : List ℕ × Meter) (j : Journal) → slice_get g.domain.meters site ≡ Some entry → Stands run site (meter_opening entry.1) j
    → Stays Green (replay (opening_of entry.1.parameters Aware entry.1.origin) j.arrivals)
green_stays g rs run good is_run premises site entry j there stands =
    let p = entry.1.parameters in
    let opened = opening_of p Aware entry.1.origin in
    let enough = carries_at g rs good site entry there in
    let green = keeps g rs run good is_run premises columns.Green (comes_green g rs run good is_run premises) site entry j there stands (green_limit p) (λ moment. (enough moment).0) in
    let all = keeps g rs run good is_run premises columns.All (comes_in_profile g rs run good is_run premises) site entry j there stands in
    green_stays_green-any p entry.1.origin j.arrivals
    (subst (λ o. KeepsCurve (green_limit p) (row_input is_green (replay o j.arrivals))) stands.meter green)
    (subst (λ o. PeakIsKept p (replay o j.arrivals)) stands.meter
    (peak_is_kept p entry.1.skew (shares_then g rs entry.0) (journal_rows j) (λ moment. (enough moment).1) all))

green_kept : (g : Ground) (rs : List Reservation) (run : Run) → IsOver g rs → IsRun g run → Premises g run
    → ForEachSent g run (λ p c s. s.colour ≡ Green → All (λ r. (r.row.came ≡ Green) × (r.row.left ≡ Green)) s.receipts)
green_kept g rs run good is_run premises k e h c is s sent green =
    let p = get_or run.passages k e in
    let stays = everywhere g rs run good is_run premises (λ r. r.came ≡ Green → r.left ≡ Green)
    (λ site entry j there stands. at_journal run site entry.1 j (Stays Green) stands (green_stays g rs run good is_run premises site entry j there stands))
    k e h c is s sent
    in
    comes_and_leaves g.domain p.packet 1 s.moment Green c.path s.receipts
    (rw (← green) (each_sent g rs run good is_run premises k e h c is s sent).trail) stays

-- ---- yellow stays yellow

came_yellow : (sent came : Colour) → IsNoBetter sent came → (sent ≡ Green → came ≡ Green) → is_yellow came ≡ true → is_yellow sent ≡ true
came_yellow Green came worse green yellow = absurd (false≢true (sym (ap is_yellow (green refl)) ∙ yellow))
came_yellow Yellow came worse green yellow = refl
came_yellow Red Green worse green yellow = absurd worse
came_yellow Red Yellow worse green yellow = absurd worse
came_yellow Red Red worse green yellow = yellow

comes_yellow : (g : Ground) (rs : List Reservation) (run : Run) → IsOver g rs → IsRun g run → Premises g run → ComesAsSent g run is_yellow
comes_yellow g rs run good is_run premises k e h c is s sent i d l =
    came_yellow s.colour (get_or s.receipts i d).row.came (comes_worse g rs run good is_run premises k e h c is s sent i d l)
    (λ green. (green_kept g rs run good is_run premises k e h c is s sent green i d l).0)

-- With a single rate all shares count at the moments at which one of them has a peak. At the others their rate is that of
-- the green packets.
held_input : (p : Parameters) (skew : ℕ) (shares : ℕ → List Share) (rows : List Row) (end : ℕ)
    → ((moment : ℕ) → IsWithin (green_limit p) (load columns.Green skew (shares moment)))
    → ((moment : ℕ) → IsWithin (all_limit p) (load (held_column p) skew (counted p (shares moment))))
    → ((moment : ℕ) → list_any (λ share. share.has_peak) (shares moment) ≡ false → (load columns.All skew (shares moment)).rate ≡ (load columns.Green skew (shares moment)).rate)
    → list_any (λ share. share.has_peak) (shares end) ≡ true
    → ((limit : Curve) → ((moment : ℕ) → (load columns.All skew (shares moment)).rate ≤ limit.rate) → (load columns.All skew (shares end)).burst ≤ limit.burst
    → KeepsCurveUpTo end limit (row_input is_in_profile rows))
    → ((limit : Curve) → ((moment : ℕ) → (load columns.Excess skew (filter (λ share. share.has_peak) (shares moment))).rate ≤ limit.rate)
    → (load columns.Excess skew (filter (λ share. share.has_peak) (shares end))).burst ≤ limit.burst
    → KeepsCurveUpTo end limit (row_input is_yellow rows))
    → KeepsCurveUpTo end (all_limit p) (row_input (counts (held_column p)) rows)
held_input (SrTcm p) skew shares rows end green enough plain peak all yellow =
    all (all_limit (SrTcm p)) (λ moment. rate moment (list_any (λ share. share.has_peak) (shares moment)) refl)
    (subst (λ b. IsWithin (all_limit (SrTcm p)) (load columns.All skew (if b then shares end else []))) peak (enough end)).1
  where
    rate : (moment : ℕ) (b : Bool) → list_any (λ share. share.has_peak) (shares moment) ≡ b → (load columns.All skew (shares moment)).rate ≤ p.committed_rate
    rate moment true some = (subst (λ b. IsWithin (all_limit (SrTcm p)) (load columns.All skew (if b then shares moment else []))) some (enough moment)).0
    rate moment false none = omega (arith, plain moment none, (green moment).0)
held_input (TrTcm p) skew shares rows end green enough plain peak all yellow = all (all_limit (TrTcm p)) (λ moment. (enough moment).0) (enough end).1
held_input (Rfc4115 p) skew shares rows end green enough plain peak all yellow = yellow (all_limit (Rfc4115 p)) (λ moment. (enough moment).0) (enough end).1

-- at a moment at which a share with a peak is reserved
yellow_stays : (g : Ground) (rs : List Reservation) (run : Run) → IsOver g rs → IsRun g run → Premises g run
    → (site : ℕ) (entry : List ℕ × Meter) (j : Journal) → slice_get g.domain.meters site ≡ Some entry → Stands run site (meter_opening entry.1) j
    → (end : ℕ) → list_any (λ share. share.has_peak) (shares_then g rs entry.0 end) ≡ true
    → StaysAt end Yellow (replay (opening_of entry.1.parameters Aware entry.1.origin) j.arrivals)
yellow_stays g rs run good is_run premises site entry j there stands end peak =
    let p = entry.1.parameters in
    let enough = carries_at g rs good site entry there in
    let all = keeps_up_to g rs run good is_run premises columns.All (comes_in_profile g rs run good is_run premises) site entry j there stands end in
    let yellow = λ (limit : Curve) (rates : (moment : ℕ) → (load columns.Excess entry.1.skew (filter (λ share. share.has_peak) (shares_then g rs entry.0 moment))).rate ≤ limit.rate)
    (burst : (load columns.Excess entry.1.skew (filter (λ share. share.has_peak) (shares_then g rs entry.0 end))).burst ≤ limit.burst).
    input_keeps g rs run columns.Excess (λ b. b) site entry
    (record {
      over = good;
      is_run = is_run;
      premises = premises;
      sources = sources_keep g run is_run premises columns.Excess;
      light = no_peak_no_yellow;
      journal = j;
      there = there;
      stands = stands;
    }) (comes_yellow g rs run good is_run premises) limit rates end burst
    in
    yellow_stays_yellow-at p entry.1.origin j.arrivals end (green_stays g rs run good is_run premises site entry j there stands)
    (subst (λ o. KeepsCurveUpTo end (all_limit p) (row_input (counts (held_column p)) (replay o j.arrivals))) stands.meter
    (held_input p entry.1.skew (shares_then g rs entry.0) (journal_rows j) end (λ moment. (enough moment).0) (λ moment. (enough moment).1)
    (λ moment. plain_load g.domain entry.0 entry.1.skew (map (λ r. r.contract) (filter (λ r. is_reserved r moment) rs)) (map (λ r. r.bounds) (filter (λ r. is_reserved r moment) rs)))
    peak all yellow))

yellow_kept : (g : Ground) (rs : List Reservation) (run : Run) → IsOver g rs → IsRun g run → Premises g run
    → ForEachSent g run (λ p c s. s.colour ≡ Yellow → All (λ r. (r.row.came ≡ Yellow) × (r.row.left ≡ Yellow)) s.receipts)
yellow_kept g rs run good is_run premises k e h c is s sent yellow =
    let p = get_or run.passages k e in
    let known = each_sent g rs run good is_run premises k e h c is s sent in
    let own = known.reservation in
    let same = sym known.contract in
    let stays : All (λ r. r.row.came ≡ Yellow → r.row.left ≡ Yellow) s.receipts = λ i d l.
    let r = get_or s.receipts i d in
    let (entry, at_site, passes, named) = passed g rs run good is_run premises k e h c is s sent i d l in
    let (j, stands) = journal_at g run is_run premises r.site (meter_opening entry.1) (meter_at g r.site entry at_site) in
    let peak = peak_there g.domain entry.0 (λ x. is_reserved x r.row.used) p.packet.flow rs own known.found
    (still_reserved g rs run good is_run premises k e h c is s sent known i d l)
    (subst (λ (x : Contract). length own.bounds ≡ suc (length x.path)) same known.shape.1)
    (subst (λ (x : Contract). has_peak x.terms ≡ true) same (yellow_has_peak c p s sent (ap is_yellow yellow)))
    (subst (λ (x : Contract). list_any (bytes_eq entry.0) x.path ≡ true) same passes) in
    let rows = at_journal run r.site entry.1 j (StaysAt r.row.used Yellow) stands (yellow_stays g rs run good is_run premises r.site entry j at_site stands r.row.used peak) in
    sent_from run r.site (meter_opening entry.1) j (λ x. x.used ≡ r.row.used → x.came ≡ Yellow → x.left ≡ Yellow) stands rows k e h c s sent i d l (grind (arith, nat_tests)) refl
    in
    comes_and_leaves g.domain p.packet 1 s.moment Yellow c.path s.receipts (rw (← yellow) known.trail) stays

-- ---- each colour

red_stays : (came left : Colour) → IsNoBetter Red came → IsNoBetter came left → left ≡ Red
red_stays Green left worse never = absurd worse
red_stays Yellow left worse never = absurd worse
red_stays Red Green worse never = absurd never
red_stays Red Yellow worse never = absurd never
red_stays Red Red worse never = refl

over_keeps : (g : Ground) (rs : List Reservation) (run : Run) → IsOver g rs → IsRun g run → Premises g run → ColoursKept g run
over_keeps g rs run good is_run premises k e h c is s sent = by_colour s.colour refl
  where
    by_colour : (colour : Colour) → s.colour ≡ colour → All (λ r. r.row.left ≡ s.colour) s.receipts
    by_colour Green green i d l = (green_kept g rs run good is_run premises k e h c is s sent green i d l).1 ∙ sym green
    by_colour Yellow yellow i d l = (yellow_kept g rs run good is_run premises k e h c is s sent yellow i d l).1 ∙ sym yellow
    by_colour Red red i d l =
        let r = get_or s.receipts i d in
        let worse : IsNoBetter Red r.row.came = rw (← red) (comes_worse g rs run good is_run premises k e h c is s sent i d l) in
        red_stays r.row.came r.row.left worse (never_improves g rs run good is_run premises k e h c is s sent i d l) ∙ sym red

-- ---- over a timeline, and over a table that is never changed

reserved_of : (rs : List Reservation) (flow : ℕ) (c : Contract) (found : Option Reservation) → find (λ r. nat_eq r.flow flow) rs ≡ found → option_map (λ (r : Reservation). r.contract) found ≡ Some c
    → IsReserved rs flow c
reserved_of rs flow c None found none = absurd (none-some c none)
reserved_of rs flow c (Some r) found is = record { reservation = r; found = found; contract = same_Some r.contract c is }

pub timeline_keeps : (t : Timeline) (g : Ground) (run : Run) → IsCovered t → AreRated t → WasGranted t g → IsRun g run → Premises g run → ColoursKept g run
timeline_keeps t g run covered rated granted is_run premises =
    over_keeps g t.reservations run
    (record {
      covered = subst (λ (d : Domain). IsCovered (record t { domain = d })) granted.domain covered;
      rated = subst (λ (d : Domain). All (IsRated d) t.reservations) granted.domain rated;
      granted = λ flow c is. reserved_of t.reservations flow c (reservation_of t flow) refl (granted.contracts flow c is);
    })
    is_run premises

pub colours_kept : (t : Table) (g : Ground) (run : Run) → IsAcceptable t → StandsIn t g → IsRun g run → Premises g run → ColoursKept g run
colours_kept t g run good stands is_run premises =
    timeline_keeps (timeline_of t) g run (covered-constant t good) (rated-constant t)
    (record { domain = stands.domain; contracts = λ flow c is. granted-constant t good flow c (stands.contracts flow c is) })
    is_run premises

-- the contracts of a table that have flows stand in it
pub stands_in_own : (t : Table) → StandsIn t (ground_of t)
stands_in_own t = record { domain = refl; contracts = λ flow c is. (place_of t flow c is).1 }
