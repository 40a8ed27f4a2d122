-- An aware meter of any kind keeps the colours of traffic that keeps what the meter has: by cases of its kind.
use Rattle.std.proofs.Common.{◌≡◌, ℕ, ◌<◌, Bool, true, false, List, [], ◌∷◌, length, map, refl, sym, ◌∙◌, ap, subst, arith, get_or}
use Rattle.std.specs.List.{All}
use Rattle.std.proofs.lemmas.List.{get_or-map, length-map}
use Rattle.std.proofs.lemmas.List.Elements.{All-map}
use Rattle.moment_core.specs.declared.colour.Colour.{Colour}
use Rattle.moment_core.specs.declared.colour.Colour.TheVariants.{Green, Yellow}
use Rattle.moment_core.specs.declared.colour.Mode.TheVariants.{Aware}
use Rattle.moment_core.specs.Colours.{is_green, is_in_profile, is_yellow}
use Rattle.moment_core.specs.Columns.{counts}
use Rattle.moment_core.specs.Metering.{Departure, departures, opening}
use Rattle.moment_core.proofs.RoomLaws.{Keeping, KeepingAt, Keeps-up_to, input}
use Rattle.envelope_core.specs.Curve.{Curve, KeepsCurve, KeepsCurveUpTo}
use Rattle.srtcm_core.specs.SingleRate.{single_rate}
use Rattle.srtcm_core.proofs.KeepingLaws as single_rates
use Rattle.trtcm_core.specs.TwoRate.{two_rate}
use Rattle.trtcm_core.proofs.KeepingLaws as two_rates
use Rattle.rfc4115_core.specs.SeparateRates.{separate_rates}
use Rattle.rfc4115_core.proofs.KeepingLaws as excess_rates
use Rattle.meter_book_base.specs.declared.any_meter.AnyMeter.{AnyMeter}
use Rattle.meter_book_base.specs.declared.any_meter.Parameters.{Parameters}
use Rattle.meter_book_base.specs.declared.any_meter.Parameters.TheVariants.{SrTcm, TrTcm, Rfc4115}
use Rattle.meter_book.specs.declared.row.Arrival.{Arrival}
use Rattle.meter_book.specs.declared.row.Row.{Row}
use Rattle.meter_book_base.specs.AnyMeter.{how_any}
use Rattle.meter_book.specs.KeptColours.{PeakIsKept, PeakIsKeptUpTo, Stays, StaysAt, aware_rows, row_input}
use Rattle.meter_book.specs.Laws.{departure_of}
use Rattle.meter_book_base.specs.Limits.{all_limit, green_limit, held_column}
use Rattle.meter_book_base.specs.OutputLaws.{departures_of_separate_rates, departures_of_single_rate, departures_of_two_rate}
use Rattle.meter_book.specs.Replay.{offer_of, replay}
use Rattle.meter_book.proofs.RowLaws.{departures_of-rows_from}

-- ---- rows as departures

input_of-row : (picked : Colour → Bool) (b : Bool) (r : Row) (rows : List Row) → picked r.came ≡ b
    → input picked (map departure_of rows) ≡ row_input picked rows
    → input picked (map departure_of (r ∷ rows)) ≡ row_input picked (r ∷ rows)
input_of-row picked true r rows e rest = rw e (ap (λ items. (r.used, r.size) ∷ items) rest)
input_of-row picked false r rows e rest = rw e rest

-- what came in rows is what came in their departures
input_of-rows : (picked : Colour → Bool) (rows : List Row) → input picked (map departure_of rows) ≡ row_input picked rows
input_of-rows picked [] = refl
input_of-rows picked (r ∷ rows) = input_of-row picked (picked r.came) r rows refl (input_of-rows picked rows)

-- what holds of the images of a list's elements
All-unmap : {X Y : Type 0} (such : Y → Type 0) (f : X → Y) (xs : List X) → All such (map f xs) → All (λ x. such (f x)) xs
All-unmap such f xs all k d below =
    let there : k < length (map f xs) = omega (arith, below, length-map xs f) in
    subst such (get_or-map f xs k d (f d) below) (all k (f d) there)

-- rows that come to some departures: what came in those, and what holds of them
input-replay : (end : ℕ) (picked : Colour → Bool) (curve : Curve) (m : AnyMeter) (arrivals : List Arrival) (ds : List Departure)
    → departures how_any m (map offer_of arrivals) ≡ ds → KeepsCurveUpTo end curve (row_input picked (replay m arrivals)) → KeepsCurveUpTo end curve (input picked ds)
input-replay end picked curve m arrivals ds e kept =
    let same : row_input picked (replay m arrivals) ≡ input picked ds =
    sym (input_of-rows picked (replay m arrivals)) ∙ ap (input picked) (departures_of-rows_from m 0 arrivals ∙ e)
    in
    subst (KeepsCurveUpTo end curve) same kept

Keeping-replay : (colour : Colour) (m : AnyMeter) (arrivals : List Arrival) (ds : List Departure)
    → departures how_any m (map offer_of arrivals) ≡ ds → Stays colour (replay m arrivals) → Keeping colour ds
Keeping-replay colour m arrivals ds e stays =
    subst (Keeping colour) (departures_of-rows_from m 0 arrivals ∙ e)
    (All-map (λ (d : Departure). d.came ≡ colour → d.left ≡ colour) departure_of (replay m arrivals) stays)

Stays-replay : (end : ℕ) (colour : Colour) (m : AnyMeter) (arrivals : List Arrival) (ds : List Departure)
    → departures how_any m (map offer_of arrivals) ≡ ds → KeepingAt end colour ds → StaysAt end colour (replay m arrivals)
Stays-replay end colour m arrivals ds e keeping =
    All-unmap (λ (d : Departure). d.used ≡ end → d.came ≡ colour → d.left ≡ colour) departure_of (replay m arrivals)
    (subst (KeepingAt end colour) (sym (departures_of-rows_from m 0 arrivals ∙ e)) keeping)

-- ---- the laws, moment by moment

pub green_stays_green-at : (p : Parameters) (origin : ℕ) (arrivals : List Arrival) (end : ℕ)
    → KeepsCurveUpTo end (green_limit p) (row_input is_green (aware_rows p origin arrivals)) → PeakIsKeptUpTo end p (aware_rows p origin arrivals)
    → StaysAt end Green (aware_rows p origin arrivals)
green_stays_green-at (SrTcm p) origin arrivals end kept peak =
    let same = departures_of_single_rate (opening single_rate p Aware origin) (map offer_of arrivals) in
    Stays-replay end Green _ arrivals _ same (single_rates.green_stays_green end p origin _ (input-replay end is_green (green_limit (SrTcm p)) _ arrivals _ same kept))
green_stays_green-at (TrTcm p) origin arrivals end kept peak =
    let same = departures_of_two_rate (opening two_rate p Aware origin) (map offer_of arrivals) in
    Stays-replay end Green _ arrivals _ same (two_rates.green_stays_green end p origin _ (input-replay end is_green (green_limit (TrTcm p)) _ arrivals _ same kept)
    (input-replay end is_in_profile (all_limit (TrTcm p)) _ arrivals _ same peak))
green_stays_green-at (Rfc4115 p) origin arrivals end kept peak =
    let same = departures_of_separate_rates (opening separate_rates p Aware origin) (map offer_of arrivals) in
    Stays-replay end Green _ arrivals _ same (excess_rates.green_stays_green end p origin _ (input-replay end is_green (green_limit (Rfc4115 p)) _ arrivals _ same kept))

pub yellow_stays_yellow-at : (p : Parameters) (origin : ℕ) (arrivals : List Arrival) (end : ℕ)
    → Stays Green (aware_rows p origin arrivals) → KeepsCurveUpTo end (all_limit p) (row_input (counts (held_column p)) (aware_rows p origin arrivals))
    → StaysAt end Yellow (aware_rows p origin arrivals)
yellow_stays_yellow-at (SrTcm p) origin arrivals end stays kept =
    let same = departures_of_single_rate (opening single_rate p Aware origin) (map offer_of arrivals) in
    Stays-replay end Yellow _ arrivals _ same (single_rates.yellow_stays_yellow end p origin _ (input-replay end is_in_profile (all_limit (SrTcm p)) _ arrivals _ same kept))
yellow_stays_yellow-at (TrTcm p) origin arrivals end stays kept =
    let same = departures_of_two_rate (opening two_rate p Aware origin) (map offer_of arrivals) in
    Stays-replay end Yellow _ arrivals _ same (two_rates.yellow_stays_yellow end p origin _ (input-replay end is_in_profile (all_limit (TrTcm p)) _ arrivals _ same kept))
yellow_stays_yellow-at (Rfc4115 p) origin arrivals end stays kept =
    let same = departures_of_separate_rates (opening separate_rates p Aware origin) (map offer_of arrivals) in
    Stays-replay end Yellow _ arrivals _ same (excess_rates.yellow_stays_yellow end p origin _ (Keeping-replay Green _ arrivals _ same stays)
    (input-replay end is_yellow (all_limit (Rfc4115 p)) _ arrivals _ same kept))

-- ---- and at every moment

-- what holds of the rows of each moment holds of all
Stays-each : (colour : Colour) (rows : List Row) → ((moment : ℕ) → StaysAt moment colour rows) → Stays colour rows
Stays-each colour rows each k d below = each (get_or rows k d).used k d below refl

peak_up_to : (p : Parameters) (rows : List Row) → PeakIsKept p rows → (end : ℕ) → PeakIsKeptUpTo end p rows
peak_up_to (SrTcm p) rows kept = λ end. tt
peak_up_to (TrTcm p) rows kept = (Keeps-up_to p.peak_rate p.peak_burst (row_input is_in_profile rows)).0 kept
peak_up_to (Rfc4115 p) rows kept = λ end. tt

pub green_stays_green-any : (p : Parameters) (origin : ℕ) (arrivals : List Arrival)
    → KeepsCurve (green_limit p) (row_input is_green (aware_rows p origin arrivals)) → PeakIsKept p (aware_rows p origin arrivals)
    → Stays Green (aware_rows p origin arrivals)
green_stays_green-any p origin arrivals kept peak =
    let rows = aware_rows p origin arrivals in
    let up_to = (Keeps-up_to (green_limit p).rate (green_limit p).burst (row_input is_green rows)).0 kept in
    Stays-each Green rows (λ moment. green_stays_green-at p origin arrivals moment (up_to moment) (peak_up_to p rows peak moment))

pub yellow_stays_yellow-any : (p : Parameters) (origin : ℕ) (arrivals : List Arrival)
    → Stays Green (aware_rows p origin arrivals) → KeepsCurve (all_limit p) (row_input (counts (held_column p)) (aware_rows p origin arrivals))
    → Stays Yellow (aware_rows p origin arrivals)
yellow_stays_yellow-any p origin arrivals stays kept =
    let rows = aware_rows p origin arrivals in
    let up_to = (Keeps-up_to (all_limit p).rate (all_limit p).burst (row_input (counts (held_column p)) rows)).0 kept in
    Stays-each Yellow rows (λ moment. yellow_stays_yellow-at p origin arrivals moment stays (up_to moment))
