-- The journals of a run, and what holds of the receipts from their sites.
use Rattle.std.proofs.Common.{◌≡◌, ℕ, ◌+◌, ◌<◌, ◌≤◌, zero, suc, true, List, [], ◌∷◌, length, refl, sym, ◌∙◌, ap, subst, arith, get_or, Some, nat_eq, nat_lt, find, is_some, slice_get, IsPermutation, All}
use Rattle.std.proofs.lemmas.Bool.Decides.{nat_tests}
use Rattle.std.proofs.lemmas.List.{get_or-map, length-map}
use Rattle.std.proofs.lemmas.List.Sorted.{All-permutation, IsPermutation-sym}
use Rattle.std.proofs.lemmas.Option.{same_Some, slice_get_within}
use Rattle.moment_core.specs.declared.colour.Colour.{Colour}
use Rattle.moment_core.proofs.MeteringLaws.{moment_le-used}
use Rattle.meter_book_base.specs.AnyMeter.{after_any, newest_of}
use Rattle.meter_book.specs.Replay.{Journal, journal_rows, offer_of, rows_from}
use Rattle.meter_book_base.specs.declared.any_meter.AnyMeter.{AnyMeter}
use Rattle.meter_book.specs.declared.row.Arrival.{Arrival}
use Rattle.meter_book.specs.declared.row.Row.{Row}
use Rattle.ds_domain_base.specs.Domains.{Domain}
use Rattle.ds_domain_base.specs.declared.contract.Contract.{Contract}
use Rattle.ds_domain_base.specs.declared.parts.Meter.{Meter}
use Rattle.ds_domain_base.specs.declared.terms.Terms.{Terms}
use Rattle.ds_domain_base.specs.declared.terms.Terms.TheVariants.{Trusted, Policed}
use Rattle.ds_certificate.specs.Bounds.{HasShape, Meets}
use Rattle.ds_timeline.specs.Timelines.{IsCovered, IsHeld, IsRated, hold_in, is_reserved}
use Rattle.ds_timeline.specs.declared.reservation.Reservation.{Reservation}
use Rattle.ds_timeline.proofs.ReservedLaws.{found-holds, is_reserved-at, shaped, some-and}
use Rattle.meter_fabric_base.specs.Grounds.{Ground, contract_of}
use Rattle.meter_fabric_base.specs.Openings.{meter_opening, opening_at}
use Rattle.meter_fabric_base.specs.Sites.{hops_along}
use Rattle.meter_fabric_base.specs.Trails.{IsTrail}
use Rattle.meter_fabric_base.specs.declared.site.Opening.{Opening}
use Rattle.meter_fabric_base.specs.declared.trail.Receipt.{Receipt}
use Rattle.run_audit.specs.Premises.{IsInTime, Premises}
use Rattle.run_audit.specs.Runs.{IsRun, Passage, Run, told}
use Rattle.run_audit.specs.Sendings.{Sending, sending_by, sending_of}
use Rattle.run_audit.proofs.Passages.{receipts_along, told_each, trail_sent}
use Rattle.run_audit.proofs.Places.{IsMeter, fits_names, found_at, meters_known}

-- the reservation of a contract with a flow
pub record IsReserved (rs : List Reservation) (flow : ℕ) (c : Contract) : Type 0 where
  pub reservation : Reservation
  pub found : find (λ r. nat_eq r.flow flow) rs ≡ Some reservation
  pub contract : reservation.contract ≡ c

-- reservations that are covered over the domain of a ground and had rates, in which the contracts of that stand with
-- their flows
pub record IsOver (g : Ground) (rs : List Reservation) : Type 0 where
  pub covered : IsCovered (record { domain = g.domain; reservations = rs })
  pub rated : All (IsRated g.domain) rs
  pub granted : (flow : ℕ) (c : Contract) → contract_of g flow ≡ Some c → IsReserved rs flow c

-- ---- rows of a replay

abbrev pub IsLate : Row → Type 0
IsLate r = (r.arrival ≤ r.used) × (r.used ≤ r.arrival + r.late)

rows_late : (m : AnyMeter) (place : ℕ) (arrivals : List Arrival) → All IsLate (rows_from m place arrivals)
rows_late m place [] k e h = absurd (omega (arith, h))
rows_late m place (a ∷ as_) zero e h = let later = moment_le-used (newest_of m) a.moment in (later, omega (arith, later))
rows_late m place (a ∷ as_) (suc k) e h = rows_late (after_any m (offer_of a)) (place + 1) as_ k e (omega (arith, h))

-- ---- the journal of a site

pub record Stands (run : Run) (site : ℕ) (o : Opening) (j : Journal) : Type 0 where
  pub meter : j.opening ≡ o.meter
  pub rows : IsPermutation (told site run.passages) (journal_rows j)
  pub used : All (λ r. (r.arrival ≤ r.used) × (r.used ≤ r.arrival + o.skew)) (journal_rows j)

journal_here : (g : Ground) (run : Run) (site : ℕ) (o : Opening) (j : Journal) → opening_at g site ≡ Some o → j.site ≡ site
    → opening_at g j.site ≡ Some (record { meter = j.opening; skew = j.skew })
    → IsPermutation (told j.site run.passages) (journal_rows j)
    → All (λ r. r.late ≤ j.skew) (journal_rows j)
    → Stands run site o j
journal_here g run site o j there same own told_rows late =
    let opens : record { meter = j.opening; skew = j.skew } ≡ o =
    same_Some (record { meter = j.opening; skew = j.skew }) o (sym own ∙ ap (opening_at g) same ∙ there)
    in
    let skew : j.skew ≡ o.skew = ap (λ x. x.skew) opens in
    record {
      meter = ap (λ x. x.meter) opens;
      rows = subst (λ n. IsPermutation (told n run.passages) (journal_rows j)) same told_rows;
      used = λ i e l.
          let row = rows_late j.opening 0 j.arrivals i e l in
          (row.0, omega (arith, row.1, late i e l, skew));
    }

pub journal_at : (g : Ground) (run : Run) → IsRun g run → Premises g run → (site : ℕ) (o : Opening) → opening_at g site ≡ Some o → (j : Journal) × Stands run site o j
journal_at g run is_run premises site o there =
    let has : is_some (opening_at g site) ≡ true = ap is_some there in
    let (k, short, at_site) = is_run.journals.each site has in
    let none : Journal = record { site = 0; opening = o.meter; skew = 0; arrivals = [] } in
    let j = get_or run.journals k none in
    let h : k < length run.journals = omega (arith, short, length-map run.journals (λ (x : Journal). x.site)) in
    let same : j.site ≡ site = sym (get_or-map (λ (x : Journal). x.site) run.journals k none site h) ∙ at_site in
    (j, journal_here g run site o j there same (is_run.journals.own k none h) (is_run.rows k none h) (premises.skew k none h))

pub meter_at : (g : Ground) (site : ℕ) (entry : List ℕ × Meter) → slice_get g.domain.meters site ≡ Some entry → opening_at g site ≡ Some (meter_opening entry.1)
meter_at g site entry there =
    let short : nat_lt site (length g.domain.meters) ≡ true = grind (arith, nat_tests, slice_get_within g.domain.meters site entry there) in
    rw (short, there) refl

-- ---- receipts from a site

All-sent : (terms : Terms) (came : Colour) (begun : ℕ) (receipts : List Receipt) (s : Sending) (P : Receipt → Type 0)
    → sending_by terms came begun receipts ≡ Some s → All P receipts → All P s.receipts
All-sent (Trusted committed peak) came begun receipts s P sent all = rw (← same_Some (record { moment = begun; colour = came; receipts = receipts }) s sent) all
All-sent (Policed parameters mode) came begun [] s P sent all = absurd cc
All-sent (Policed parameters mode) came begun (edge ∷ receipts) s P sent all =
    rw (← same_Some (record { moment = edge.row.arrival; colour = edge.row.left; receipts = receipts }) s sent) (λ k e h. all (suc k) e (omega (arith, h)))

-- what holds of the rows of a site holds of each packet's receipts from there
pub receipts_from : (run : Run) (site : ℕ) (o : Opening) (j : Journal) (P : Row → Type 0) → Stands run site o j → All P (journal_rows j)
    → All (λ p. All (λ r. nat_eq r.site site ≡ true → P r.row) p.receipts) run.passages
receipts_from run site o j P stands all =
    told_each site P run.passages (All-permutation P (journal_rows j) (told site run.passages) (IsPermutation-sym (told site run.passages) (journal_rows j) stands.rows) all)

pub sent_from : (run : Run) (site : ℕ) (o : Opening) (j : Journal) (P : Row → Type 0) → Stands run site o j → All P (journal_rows j)
    → All (λ p. (c : Contract) (s : Sending) → sending_of c p ≡ Some s → All (λ r. nat_eq r.site site ≡ true → P r.row) s.receipts) run.passages
sent_from run site o j P stands all k e h c s sent =
    let p = get_or run.passages k e in
    All-sent c.terms _ p.packet.begun p.receipts s (λ r. nat_eq r.site site ≡ true → P r.row) sent (receipts_from run site o j P stands all k e h)

-- ---- each packet that was sent

-- Its contract has a reservation, whose share is reserved when it is sent, and it fits; and its trail from the meters on.
pub record IsSent (g : Ground) (rs : List Reservation) (p : Passage) (c : Contract) (s : Sending) : Type 0 where
  pub reservation : Reservation
  pub found : find (λ r. nat_eq r.flow p.packet.flow) rs ≡ Some reservation
  pub contract : reservation.contract ≡ c
  pub in_time : IsInTime c s
  pub shape : HasShape g.domain c reservation.bounds
  pub known : All (IsMeter g.domain) c.path
  pub trail : IsTrail p.packet s.moment s.colour (hops_along g.domain 1 c.path) s.receipts

abbrev pub ForEachSent : Ground → Run → (Passage → Contract → Sending → Type 0) → Type 0
ForEachSent g run P = All (λ p. (c : Contract) → contract_of g p.packet.flow ≡ Some c → (s : Sending) → sending_of c p ≡ Some s → P p c s) run.passages

-- a share is reserved when a packet of its contract is sent
pub sent_reserved : (d : Domain) (r : Reservation) (s : Sending) → r.from ≤ r.contract.lifetime.since → IsHeld d r → IsInTime r.contract s → is_reserved r s.moment ≡ true
sent_reserved d r s begun held in_time =
    is_reserved-at r s.moment (omega (arith, begun, in_time.0))
    (λ end retired.
    let (until, ended, free) = some-and (λ until. until + hold_in d r ≤ end) r.contract.lifetime.until (held end retired) in
    let early = in_time.1 until ended in
    omega (arith, early, free))

pub each_sent : (g : Ground) (rs : List Reservation) (run : Run) → IsOver g rs → IsRun g run → Premises g run → ForEachSent g run (IsSent g rs)
each_sent g rs run good is_run premises k e h c is s sent =
    let p = get_or run.passages k e in
    let test = λ (r : Reservation). nat_eq r.flow p.packet.flow in
    let (own, is_own, trail) = is_run.passages k e h in
    let same : own ≡ c = same_Some own c (sym is_own ∙ is) in
    let granted = good.granted p.packet.flow c is in
    let r = granted.reservation in
    let in_time = premises.time k e h c is s sent in
    let reserved = sent_reserved g.domain r s
    (found-holds (λ x. x.from ≤ x.contract.lifetime.since) test rs r good.covered.begun granted.found)
    (found-holds (IsHeld g.domain) test rs r good.covered.held granted.found)
    (subst (λ x. IsInTime x s) (sym granted.contract) in_time) in
    let shape = subst (λ x. HasShape g.domain x r.bounds) granted.contract
    (found-holds (λ x. is_reserved x s.moment ≡ true → HasShape g.domain x.contract x.bounds × Meets g.domain x.contract x.bounds) test rs r
    (shaped (record { domain = g.domain; reservations = rs }) good.covered s.moment) granted.found reserved).0 in
    record {
      reservation = r;
      found = granted.found;
      contract = granted.contract;
      in_time = in_time;
      shape = shape;
      known = meters_known g.domain c.path (fits_names g.domain c shape.0).0;
      trail = trail_sent g.domain p.packet.flow p.packet p.packet.begun _ c.terms c.path p.receipts s (rw same at trail) sent;
    }

-- what holds of the rows of each meter holds of all receipts from the meters on
pub everywhere : (g : Ground) (rs : List Reservation) (run : Run) → IsOver g rs → IsRun g run → Premises g run → (P : Row → Type 0)
    → ((site : ℕ) (entry : List ℕ × Meter) (j : Journal) → slice_get g.domain.meters site ≡ Some entry → Stands run site (meter_opening entry.1) j → All P (journal_rows j))
    → ForEachSent g run (λ p c s. All (λ r. P r.row) s.receipts)
everywhere g rs run good is_run premises P each k e h c is s sent i d l =
    let p = get_or run.passages k e in
    let known = each_sent g rs run good is_run premises k e h c is s sent in
    let r = get_or s.receipts i d in
    let (entry, at_site) = receipts_along g.domain p.packet 1 s.moment s.colour c.path s.receipts (λ x. (entry : List ℕ × Meter) × (slice_get g.domain.meters x.site ≡ Some entry))
    (λ n x m y site size. let (entry, there, named) = found_at g.domain (get_or c.path n x) (known.known n x m) in (entry, rw site there))
    known.trail i d l
    in
    let (j, stands) = journal_at g run is_run premises r.site (meter_opening entry.1) (meter_at g r.site entry at_site) in
    sent_from run r.site (meter_opening entry.1) j P stands (each r.site entry j at_site stands) k e h c s sent i d l (grind (arith, nat_tests))
