-- The meters that a packet passes count the share of its contract, at the moments at which they use the packet.
use Rattle.std.proofs.Common.{◌≡◌, ℕ, ◌+◌, ◌<◌, ◌≤◌, zero, suc, Bool, true, false, cond, List, [], ◌∷◌, ◌++◌, map, length, refl, sym, ◌∙◌, ap, subst, arith, get_or, Some, None, ◌||◌, drop, find, nat_eq, slice_get, is_some, option_map, option_to_list, Option, if◌then◌else◌, bytes_eq}
use Rattle.std.specs.List.{filter, list_any, All}
use Rattle.std.proofs.lemmas.Bool.{false≢true}
use Rattle.std.proofs.lemmas.Option.{none-some, same_Some}
use Rattle.std.proofs.lemmas.Slice.Eq.{bytes_eq-Decides}
use Rattle.moment_core.specs.declared.column.Column.TheVariants as columns
use Rattle.ds_domain_base.specs.Domains.{Domain, meter_of}
use Rattle.ds_domain_base.specs.Sent.{has_peak}
use Rattle.ds_domain_base.specs.declared.contract.Contract.{Contract}
use Rattle.ds_domain_base.specs.declared.parts.Meter.{Meter}
use Rattle.ds_certificate.specs.Columns.{Bound}
use Rattle.ds_certificate.specs.Sources.{source_of}
use Rattle.ds_checker.specs.Loads.{Share, bound_into, share_of, shares_at}
use Rattle.ds_checker.proofs.WayLaws.{way_to}
use Rattle.ds_timeline.specs.Timelines.{IsHeld, IsRated, is_reserved}
use Rattle.ds_timeline.specs.declared.reservation.Reservation.{Reservation}
use Rattle.ds_timeline.proofs.ReservedLaws.{found-holds, held-over, is_reserved-at}
use Rattle.meter_fabric_base.specs.Grounds.{Ground}
use Rattle.meter_fabric_base.specs.Openings.{meter_opening}
use Rattle.meter_fabric_base.specs.Sites.{site_of}
use Rattle.meter_fabric_base.specs.declared.trail.Receipt.{Receipt}
use Rattle.run_audit.specs.Premises.{IsInTime, Premises}
use Rattle.run_audit.specs.Runs.{IsRun, Run}
use Rattle.run_audit.specs.Sendings.{Sending}
use Rattle.run_audit.proofs.Inputs.{passages_go}
use Rattle.run_audit.proofs.Journals.{ForEachSent, IsOver, IsSent, each_sent, journal_at, meter_at}
use Rattle.run_audit.proofs.Passages.{moment_of, receipts_along, receipts_of}
use Rattle.run_audit.proofs.Places.{apart_names, fits_names, found_at, meters_known, named_meter}
use Rattle.run_audit.proofs.Ways.{Goes, used_by}

-- ---- the meters that a packet passes count its contract

list_any-at : {X : Type 0} (test : X → Bool) (xs : List X) (n : ℕ) (e : X) → n < length xs → test (get_or xs n e) ≡ true → list_any test xs ≡ true
list_any-at test [] n e short passes = absurd (omega (arith, short))
list_any-at test (x ∷ xs) zero e short passes = rw passes refl
list_any-at test (x ∷ xs) (suc n) e short passes = or-right (test x) (list_any test xs) (list_any-at test xs n e (omega (arith, short)) passes)
  where
    or-right : (a b : Bool) → b ≡ true → (a || b) ≡ true
    or-right true b h = refl
    or-right false b h = h

list_any-right : {X : Type 0} (test : X → Bool) (xs ys : List X) → list_any test ys ≡ true → list_any test (xs ++ ys) ≡ true
list_any-right test [] ys passes = passes
list_any-right test (x ∷ xs) ys passes = or-right (test x) (list_any test (xs ++ ys)) (list_any-right test xs ys passes)
  where
    or-right : (a b : Bool) → b ≡ true → (a || b) ≡ true
    or-right true b h = refl
    or-right false b h = h

bound_there : (name : List ℕ) (path : List (List ℕ)) (bounds : List Bound) → length bounds ≡ length path → list_any (bytes_eq name) path ≡ true
    → is_some (bound_into name path bounds) ≡ true
unfolding bound_into
bound_there name [] bounds sized there = absurd (false≢true there)
bound_there name (to ∷ path) [] sized there = absurd (omega (arith, sized))
bound_there name (to ∷ path) (bound ∷ bounds) sized there = by_name (bytes_eq name to) there (bound_there name path bounds (omega (arith, sized)))
  where
    by_name : (b : Bool) → (b || list_any (bytes_eq name) path) ≡ true
        → (list_any (bytes_eq name) path ≡ true → is_some (bound_into name path bounds) ≡ true)
        → is_some (if b then Some bound else bound_into name path bounds) ≡ true
    by_name true there onward = refl
    by_name false there onward = onward there

share_there : (d : Domain) (c : Contract) (found : Option Bound) (rest : List Share) → is_some found ≡ true → has_peak c.terms ≡ true
    → list_any (λ share. share.has_peak) (option_to_list (option_map (λ bound. record { source = source_of d c; bound = bound; has_peak = has_peak c.terms }) found) ++ rest) ≡ true
share_there d c None rest there peak = absurd (false≢true there)
share_there d c (Some bound) rest there peak = rw peak refl

sized_tail : (bounds : List Bound) (size : ℕ) → length bounds ≡ suc size → length (drop 1 bounds) ≡ size
sized_tail [] size sized = absurd (omega (arith, sized))
sized_tail (first ∷ bounds) size sized = omega (arith, sized)

-- the shares of what a test picks have a peak, where the one of a flow, which it picks, does
pub peak_there : (d : Domain) (name : List ℕ) (test : Reservation → Bool) (flow : ℕ) (rs : List Reservation) (r : Reservation) → find (λ x. nat_eq x.flow flow) rs ≡ Some r → test r ≡ true
    → length r.bounds ≡ suc (length r.contract.path) → has_peak r.contract.terms ≡ true → list_any (bytes_eq name) r.contract.path ≡ true
    → list_any (λ share. share.has_peak) (shares_at d name (map (λ x. x.contract) (filter test rs)) (map (λ x. x.bounds) (filter test rs))) ≡ true
unfolding shares_at
peak_there d name test flow [] r found picked sized peak passes = absurd (none-some r found)
peak_there d name test flow (x ∷ rs) r found picked sized peak passes =
    by_flow (nat_eq x.flow flow) found (λ later. peak_there d name test flow rs r later picked sized peak passes)
  where
    by_test : (b : Bool)
        → list_any (λ share. share.has_peak) (shares_at d name (map (λ x. x.contract) (filter test rs)) (map (λ x. x.bounds) (filter test rs))) ≡ true
        → list_any (λ share. share.has_peak)
        (shares_at d name (map (λ x. x.contract) (cond b (x ∷ filter test rs) (filter test rs))) (map (λ x. x.bounds) (cond b (x ∷ filter test rs) (filter test rs)))) ≡ true
    by_test true onward =
        list_any-right (λ share. share.has_peak) (share_of d name x.contract x.bounds) (shares_at d name (map (λ x. x.contract) (filter test rs)) (map (λ x. x.bounds) (filter test rs))) onward
    by_test false onward = onward

    by_flow : (b : Bool) → cond b (Some x) (find (λ x. nat_eq x.flow flow) rs) ≡ Some r
        → (find (λ x. nat_eq x.flow flow) rs ≡ Some r
        → list_any (λ share. share.has_peak) (shares_at d name (map (λ x. x.contract) (filter test rs)) (map (λ x. x.bounds) (filter test rs))) ≡ true)
        → list_any (λ share. share.has_peak)
        (shares_at d name (map (λ x. x.contract) (cond (test x) (x ∷ filter test rs) (filter test rs))) (map (λ x. x.bounds) (cond (test x) (x ∷ filter test rs) (filter test rs)))) ≡ true
    by_flow true here onward =
        let own : r ≡ x = sym (same_Some x r here) in
        let first : test x ≡ true = subst (λ y. test y ≡ true) own picked in
        rw first
        (share_there d x.contract (bound_into name x.contract.path (drop 1 x.bounds)) (shares_at d name (map (λ x. x.contract) (filter test rs)) (map (λ x. x.bounds) (filter test rs)))
        (bound_there name x.contract.path (drop 1 x.bounds)
        (sized_tail x.bounds (length x.contract.path) (subst (λ (y : Reservation). length y.bounds ≡ suc (length y.contract.path)) own sized))
        (subst (λ (y : Reservation). list_any (bytes_eq name) y.contract.path ≡ true) own passes))
        (subst (λ (y : Reservation). has_peak y.contract.terms ≡ true) own peak))
    by_flow false other onward = by_test (test x) (onward other)

-- the meter of a receipt, which is the one of its name, and which the path of its contract leads through
abbrev pub IsPassed : Ground → Contract → Receipt → Type 0
IsPassed g c r =
    (entry : List ℕ × Meter) × (slice_get g.domain.meters r.site ≡ Some entry) × (list_any (bytes_eq entry.0) c.path ≡ true) × (site_of g.domain entry.0 ≡ r.site)

pub passed : (g : Ground) (rs : List Reservation) (run : Run) → IsOver g rs → IsRun g run → Premises g run → ForEachSent g run (λ p c s. All (IsPassed g c) s.receipts)
passed g rs run good is_run premises k e h c is s sent =
    let p = get_or run.passages k e in
    let known = each_sent g rs run good is_run premises k e h c is s sent in
    receipts_along g.domain p.packet 1 s.moment s.colour c.path s.receipts (IsPassed g c)
    (λ n x m r site size.
    let to = get_or c.path n x in
    let (entry, there, named) = found_at g.domain to (known.known n x m) in
    let name : to ≡ entry.0 = (bytes_eq-Decides to entry.0).0 named in
    (entry, rw site there, list_any-at (bytes_eq entry.0) c.path n x m ((bytes_eq-Decides entry.0 to).1 (sym name)), ap (site_of g.domain) (sym name) ∙ sym site))
    known.trail

-- the share of a packet's contract is reserved when a meter of its path uses the packet
used_reserved : (d : Domain) (name : List ℕ) (m : Meter) (r : Reservation) (s : Sending) (used : ℕ) (found : Option Bound) → bound_into name r.contract.path (drop 1 r.bounds) ≡ found
    → is_some found ≡ true → meter_of d name ≡ Some m → r.from ≤ r.contract.lifetime.since → IsHeld d r → IsRated d r → IsInTime r.contract s
    → s.moment ≤ used → used ≤ s.moment + way_to d name r.contract.port r.contract.path + m.skew
    → is_reserved r used ≡ true
used_reserved d name m r s used None leads there is_meter begun held rated in_time since by = absurd (false≢true there)
used_reserved d name m r s used (Some bound) leads there is_meter begun held rated in_time since by =
    is_reserved-at r used (omega (arith, begun, in_time.0, since))
    (λ end retired.
    let over = held-over d r name m columns.Green bound held rated leads is_meter end retired in
    let early = in_time.1 over.until over.ended in
    omega (arith, early, by, over.held))

pub still_reserved : (g : Ground) (rs : List Reservation) (run : Run) (good : IsOver g rs) (is_run : IsRun g run) (premises : Premises g run)
    → ForEachSent g run (λ p c s. (known : IsSent g rs p c s) → All (λ r. is_reserved known.reservation r.row.used ≡ true) s.receipts)
still_reserved g rs run good is_run premises k e h c is s sent known i d l =
    let p = get_or run.passages k e in
    let r = get_or s.receipts i d in
    let own = known.reservation in
    let test = λ (x : Reservation). nat_eq x.flow p.packet.flow in
    let (entry, at_site, passes, named) = passed g rs run good is_run premises k e h c is s sent i d l in
    let (j, stands) = journal_at g run is_run premises r.site (meter_opening entry.1) (meter_at g r.site entry at_site) in
    let goes : Goes g.domain r.site entry.1.skew c.port c.path s.moment s.receipts =
    subst (λ o. Goes g.domain r.site entry.1.skew c.port c.path (moment_of o) (receipts_of o)) sent (passages_go g rs run good is_run premises r.site entry j stands k e h c is)
    in
    let names = fits_names g.domain c known.shape.0 in
    let used = used_by g.domain entry.0 r.site entry.1.skew c.port c.path s.moment s.receipts
    (apart_names g.domain entry.0 entry.1 r.site c.path at_site (meters_known g.domain c.path names.0)) names.1 goes i d l refl in
    let same = sym known.contract in
    used_reserved g.domain entry.0 entry.1 own s r.row.used (bound_into entry.0 own.contract.path (drop 1 own.bounds)) refl
    (bound_there entry.0 own.contract.path (drop 1 own.bounds)
    (sized_tail own.bounds (length own.contract.path) (subst (λ (x : Contract). length own.bounds ≡ suc (length x.path)) same known.shape.1))
    (subst (λ (x : Contract). list_any (bytes_eq entry.0) x.path ≡ true) same passes))
    (named_meter g.domain entry.0 entry.1 r.site at_site named)
    (found-holds (λ x. x.from ≤ x.contract.lifetime.since) test rs own good.covered.begun known.found)
    (found-holds (IsHeld g.domain) test rs own good.covered.held known.found)
    (found-holds (IsRated g.domain) test rs own good.rated known.found)
    (subst (λ x. IsInTime x s) same known.in_time)
    used.0
    (subst (λ (x : Contract). r.row.used ≤ s.moment + way_to g.domain entry.0 x.port x.path + entry.1.skew) same used.1)
