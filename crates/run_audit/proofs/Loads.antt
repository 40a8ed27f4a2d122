-- What contracts bring to a meter together, and how the packets of a run are those of its contracts.
use Rattle.std.proofs.Common.{◌≡◌, ℕ, ◌+◌, ◌<◌, ◌≤◌, inl, inr, Bool, true, false, cond, List, [], ◌∷◌, ◌++◌, map, refl, sym, ◌∙◌, ap, arith, get_or, Some, None, drop, nat_eq, find, Option, option_map, option_to_list}
use Rattle.std.specs.List.{sum_by, filter, flat_map, list_any, All, AllByRecursion}
use Rattle.std.proofs.lemmas.Bool.{cases_lt, false≢true}
use Rattle.std.proofs.lemmas.Bool.Decides.{nat_tests}
use Rattle.std.proofs.lemmas.List.{map-append}
use Rattle.std.proofs.lemmas.List.Elements.{filter-append}
use Rattle.std.proofs.lemmas.List.Sums.{sum_by-cons, sum_by-append}
use Rattle.std.proofs.lemmas.Option.{none-some, same_Some}
use Rattle.moment_core.specs.declared.column.Column.{Column}
use Rattle.moment_core.specs.declared.column.Column.TheVariants as columns
use Rattle.moment_core.specs.Conformance.{size_within}
use Rattle.moment_core.specs.Volume.{bytes_over}
use Rattle.envelope_core.specs.Curve.{Curve, KeepsCurve, widened}
use Rattle.envelope_core.proofs.Windows.{Keeps-looser, sum_by-map, sum_by-mono, sum_by-none, sum_by-flat_map, sum_by-filter, sum_by-split}
use Rattle.ds_domain_base.specs.Domains.{Domain, port_of, skew_of}
use Rattle.ds_domain_base.specs.Sent.{has_peak}
use Rattle.ds_domain_base.specs.declared.contract.Contract.{Contract}
use Rattle.ds_domain_base.specs.declared.parts.Version.{Version}
use Rattle.ds_domain_base.specs.declared.terms.Terms.{Terms}
use Rattle.ds_domain_base.specs.declared.terms.Terms.TheVariants.{Trusted, Policed}
use Rattle.ds_certificate.specs.Columns.{Bound, bytes_in, envelope_in}
use Rattle.ds_certificate.specs.Sources.{source_by, source_of}
use Rattle.ds_checker.specs.Loads.{Share, bound_into, kept, load, share_of, shares_at}
use Rattle.ds_timeline.specs.declared.reservation.Reservation.{Reservation}
use Rattle.run_audit.proofs.Ways.{KeepsBound, neither}

-- ---- the share of a contract

pub KeepsLoad-share : (d : Domain) (skew : ℕ) (column : Column) (c : Contract) (found : Option Bound) (items : List (ℕ × ℕ))
    → KeepsBound (envelope_in column (source_of d c)).rate skew column found items
    → KeepsCurve (load column skew (option_to_list (option_map (λ bound. record { source = source_of d c; bound = bound; has_peak = has_peak c.terms }) found))) items
KeepsLoad-share d skew column c None items kept = kept
KeepsLoad-share d skew column c (Some bound) items kept =
    let rate = (envelope_in column (source_of d c)).rate in
    let burst = bytes_in column bound + bytes_over rate skew in
    Keeps-looser rate burst (0 + rate) (0 + burst) items (omega arith) (omega arith) kept

-- ---- the shares of reservations

-- what the shares of reservations that a test picks bring to a meter
abbrev pub load_of : Domain → List ℕ → ℕ → Column → (Share → Bool) → List Reservation → Curve
load_of d name skew column test rs = load column skew (filter test (shares_at d name (map (λ r. r.contract) rs) (map (λ r. r.bounds) rs)))

-- what one of them brings
abbrev pub part_of_load : Domain → List ℕ → ℕ → Column → (Share → Bool) → Reservation → Curve
part_of_load d name skew column test r = load column skew (filter test (share_of d name r.contract r.bounds))

load-append : (column : Column) (skew : ℕ) (xs ys : List Share)
    → ((load column skew (xs ++ ys)).rate ≡ (load column skew xs).rate + (load column skew ys).rate)
    × ((load column skew (xs ++ ys)).burst ≡ (load column skew xs).burst + (load column skew ys).burst)
load-append column skew xs ys =
    let curve = λ (share : Share). widened skew (record { rate = (envelope_in column share.source).rate; burst = bytes_in column share.bound }) in
    rw (map-append curve xs ys)
    (sum_by-append (λ (c : Curve). c.rate) (map curve xs) (map curve ys), sum_by-append (λ (c : Curve). c.burst) (map curve xs) (map curve ys))

-- all of them together bring what each of them does
pub load-sum : (d : Domain) (name : List ℕ) (skew : ℕ) (column : Column) (test : Share → Bool) (rs : List Reservation)
    → ((load_of d name skew column test rs).rate ≡ sum_by (λ r. (part_of_load d name skew column test r).rate) rs)
    × ((load_of d name skew column test rs).burst ≡ sum_by (λ r. (part_of_load d name skew column test r).burst) rs)
unfolding shares_at
load-sum d name skew column test [] = (refl, refl)
load-sum d name skew column test (r ∷ rs) =
    let own = share_of d name r.contract r.bounds in
    let others = shares_at d name (map (λ x. x.contract) rs) (map (λ x. x.bounds) rs) in
    let rate = λ (x : Reservation). (part_of_load d name skew column test x).rate in
    let burst = λ (x : Reservation). (part_of_load d name skew column test x).burst in
    let next = load-sum d name skew column test rs in
    let both = load-append column skew (filter test own) (filter test others) in
    rw (filter-append test own others) (
      both.0 ∙ ap (λ n. rate r + n) next.0 ∙ sym (sum_by-cons rate r rs),
      both.1 ∙ ap (λ n. burst r + n) next.1 ∙ sym (sum_by-cons burst r rs),
    )

-- ---- shares without a peak

-- a share without a peak has in each column the same rate
abbrev IsPlain : Share → Type 0
IsPlain share = share.has_peak ≡ false → (envelope_in columns.All share.source).rate ≡ (envelope_in columns.Green share.source).rate

plain_source : (version : Version) (skew : ℕ) (terms : Terms) → has_peak terms ≡ false
    → (envelope_in columns.All (source_by version skew terms)).rate ≡ (envelope_in columns.Green (source_by version skew terms)).rate
plain_source version skew (Trusted committed None) none = refl
plain_source version skew (Trusted committed (Some peak)) none = absurd (false≢true (sym none))
plain_source version skew (Policed parameters mode) none = absurd (false≢true (sym none))

plain_contract : (d : Domain) (c : Contract) → has_peak c.terms ≡ false → (envelope_in columns.All (source_of d c)).rate ≡ (envelope_in columns.Green (source_of d c)).rate
unfolding source_of
plain_contract d c none = plain_source d.version (skew_of (port_of d c.port)) c.terms none

plain_shares : (d : Domain) (name : List ℕ) (contracts : List Contract) (rows : List (List Bound)) → AllByRecursion IsPlain (shares_at d name contracts rows)
unfolding shares_at
plain_shares d name [] rows = tt
plain_shares d name (c ∷ contracts) [] = tt
plain_shares d name (c ∷ contracts) (bounds ∷ rows) = behind (bound_into name c.path (drop 1 bounds)) (plain_shares d name contracts rows)
  where
    behind : (found : Option Bound) → AllByRecursion IsPlain (shares_at d name contracts rows)
        → AllByRecursion IsPlain (option_to_list (option_map (λ bound. record { source = source_of d c; bound = bound; has_peak = has_peak c.terms }) found) ++ shares_at d name contracts rows)
    behind None rest = rest
    behind (Some bound) rest = (plain_contract d c, rest)

plain_rates : (shares : List Share) → AllByRecursion IsPlain shares → list_any (λ share. share.has_peak) shares ≡ false
    → sum_by (λ share. (envelope_in columns.All share.source).rate) shares ≡ sum_by (λ share. (envelope_in columns.Green share.source).rate) shares
plain_rates [] plain none = refl
plain_rates (share ∷ shares) plain none =
    let both = neither share.has_peak (list_any (λ share. share.has_peak) shares) none in
    let rate = λ (column : Column) (share : Share). (envelope_in column share.source).rate in
    sum_by-cons (rate columns.All) share shares ∙ ap (λ n. n + sum_by (rate columns.All) shares) (plain.0 both.0)
    ∙ ap (λ n. rate columns.Green share + n) (plain_rates shares plain.1 both.1) ∙ sym (sum_by-cons (rate columns.Green) share shares)

load-rate : (column : Column) (skew : ℕ) (shares : List Share) → (load column skew shares).rate ≡ sum_by (λ share. (envelope_in column share.source).rate) shares
load-rate column skew shares = sum_by-map (λ (curve : Curve). curve.rate) (λ (share : Share). widened skew (kept column share)) shares

-- where none has a peak, green and yellow packets together have the rate of the green ones
pub plain_load : (d : Domain) (name : List ℕ) (skew : ℕ) (contracts : List Contract) (rows : List (List Bound)) → list_any (λ share. share.has_peak) (shares_at d name contracts rows) ≡ false
    → (load columns.All skew (shares_at d name contracts rows)).rate ≡ (load columns.Green skew (shares_at d name contracts rows)).rate
plain_load d name skew contracts rows none =
    let shares = shares_at d name contracts rows in
    load-rate columns.All skew shares ∙ plain_rates shares (plain_shares d name contracts rows) none ∙ sym (load-rate columns.Green skew shares)

-- ---- the packets of contracts

-- the items of the things of a number
abbrev pub part_of : {P : Type 0} → (P → ℕ) → (P → List (ℕ × ℕ)) → List P → ℕ → List (ℕ × ℕ)
part_of flow part ps n = flat_map part (filter (λ p. nat_eq (flow p) n) ps)

-- what a thing weighs is what it brings as one of the first of its number
abbrev pub IsPartOf : {P F : Type 0} → (F → ℕ) → (F → P → List (ℕ × ℕ)) → ℕ → ℕ → List F → ℕ → P → ℕ → Type 0
IsPartOf {P} {F} number part start end things flow p weight =
    (f : F) × (find (λ x. nat_eq (number x) flow) things ≡ Some f) × (weight ≤ sum_by (size_within start end) (part f p))

apart_or_here : {P F : Type 0} (number : F → ℕ) (part : F → P → List (ℕ × ℕ)) (start end : ℕ) (f : F) (things : List F) (flow : ℕ) (p : P) (weight : ℕ)
    → (t : Bool) → nat_eq flow (number f) ≡ t → IsPartOf number part start end (f ∷ things) flow p weight
    → (cond t weight 0 ≤ cond t (sum_by (size_within start end) (part f p)) 0) × (0 < cond t 0 weight → IsPartOf number part start end things flow p (cond t 0 weight))
apart_or_here number part start end f things flow p weight true here (g, found, less) =
    let first : nat_eq (number f) flow ≡ true = grind (arith, nat_tests, here) in
    let same : f ≡ g = same_Some f g (rw first at found) in
    (rw same less, λ some. absurd (omega (arith, some)))
apart_or_here number part start end f things flow p weight false differs (g, found, less) =
    let other : nat_eq (number f) flow ≡ false = grind (arith, nat_tests, differs) in
    (omega arith, λ some. (g, rw other at found, less))

-- so all of them together bring no more than those of each number do
pub gather : {P F : Type 0} (flow : P → ℕ) (number : F → ℕ) (part : F → P → List (ℕ × ℕ)) (ps : List P) (start end : ℕ) (things : List F) (g : P → ℕ)
    → All (λ p. 0 < g p → IsPartOf number part start end things (flow p) p (g p)) ps
    → sum_by g ps ≤ sum_by (size_within start end) (flat_map (λ f. part_of flow (part f) ps (number f)) things)
gather flow number part ps start end [] g each =
    omega (arith, sum_by-none g ps (λ k e h. let p = get_or ps k e in nothing (g p) (λ some. let (f, found, less) = each k e h some in none-some f found)))
  where
    nothing : (m : ℕ) → (0 < m → ⊥) → m ≡ 0
    nothing m none = elim (cases_lt 0 m) [ inl some ↦ absurd (none some) | inr empty ↦ omega (arith, empty) ]
gather flow number part ps start end (f ∷ things) g each =
    let weigh = size_within start end in
    let is_here = λ (p : _). nat_eq (flow p) (number f) in
    let here = λ (p : _). cond (is_here p) (g p) 0 in
    let later = λ (p : _). cond (is_here p) 0 (g p) in
    let split = sum_by-split g here later ps (λ k e h. let p = get_or ps k e in either (is_here p) (g p)) in
    let first = sum_by-mono here (λ p. cond (is_here p) (sum_by weigh (part f p)) 0) ps
    (λ k e h. let p = get_or ps k e in elim (cases_lt 0 (g p)) [
      | inl some ↦ (apart_or_here number part start end f things (flow p) p (g p) (is_here p) refl (each k e h some)).0
      | inr empty ↦ no_more (is_here p) (g p) (sum_by weigh (part f p)) empty
    ]) in
    let others = gather flow number part ps start end things later
    (λ k e h some. let p = get_or ps k e in (apart_or_here number part start end f things (flow p) p (g p) (is_here p) refl (each k e h (some_of (is_here p) (g p) some))).1 some) in
    let mine = sum_by-filter (λ p. sum_by weigh (part f p)) is_here ps in
    let flat = sum_by-flat_map weigh (part f) (filter is_here ps) in
    omega (arith, split, first, others, mine, flat, sum_by-append weigh (part_of flow (part f) ps (number f)) (flat_map (λ x. part_of flow (part x) ps (number x)) things))
  where
    either : (t : Bool) (m : ℕ) → m ≤ cond t m 0 + cond t 0 m
    either true m = omega arith
    either false m = omega arith

    no_more : (t : Bool) (m w : ℕ) → m ≤ 0 → cond t m 0 ≤ cond t w 0
    no_more true m w empty = omega (arith, empty)
    no_more false m w empty = omega arith

    some_of : (t : Bool) (m : ℕ) → 0 < cond t 0 m → 0 < m
    some_of true m some = absurd (omega (arith, some))
    some_of false m some = some
