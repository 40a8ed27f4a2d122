-- What packets keep along a path, from one meter to the next.
use Rattle.std.proofs.Common.{◌≡◌, ℕ, ◌+◌, ◌<◌, ◌≤◌, zero, suc, Bool, true, false, cond, List, [], ◌∷◌, map, length, refl, sym, ◌∙◌, ap, subst, arith, get_or, Some, None, bytes_eq}
use Rattle.std.specs.Prelude.{nat_eq, ◌||◌, ⊤, MatchOption, Option, if◌then◌else◌}
use Rattle.std.specs.List.{sum_by, filter, flat_map, All, list_any}
use Rattle.std.proofs.lemmas.Bool.{false≢true}
use Rattle.std.proofs.lemmas.Bool.Decides.{nat_tests}
use Rattle.std.proofs.lemmas.List.Elements.{All-append, All-cons, All-nil}
use Rattle.std.proofs.lemmas.List.Sums.{sum_by-cons}
use Rattle.std.proofs.lemmas.Slice.Eq.{bytes_eq-Decides}
use Rattle.moment_core.specs.declared.column.Column.{Column}
use Rattle.moment_core.specs.Conformance.{size_within, Keeps}
use Rattle.moment_core.specs.Volume.{bytes_over}
use Rattle.envelope_core.proofs.Windows.{IsDelayed, Keeps-delayed, Keeps-looser, sum_by-mono, sum_by-none, sum_by-map, sum_by-flat_map}
use Rattle.ds_domain_base.specs.Domains.{Domain, floor_of, jitter_of, link_of}
use Rattle.ds_domain_base.specs.Fitting.{repeats}
use Rattle.ds_certificate.specs.Bounds.{Grows}
use Rattle.ds_certificate.specs.Columns.{Bound, bytes_in, envelope_in}
use Rattle.ds_certificate.specs.Sources.{jitters_along}
use Rattle.ds_certificate.specs.declared.source.Source.{Source}
use Rattle.ds_checker.specs.Holds.{link_delay}
use Rattle.ds_checker.specs.Loads.{bound_into}
use Rattle.ds_checker.proofs.WayLaws.{way_to}
use Rattle.meter_fabric_base.specs.Sites.{site_of}
use Rattle.meter_fabric_base.specs.declared.trail.Receipt.{Receipt}
use Rattle.run_audit.specs.Premises.{IsOver}

-- a row of a site is used when it arrives, or by the skew later
abbrev pub IsUsed : ℕ → ℕ → Receipt → Type 0
IsUsed site skew r = r.site ≡ site → (r.row.arrival ≤ r.row.used) × (r.row.used ≤ r.row.arrival + skew)

-- receipts of the first meters of a path, over each link in its time
unfoldable pub Goes : Domain → ℕ → ℕ → List ℕ → List (List ℕ) → ℕ → List Receipt → Type 0
Goes d site skew from path moment [] = ⊤
Goes d site skew from [] moment (r ∷ rs) = ⊥
Goes d site skew from (to ∷ path) moment (r ∷ rs) =
    (r.site ≡ site_of d to) × IsOver (link_of d from to) moment r.row.arrival × IsUsed site skew r × Goes d site skew to path r.row.arrival rs

-- of the names of a path, no other than this has the site
unfoldable pub IsApart : Domain → List ℕ → ℕ → List (List ℕ) → Type 0
IsApart d name site [] = ⊤
IsApart d name site (to ∷ path) = (site_of d to ≡ site → bytes_eq name to ≡ true) × IsApart d name site path

-- the sized moments used at a site
abbrev pub crossing : ℕ → ℕ → List Receipt → List (ℕ × ℕ)
crossing site weight rs = map (λ r. (r.row.used, weight)) (filter (λ r. nat_eq r.site site) rs)

abbrev next_moment : List Receipt → ℕ
next_moment [] = 0
next_moment (r ∷ rs) = r.row.arrival

abbrev next_weight : ℕ → List Receipt → ℕ
next_weight weight [] = 0
next_weight weight (r ∷ rs) = weight

abbrev next_receipts : List Receipt → List Receipt
next_receipts [] = []
next_receipts (r ∷ rs) = rs

abbrev next_used : ℕ → ℕ → List Receipt → ℕ × ℕ
next_used site weight [] = (0, 0)
next_used site weight (r ∷ rs) = (r.row.used, cond (nat_eq r.site site) weight 0)

Goes-next : (d : Domain) (site skew : ℕ) (from to : List ℕ) (path : List (List ℕ)) (moment : ℕ) (rs : List Receipt)
    → Goes d site skew from (to ∷ path) moment rs → Goes d site skew to path (next_moment rs) (next_receipts rs)
unfolding Goes
Goes-next d site skew from to path moment [] goes = tt
Goes-next d site skew from to path moment (r ∷ rs) goes = goes.3

next_delayed : (d : Domain) (site skew : ℕ) (from to : List ℕ) (path : List (List ℕ)) (moment weight : ℕ) (rs : List Receipt) (floor jitter : ℕ)
    → ((arrival : ℕ) → IsOver (link_of d from to) moment arrival → (moment + floor ≤ arrival) × (arrival ≤ moment + floor + jitter))
    → Goes d site skew from (to ∷ path) moment rs → IsDelayed floor jitter (moment, weight) (next_moment rs, next_weight weight rs)
unfolding Goes
next_delayed d site skew from to path moment weight [] floor jitter over goes some = absurd (omega (arith, some))
next_delayed d site skew from to path moment weight (r ∷ rs) floor jitter over goes some =
    let there = over r.row.arrival goes.1 in (omega arith, there.0, there.1)

pub nat_eq-true : (m n : ℕ) → nat_eq m n ≡ true → m ≡ n
nat_eq-true m n same = grind (arith, nat_tests)

used_delayed : (d : Domain) (site skew : ℕ) (from to : List ℕ) (path : List (List ℕ)) (moment weight : ℕ) (rs : List Receipt)
    → Goes d site skew from (to ∷ path) moment rs → IsDelayed 0 skew (next_moment rs, next_weight weight rs) (next_used site weight rs)
unfolding Goes
used_delayed d site skew from to path moment weight [] goes some = absurd (omega (arith, some))
used_delayed d site skew from to path moment weight (r ∷ rs) goes some = by_site (nat_eq r.site site) refl some
  where
    by_site : (b : Bool) → nat_eq r.site site ≡ b → 0 < cond b weight 0
        → (cond b weight 0 ≤ weight) × (r.row.arrival + 0 ≤ r.row.used) × (r.row.used ≤ r.row.arrival + 0 + skew)
    by_site true here light = let u = goes.2 (nat_eq-true r.site site here) in (omega arith, omega (arith, u.0), omega (arith, u.1))
    by_site false here light = absurd (omega (arith, light))

-- ---- a site that a path does not come to

pub neither : (a b : Bool) → (a || b) ≡ false → (a ≡ false) × (b ≡ false)
neither true b h = absurd (false≢true (sym h))
neither false b h = (refl, h)

nat_eq-refl : (m : ℕ) → nat_eq m m ≡ true
nat_eq-refl m = grind (arith, nat_tests)

crossing-other : (site weight : ℕ) (r : Receipt) (rs : List Receipt) → nat_eq r.site site ≡ false → crossing site weight (r ∷ rs) ≡ crossing site weight rs
crossing-other site weight r rs other = rw other refl

crossing-here : (site weight : ℕ) (r : Receipt) (rs : List Receipt) → nat_eq r.site site ≡ true
    → crossing site weight (r ∷ rs) ≡ (r.row.used, weight) ∷ crossing site weight rs
crossing-here site weight r rs here = rw here refl

-- a meter of another name has another site
other_site : (d : Domain) (name to : List ℕ) (site : ℕ) → (site_of d to ≡ site → bytes_eq name to ≡ true) → bytes_eq name to ≡ false
    → (s : ℕ) → s ≡ site_of d to → nat_eq s site ≡ false
other_site d name to site apart other s is_site = by_test (nat_eq s site) refl
  where
    by_test : (b : Bool) → nat_eq s site ≡ b → b ≡ false
    by_test true here = absurd (false≢true (sym other ∙ apart (sym is_site ∙ nat_eq-true s site here)))
    by_test false here = refl

-- no receipt is of a site that a path does not come to
abbrev pub IsElsewhere : ℕ → List Receipt → Type 0
IsElsewhere site rs = All (λ r. r.site ≡ site → ⊥) rs

not_there : (site : ℕ) (r : Receipt) → nat_eq r.site site ≡ false → r.site ≡ site → ⊥
not_there site r other same = absurd (false≢true (sym other ∙ ap (λ n. nat_eq n site) same ∙ nat_eq-refl site))

absent : (d : Domain) (name : List ℕ) (site skew : ℕ) (from : List ℕ) (path : List (List ℕ)) (moment : ℕ) (rs : List Receipt)
    → IsApart d name site path → list_any (bytes_eq name) path ≡ false → Goes d site skew from path moment rs → IsElsewhere site rs
unfolding Goes IsApart
absent d name site skew from path moment [] apart none goes k e h = absurd (omega (arith, h))
absent d name site skew from [] moment (r ∷ rs) apart none goes k e h = absurd goes
absent d name site skew from (to ∷ path) moment (r ∷ rs) apart none goes zero e h =
    not_there site r (other_site d name to site apart.0 (neither (bytes_eq name to) (list_any (bytes_eq name) path) none).0 r.site goes.0)
absent d name site skew from (to ∷ path) moment (r ∷ rs) apart none goes (suc k) e h =
    absent d name site skew to path r.row.arrival rs apart.1 (neither (bytes_eq name to) (list_any (bytes_eq name) path) none).1 goes.3 k e (omega (arith, h))

-- and then no moment is used there
pub crossing-elsewhere : (site weight : ℕ) (rs : List Receipt) → IsElsewhere site rs → crossing site weight rs ≡ []
crossing-elsewhere site weight [] none = refl
crossing-elsewhere site weight (r ∷ rs) none = by_site (nat_eq r.site site) refl (crossing-elsewhere site weight rs (λ k e h. none (suc k) e (omega (arith, h))))
  where
    by_site : (b : Bool) → nat_eq r.site site ≡ b → crossing site weight rs ≡ [] → crossing site weight (r ∷ rs) ≡ []
    by_site true here onward = absurd (none 0 r (omega arith) (nat_eq-true r.site site here))
    by_site false other onward = crossing-other site weight r rs other ∙ onward

crossing-absent : (d : Domain) (name : List ℕ) (site skew weight : ℕ) (from : List ℕ) (path : List (List ℕ)) (moment : ℕ) (rs : List Receipt)
    → IsApart d name site path → list_any (bytes_eq name) path ≡ false → Goes d site skew from path moment rs → crossing site weight rs ≡ []
crossing-absent d name site skew weight from path moment rs apart none goes = crossing-elsewhere site weight rs (absent d name site skew from path moment rs apart none goes)

-- nor of a site that is not the one of its name
pub elsewhere : (d : Domain) (name : List ℕ) (site skew : ℕ) (from : List ℕ) (path : List (List ℕ)) (moment : ℕ) (rs : List Receipt)
    → IsApart d name site path → ¬ (site_of d name ≡ site) → Goes d site skew from path moment rs → IsElsewhere site rs
unfolding Goes IsApart
elsewhere d name site skew from path moment [] apart differs goes k e h = absurd (omega (arith, h))
elsewhere d name site skew from [] moment (r ∷ rs) apart differs goes k e h = absurd goes
elsewhere d name site skew from (to ∷ path) moment (r ∷ rs) apart differs goes zero e h =
    λ here.
    let there : site_of d to ≡ site = sym goes.0 ∙ here in
    absurd (differs (ap (site_of d) ((bytes_eq-Decides name to).0 (apart.0 there)) ∙ there))
elsewhere d name site skew from (to ∷ path) moment (r ∷ rs) apart differs goes (suc k) e h =
    elsewhere d name site skew to path r.row.arrival rs apart.1 differs goes.3 k e (omega (arith, h))

-- At the meter of a name a packet is used not before its moment, and by the longest way to it and the meter's skew later.
abbrev pub IsUsedBy : ℕ → ℕ → ℕ → List Receipt → Type 0
IsUsedBy site first last rs = All (λ r. r.site ≡ site → (first ≤ r.row.used) × (r.row.used ≤ last)) rs

pub used_by : (d : Domain) (name : List ℕ) (site skew : ℕ) (from : List ℕ) (path : List (List ℕ)) (moment : ℕ) (rs : List Receipt)
    → IsApart d name site path → repeats path ≡ false → Goes d site skew from path moment rs
    → IsUsedBy site moment (moment + way_to d name from path + skew) rs
unfolding Goes IsApart repeats way_to
used_by d name site skew from path moment [] apart once goes k e h = absurd (omega (arith, h))
used_by d name site skew from [] moment (r ∷ rs) apart once goes k e h = absurd goes
used_by d name site skew from (to ∷ path) moment (r ∷ rs) apart once goes k e h =
    by_name (bytes_eq name to) refl (used_by d name site skew to path r.row.arrival rs apart.1 single.1 goes.3) k e h
  where
    single : (list_any (bytes_eq to) path ≡ false) × (repeats path ≡ false)
    single = neither (list_any (bytes_eq to) path) (repeats path) once

    arrived : (moment ≤ r.row.arrival) × (r.row.arrival ≤ moment + link_delay d from to)
    arrived = (omega (arith, goes.1.0), omega (arith, goes.1.1))

    by_name : (t : Bool) → bytes_eq name to ≡ t → IsUsedBy site r.row.arrival (r.row.arrival + way_to d name to path + skew) rs
        → IsUsedBy site moment (moment + (link_delay d from to + (if t then 0 else way_to d name to path)) + skew) (r ∷ rs)
    by_name true same onward zero e h = λ here. let used = goes.2 here in (omega (arith, arrived.0, used.0), omega (arith, arrived.1, used.1))
    by_name true same onward (suc k) e h =
        let none : list_any (bytes_eq name) path ≡ false = rw ((bytes_eq-Decides name to).0 same) single.0 in
        λ here. absurd (absent d name site skew to path r.row.arrival rs apart.1 none goes.3 k e (omega (arith, h)) here)
    by_name false differs onward zero e h = λ here. absurd (not_there site r (other_site d name to site apart.0 differs r.site goes.0) here)
    by_name false differs onward (suc k) e h =
        λ here. let used = onward k e (omega (arith, h)) here in (omega (arith, arrived.0, used.0), omega (arith, arrived.1, used.1))

-- what holds of the moments used at a site
pub All-crossing : (P : ℕ × ℕ → Type 0) (site weight : ℕ) (rs : List Receipt) → All (λ r. r.site ≡ site → P (r.row.used, weight)) rs → All P (crossing site weight rs)
All-crossing P site weight [] each = All-nil P
All-crossing P site weight (r ∷ rs) each = by_site (nat_eq r.site site) refl (All-crossing P site weight rs (λ k e h. each (suc k) e (omega (arith, h))))
  where
    by_site : (b : Bool) → nat_eq r.site site ≡ b → All P (crossing site weight rs) → All P (crossing site weight (r ∷ rs))
    by_site true here onward =
        subst (All P) (sym (crossing-here site weight r rs here))
        (All-cons P (r.row.used, weight) (crossing site weight rs) (each 0 r (omega arith) (nat_eq-true r.site site here)) onward)
    by_site false other onward = subst (All P) (sym (crossing-other site weight r rs other)) onward

pub All-flat_map : {P X : Type 0} (Q : X → Type 0) (some : P → List X) (ps : List P) → All (λ p. All Q (some p)) ps → All Q (flat_map some ps)
All-flat_map Q some [] each = All-nil Q
All-flat_map Q some (p ∷ ps) each =
    All-append Q (some p) (flat_map some ps) (each 0 p (omega arith)) (All-flat_map Q some ps (λ k e h. each (suc k) e (omega (arith, h))))

-- ---- a step of a path

weight_here : (d : Domain) (name : List ℕ) (site skew : ℕ) (from to : List ℕ) (path : List (List ℕ)) (moment weight : ℕ) (rs : List Receipt) (start end : ℕ)
    → IsApart d name site path → list_any (bytes_eq name) path ≡ false → Goes d site skew from (to ∷ path) moment rs
    → sum_by (size_within start end) (crossing site weight rs) ≤ size_within start end (next_used site weight rs)
unfolding Goes
weight_here d name site skew from to path moment weight [] start end apart absent goes = omega arith
weight_here d name site skew from to path moment weight (r ∷ rs) start end apart absent goes = by_site (nat_eq r.site site) refl
  where
    rest : crossing site weight rs ≡ []
    rest = crossing-absent d name site skew weight to path r.row.arrival rs apart absent goes.3

    by_site : (b : Bool) → nat_eq r.site site ≡ b → sum_by (size_within start end) (crossing site weight (r ∷ rs)) ≤ size_within start end (r.row.used, cond b weight 0)
    by_site true here =
        rw (crossing-here site weight r rs here, rest)
        (omega (arith, sum_by-cons (size_within start end) (r.row.used, weight) []))
    by_site false here = rw (crossing-other site weight r rs here, rest) (omega arith)

weight_on : (d : Domain) (site skew : ℕ) (from to : List ℕ) (path : List (List ℕ)) (moment weight : ℕ) (rs : List Receipt) (start end : ℕ)
    → ((s : ℕ) → s ≡ site_of d to → nat_eq s site ≡ false) → Goes d site skew from (to ∷ path) moment rs
    → sum_by (size_within start end) (crossing site weight rs) ≤ sum_by (size_within start end) (crossing site (next_weight weight rs) (next_receipts rs))
unfolding Goes
weight_on d site skew from to path moment weight [] start end other goes = omega arith
weight_on d site skew from to path moment weight (r ∷ rs) start end other goes = rw (crossing-other site weight r rs (other r.site goes.0)) (omega arith)

-- ---- lists of what each packet brings

-- what weighs no more than items keeps what they keep
pub Keeps-within : {P : Type 0} (rate burst : ℕ) (some : P → List (ℕ × ℕ)) (item : P → ℕ × ℕ) (ps : List P)
    → ((start end : ℕ) → All (λ p. sum_by (size_within start end) (some p) ≤ size_within start end (item p)) ps)
    → Keeps rate burst (map item ps)
    → Keeps rate burst (flat_map some ps)
Keeps-within rate burst some item ps lighter kept start end ordered =
    let weigh = size_within start end in
    let less = sum_by-mono (λ p. sum_by weigh (some p)) (λ p. weigh (item p)) ps (lighter start end) in
    omega (arith, less, kept start end ordered, sum_by-map weigh item ps, sum_by-flat_map weigh some ps)

pub Keeps-fewer_each : {P : Type 0} (rate burst : ℕ) (some more : P → List (ℕ × ℕ)) (ps : List P)
    → ((start end : ℕ) → All (λ p. sum_by (size_within start end) (some p) ≤ sum_by (size_within start end) (more p)) ps)
    → Keeps rate burst (flat_map more ps)
    → Keeps rate burst (flat_map some ps)
Keeps-fewer_each rate burst some more ps lighter kept start end ordered =
    let weigh = size_within start end in
    let less = sum_by-mono (λ p. sum_by weigh (some p)) (λ p. sum_by weigh (more p)) ps (lighter start end) in
    omega (arith, less, kept start end ordered, sum_by-flat_map weigh more ps, sum_by-flat_map weigh some ps)

-- what weighs nothing keeps everything
pub Keeps-weightless : {P : Type 0} (rate burst : ℕ) (some : P → List (ℕ × ℕ)) (ps : List P)
    → ((start end : ℕ) → All (λ p. sum_by (size_within start end) (some p) ≡ 0) ps)
    → Keeps rate burst (flat_map some ps)
Keeps-weightless rate burst some ps light start end ordered =
    let weigh = size_within start end in
    omega (arith, sum_by-none (λ p. sum_by weigh (some p)) ps (light start end), sum_by-flat_map weigh some ps)

-- ---- along a path

-- what is kept at a meter, if the path leads to it
abbrev pub KeepsBound : ℕ → ℕ → Column → Option Bound → List (ℕ × ℕ) → Type 0
KeepsBound rate skew column found items = MatchOption found (Keeps 0 0 items) (λ bound. Keeps rate (bytes_in column bound + bytes_over rate skew) items)

KeepsBound-fewer : {P : Type 0} (rate skew : ℕ) (column : Column) (found : Option Bound) (some more : P → List (ℕ × ℕ)) (ps : List P)
    → ((start end : ℕ) → All (λ p. sum_by (size_within start end) (some p) ≤ sum_by (size_within start end) (more p)) ps)
    → KeepsBound rate skew column found (flat_map more ps)
    → KeepsBound rate skew column found (flat_map some ps)
KeepsBound-fewer rate skew column None some more ps lighter kept = Keeps-fewer_each 0 0 some more ps lighter kept
KeepsBound-fewer rate skew column (Some bound) some more ps lighter kept = Keeps-fewer_each rate (bytes_in column bound + bytes_over rate skew) some more ps lighter kept

-- Where the sized moments of packets at a name keep a bound, they keep that of a meter of their path, by the moments used.
pub along : {P : Type 0} (d : Domain) (name : List ℕ) (site skew : ℕ) (column : Column) (source : Source) (ps : List P)
    (path : List (List ℕ)) (from : List ℕ) (before : Bound) (bounds : List Bound) (moment weight : P → ℕ) (rest : P → List Receipt)
    → IsApart d name site path
    → repeats path ≡ false
    → length bounds ≡ length path
    → All (λ p. Goes d site skew from path (moment p) (rest p)) ps
    → Grows column source (jitters_along d from path) before bounds
    → Keeps (envelope_in column source).rate (bytes_in column before) (map (λ p. (moment p, weight p)) ps)
    → KeepsBound (envelope_in column source).rate skew column (bound_into name path bounds) (flat_map (λ p. crossing site (weight p) (rest p)) ps)
unfolding IsApart repeats Grows jitters_along bound_into
along d name site skew column source ps [] from before [] moment weight rest apart once sized goes grows kept =
    Keeps-weightless 0 0 (λ p. crossing site (weight p) (rest p)) ps
    (λ start end k e h. let p = get_or ps k e in ap (sum_by (size_within start end)) (crossing-absent d name site skew (weight p) from [] (moment p) (rest p) apart refl (goes k e h)))
along d name site skew column source ps [] from before (b ∷ bounds) moment weight rest apart once sized goes grows kept = absurd (omega (arith, sized))
along d name site skew column source ps (to ∷ path) from before [] moment weight rest apart once sized goes grows kept = absurd (omega (arith, sized))
along d name site skew column source ps (to ∷ path) from before (b ∷ bounds) moment weight rest apart once sized goes grows kept =
    by_name (bytes_eq name to) refl
    (λ arrived.
    along d name site skew column source ps path to b bounds (λ p. next_moment (rest p)) (λ p. next_weight (weight p) (rest p)) (λ p. next_receipts (rest p))
    apart.1 (neither (list_any (bytes_eq to) path) (repeats path) once).1 (omega (arith, sized))
    (λ k e h. let p = get_or ps k e in Goes-next d site skew from to path (moment p) (rest p) (goes k e h)) grows.1 arrived)
  where
    rate : ℕ
    rate = (envelope_in column source).rate

    single : (list_any (bytes_eq to) path ≡ false) × (repeats path ≡ false)
    single = neither (list_any (bytes_eq to) path) (repeats path) once

    arrived : Keeps (envelope_in column source).rate (bytes_in column b) (map (λ p. (next_moment (rest p), next_weight (weight p) (rest p))) ps)
    arrived =
        let link = link_of d from to in
        Keeps-looser rate (bytes_in column before + bytes_over rate (jitter_of link)) rate (bytes_in column b)
        (map (λ p. (next_moment (rest p), next_weight (weight p) (rest p))) ps) (omega arith) grows.0
        (Keeps-delayed (λ p. (moment p, weight p)) (λ p. (next_moment (rest p), next_weight (weight p) (rest p))) (floor_of link) (jitter_of link) rate (bytes_in column before) ps
        (λ k e h. let p = get_or ps k e in next_delayed d site skew from to path (moment p) (weight p) (rest p) (floor_of link) (jitter_of link) (λ a over. over) (goes k e h))
        kept)

    by_name : (t : Bool) → bytes_eq name to ≡ t
        → (Keeps (envelope_in column source).rate (bytes_in column b) (map (λ p. (next_moment (rest p), next_weight (weight p) (rest p))) ps)
        → KeepsBound (envelope_in column source).rate skew column (bound_into name path bounds) (flat_map (λ p. crossing site (next_weight (weight p) (rest p)) (next_receipts (rest p))) ps))
        → KeepsBound (envelope_in column source).rate skew column (if t then Some b else bound_into name path bounds) (flat_map (λ p. crossing site (weight p) (rest p)) ps)
    by_name true same onward =
        let absent : list_any (bytes_eq name) path ≡ false = rw ((bytes_eq-Decides name to).0 same) single.0 in
        Keeps-within rate (bytes_in column b + bytes_over rate skew) (λ p. crossing site (weight p) (rest p)) (λ p. next_used site (weight p) (rest p)) ps
        (λ start end k e h. let p = get_or ps k e in weight_here d name site skew from to path (moment p) (weight p) (rest p) start end apart.1 absent (goes k e h))
        (Keeps-delayed (λ p. (next_moment (rest p), next_weight (weight p) (rest p))) (λ p. next_used site (weight p) (rest p)) 0 skew rate (bytes_in column b) ps
        (λ k e h. let p = get_or ps k e in used_delayed d site skew from to path (moment p) (weight p) (rest p) (goes k e h))
        arrived)
    by_name false differs onward =
        KeepsBound-fewer rate skew column (bound_into name path bounds) (λ p. crossing site (weight p) (rest p))
        (λ p. crossing site (next_weight (weight p) (rest p)) (next_receipts (rest p))) ps
        (λ start end k e h. let p = get_or ps k e in
        weight_on d site skew from to path (moment p) (weight p) (rest p) start end (other_site d name to site apart.0 differs) (goes k e h))
        (onward arrived)
