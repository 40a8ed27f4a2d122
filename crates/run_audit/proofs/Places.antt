-- What is known of the contracts of an acceptable table and of the meters that they name.
use Rattle.std.proofs.Common.{◌≡◌, ℕ, ◌+◌, ◌<◌, zero, suc, Bool, true, false, cond, List, [], ◌∷◌, map, length, refl, sym, ◌∙◌, ap, arith, Some, None, nat_eq, nat_lt, not, ◌||◌, is_none, is_some, slice_get, if◌then◌else◌, bytes_eq}
use Rattle.std.specs.List.{All, flat_map, list_any, position_or_len}
use Rattle.std.specs.Map.{keys_of, lookup}
use Rattle.std.proofs.lemmas.Bool.{false≢true}
use Rattle.std.proofs.lemmas.Bool.Decides.{nat_tests}
use Rattle.std.proofs.lemmas.List.{length-map}
use Rattle.std.proofs.lemmas.Option.{none-some, same_Some, slice_get_within}
use Rattle.std.proofs.lemmas.Slice.Eq.{bytes_eq-Decides}
use Rattle.moment_core.specs.declared.colour.Colour.{Colour}
use Rattle.moment_core.specs.declared.column.Column.{Column}
use Rattle.moment_core.specs.Conformance.{Keeps}
use Rattle.envelope_core.specs.Curve.{KeepsCurve}
use Rattle.envelope_core.proofs.Windows.{Keeps-looser}
use Rattle.ds_domain_base.specs.Domains.{Domain, is_port, meter_of}
use Rattle.ds_domain_base.specs.Faults.{fault_at}
use Rattle.ds_domain_base.specs.Fitting.{lacks_link, names_unknown, repeats}
use Rattle.ds_domain_base.specs.declared.fault.Field.TheVariants as fields
use Rattle.ds_domain_base.specs.declared.fault.Kind.TheVariants as kinds
use Rattle.ds_domain_base.specs.declared.fault.Section.TheVariants as sections
use Rattle.ds_domain_base.specs.declared.contract.Contract.{Contract}
use Rattle.ds_domain_base.specs.declared.fault.DomainFault.{DomainFault}
use Rattle.ds_domain_base.specs.declared.parts.Meter.{Meter}
use Rattle.ds_certificate.specs.Bounds.{HasShape, MeetsIn, fits}
use Rattle.ds_certificate.specs.Columns.{Bound, bytes_in, envelope_in}
use Rattle.ds_certificate.specs.Sources.{jitters_of, source_of}
use Rattle.ds_checker.specs.Loads.{bound_into, load, share_of}
use Rattle.meter_fabric_base.specs.Sites.{site_of}
use Rattle.run_audit.specs.Runs.{Passage}
use Rattle.run_audit.specs.Sendings.{sending_of}
use Rattle.run_audit.proofs.Loads.{KeepsLoad-share}
use Rattle.run_audit.proofs.Passages.{item_of, moment_of, receipts_of, weight_of}
use Rattle.run_audit.proofs.Ways.{Goes, IsApart, along, crossing, neither}

-- ---- contracts that fit

tests_fail : (a b c e g : Bool) (u v w x y : DomainFault)
    → is_none (if a then Some u else if b then Some v else if c then Some w else if e then Some x else if g then Some y else None) ≡ true
    → (c ≡ false) × (e ≡ false)
tests_fail true b c e g u v w x y none = absurd cc
tests_fail false true c e g u v w x y none = absurd cc
tests_fail false false true e g u v w x y none = absurd cc
tests_fail false false false true g u v w x y none = absurd cc
tests_fail false false false false g u v w x y none = (refl, refl)

pub fits_names : (d : Domain) (c : Contract) → fits d c ≡ true → (names_unknown d c.path ≡ false) × (repeats c.path ≡ false)
fits_names d c good =
    tests_fail (not (is_port d c.port)) (nat_eq (length c.path) 0 || nat_lt 16 (length c.path)) (names_unknown d c.path) (repeats c.path) (lacks_link d c.port c.path)
    (fault_at kinds.UnknownName sections.Contract 0 fields.Port)
    (fault_at kinds.PathLength sections.Contract 0 fields.Path)
    (fault_at kinds.UnknownName sections.Contract 0 fields.Path)
    (fault_at kinds.PathRepeats sections.Contract 0 fields.Path)
    (fault_at kinds.NoLink sections.Contract 0 fields.Path)
    good

-- ---- the meters of a path

abbrev pub IsMeter : Domain → List ℕ → Type 0
IsMeter d to = is_some (meter_of d to) ≡ true

known_names : (d : Domain) (path : List (List ℕ)) → list_any (λ name. is_none (meter_of d name)) path ≡ false → All (IsMeter d) path
known_names d [] known k e h = absurd (omega (arith, h))
known_names d (to ∷ path) known zero e h = is_there (is_some (meter_of d to)) (neither (not (is_some (meter_of d to))) (list_any (λ name. is_none (meter_of d name)) path) known).0
  where
    is_there : (b : Bool) → not b ≡ false → b ≡ true
    is_there true n = refl
    is_there false n = absurd (false≢true (sym n))
known_names d (to ∷ path) known (suc k) e h =
    known_names d path (neither (not (is_some (meter_of d to))) (list_any (λ name. is_none (meter_of d name)) path) known).1 k e (omega (arith, h))

pub meters_known : (d : Domain) (path : List (List ℕ)) → names_unknown d path ≡ false → All (IsMeter d) path
unfolding names_unknown
meters_known d path known = known_names d path known

-- the entry that stands where a search stops
abbrev pub IsFoundAt : {X : Type 0} → (List ℕ → Bool) → List (List ℕ × X) → ℕ → Type 0
IsFoundAt {X} test entries place = (entry : List ℕ × X) × (slice_get entries place ≡ Some entry) × (test entry.0 ≡ true)

found_first : {X : Type 0} (test : List ℕ → Bool) (entries : List (List ℕ × X)) → is_some (lookup test entries) ≡ true
    → IsFoundAt test entries (position_or_len test (keys_of entries))
found_first test [] there = absurd (false≢true there)
found_first {X} test (entry ∷ entries) there = by_test (test entry.0) refl there (found_first test entries)
  where
    by_test : (b : Bool) → test entry.0 ≡ b → is_some (cond b (Some entry.1) (lookup test entries)) ≡ true
        → (is_some (lookup test entries) ≡ true → IsFoundAt test entries (position_or_len test (keys_of entries)))
        → IsFoundAt test (entry ∷ entries) (cond (not b) (1 + position_or_len test (keys_of entries)) 0)
    by_test true passes here onward = (entry, refl, passes)
    by_test false fails here onward =
        let (found, at_place, passes) = onward here in
        let next : 1 + position_or_len test (keys_of entries) ≡ suc (position_or_len test (keys_of entries)) = omega arith in
        (found, rw next at_place, passes)

-- a name of a path has the site of a meter of its name
pub found_at : (d : Domain) (to : List ℕ) → IsMeter d to → IsFoundAt (bytes_eq to) d.meters (site_of d to)
found_at d to there =
    let place = position_or_len (bytes_eq to) (keys_of d.meters) in
    let (entry, at_place, passes) = found_first (bytes_eq to) d.meters there in
    let short : place < length (keys_of d.meters) = omega (arith, slice_get_within d.meters place entry at_place, length-map d.meters (λ (e : List ℕ × Meter). e.0)) in
    let test : nat_lt place (length (keys_of d.meters)) ≡ true = grind (arith, nat_tests) in
    let is_place : site_of d to ≡ place = rw test refl in
    (entry, rw is_place at_place, passes)

-- the meter of a name is the one at the site of that name
found_value : {X : Type 0} (test : List ℕ → Bool) (entries : List (List ℕ × X)) (entry : List ℕ × X)
    → slice_get entries (position_or_len test (keys_of entries)) ≡ Some entry → lookup test entries ≡ Some entry.1
found_value test [] entry at_place = absurd (none-some entry at_place)
found_value {X} test (e ∷ entries) entry at_place = by_test (test e.0) at_place (found_value test entries entry)
  where
    by_test : (b : Bool) → slice_get (e ∷ entries) (cond (not b) (1 + position_or_len test (keys_of entries)) 0) ≡ Some entry
        → (slice_get entries (position_or_len test (keys_of entries)) ≡ Some entry → lookup test entries ≡ Some entry.1)
        → cond b (Some e.1) (lookup test entries) ≡ Some entry.1
    by_test true here onward = ap (λ x. Some x.1) (same_Some e entry here)
    by_test false there onward =
        let next : 1 + position_or_len test (keys_of entries) ≡ suc (position_or_len test (keys_of entries)) = omega arith in
        onward (rw next at there)

known_at : {X : Type 0} (test : List ℕ → Bool) (entries : List (List ℕ × X)) (place : ℕ) (entry : List ℕ × X) → slice_get entries place ≡ Some entry → test entry.0 ≡ true
    → is_some (lookup test entries) ≡ true
known_at test [] place entry at_place passes = absurd (none-some entry at_place)
known_at {X} test (e ∷ entries) zero entry at_place passes =
    let here : test e.0 ≡ true = ap (λ x. test x.0) (same_Some e entry at_place) ∙ passes in
    rw here refl
known_at {X} test (e ∷ entries) (suc place) entry at_place passes = by_test (test e.0) (known_at test entries place entry at_place passes)
  where
    by_test : (b : Bool) → is_some (lookup test entries) ≡ true → is_some (cond b (Some e.1) (lookup test entries)) ≡ true
    by_test true onward = refl
    by_test false onward = onward

pub named_meter : (d : Domain) (name : List ℕ) (m : Meter) (site : ℕ) → slice_get d.meters site ≡ Some (name, m) → site_of d name ≡ site → meter_of d name ≡ Some m
named_meter d name m site there same =
    let test = bytes_eq name in
    let place = position_or_len test (keys_of d.meters) in
    let (entry, at_place, passes) = found_first test d.meters (known_at test d.meters site (name, m) there ((bytes_eq-Decides name name).1 refl)) in
    let short : place < length (keys_of d.meters) = omega (arith, slice_get_within d.meters place entry at_place, length-map d.meters (λ (e : List ℕ × Meter). e.0)) in
    let inside : nat_lt place (length (keys_of d.meters)) ≡ true = grind (arith, nat_tests) in
    let is_place : site_of d name ≡ place = rw inside refl in
    let own : entry ≡ (name, m) = same_Some entry (name, m) (sym at_place ∙ ap (λ n. slice_get d.meters n) (sym is_place ∙ same) ∙ there) in
    found_value test d.meters entry at_place ∙ ap (λ e. Some e.1) own

pub apart_names : (d : Domain) (name : List ℕ) (m : Meter) (site : ℕ) (path : List (List ℕ)) → slice_get d.meters site ≡ Some (name, m)
    → All (IsMeter d) path → IsApart d name site path
unfolding IsApart
apart_names d name m site [] here known = tt
apart_names d name m site (to ∷ path) here known = (
  λ same.
      let (entry, at_place, passes) = found_at d to (known 0 to (omega arith)) in
      let entries : entry ≡ (name, m) = same_Some entry (name, m) (sym at_place ∙ ap (λ n. slice_get d.meters n) same ∙ here) in
      let names : to ≡ name = (bytes_eq-Decides to entry.0).0 passes ∙ ap (λ e. e.0) entries in
      (bytes_eq-Decides name to).1 (sym names),
  apart_names d name m site path here (λ k e h. known (suc k) e (omega (arith, h))),
)

-- ---- what a contract brings to a meter

pub contract_keeps : (d : Domain) (name : List ℕ) (site skew : ℕ) (column : Column) (picked : Colour → Bool) (c : Contract) (bounds : List Bound) (ps : List Passage)
    → HasShape d c bounds
    → MeetsIn column (source_of d c) (jitters_of d c) bounds
    → IsApart d name site c.path
    → All (λ p. Goes d site skew c.port c.path (moment_of (sending_of c p)) (receipts_of (sending_of c p))) ps
    → Keeps (envelope_in column (source_of d c)).rate (envelope_in column (source_of d c)).burst (map (item_of picked c) ps)
    → KeepsCurve (load column skew (share_of d name c bounds)) (flat_map (λ p. crossing site (weight_of picked p.packet.size (sending_of c p)) (receipts_of (sending_of c p))) ps)
contract_keeps d name site skew column picked c [] ps shape meets apart goes kept = absurd (omega (arith, shape.1))
contract_keeps d name site skew column picked c (first ∷ bounds) ps shape meets apart goes kept =
    let rate = (envelope_in column (source_of d c)).rate in
    let burst = (envelope_in column (source_of d c)).burst in
    let weight = λ (p : Passage). weight_of picked p.packet.size (sending_of c p) in
    let rest = λ (p : Passage). receipts_of (sending_of c p) in
    KeepsLoad-share d skew column c (bound_into name c.path bounds) (flat_map (λ p. crossing site (weight p) (rest p)) ps)
    (along d name site skew column (source_of d c) ps c.path c.port first bounds (λ p. moment_of (sending_of c p)) weight rest
    apart (fits_names d c shape.0).1 (omega (arith, shape.1)) goes meets.1
    (Keeps-looser rate burst rate (bytes_in column first) (map (item_of picked c) ps) (omega arith) meets.0 kept))
