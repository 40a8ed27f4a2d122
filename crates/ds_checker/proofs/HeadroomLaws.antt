-- What is taken at the meter of a name, and that it has as much.
use Rattle.std.proofs.Common.{arith, ◌≡◌, ℕ, suc, ◌+◌, Bool, true, false, cond, List, [], ◌∷◌, get_or, map, None, Some, option_map, refl, sym, ap, subst, ◌∙◌, All, bytes_eq}
use Rattle.std.specs.List.{position, position_or_len}
use Rattle.std.specs.Map.{keys_of, lookup}
use Rattle.std.proofs.lemmas.List.Elements.{All-head, All-tail}
use Rattle.std.proofs.lemmas.Slice.Eq.{bytes_eq-Decides}
use Rattle.ds_domain_base.specs.Domains.{Domain, meter_of}
use Rattle.ds_domain_base.specs.declared.contract.Contract.{Contract}
use Rattle.ds_domain_base.specs.declared.parts.Meter.{Meter}
use Rattle.ds_certificate.specs.Columns.{Bound}
use Rattle.ds_checker.specs.Acceptance.{Carries, IsAcceptable, Table}
use Rattle.ds_checker.specs.Headrooms.{AreCovered, headroom_at, headroom_by, headroom_of}
use Rattle.ds_checker.specs.Loads.{shares_at}
use Rattle.ds_checker.specs.Sums.{IsSound, counted_load, loads_of, sums_of}
use Rattle.ds_checker.specs.TableTests.{green_load}
use Rattle.ds_checker.specs.declared.headroom.Headroom.{Headroom}
use Rattle.ds_checker.specs.declared.load.Loads.{Loads}
use Rattle.ds_checker.proofs.LoadLaws.{counted_is, green_is}

place_is : (found : Bool) (j i : ℕ) → cond found (Some j) None ≡ Some i → j ≡ i
place_is true j i is = cc
place_is false j i is = absurd cc

-- what stands at the place of a name is of the meter of that name
named_by : (b : Bool) (f : List ℕ × Meter → Loads) (name : List ℕ) (entry : List ℕ × Meter) (meters : List (List ℕ × Meter)) (m : Meter) (l : Loads)
    → bytes_eq name entry.0 ≡ b → lookup (bytes_eq name) (entry ∷ meters) ≡ Some m
    → (lookup (bytes_eq name) meters ≡ Some m → get_or (map f meters) (position_or_len (bytes_eq name) (keys_of meters)) l ≡ f (name, m))
    → get_or (map f (entry ∷ meters)) (position_or_len (bytes_eq name) (keys_of (entry ∷ meters))) l ≡ f (name, m)
named_by true f name entry meters m l is found behind =
    let own : name ≡ entry.0 = (bytes_eq-Decides name entry.0).0 is in
    let head : Some entry.1 ≡ Some m = rw is at found in
    let same : entry.1 ≡ m = cc in
    rw is (ap (λ n. f (n, entry.1)) (sym own) ∙ ap (λ x. f (name, x)) same)
named_by false f name entry meters m l is found behind =
    let tail : lookup (bytes_eq name) meters ≡ Some m = rw is at found in
    let next : 1 + position_or_len (bytes_eq name) (keys_of meters) ≡ suc (position_or_len (bytes_eq name) (keys_of meters)) = omega arith in
    rw is (ap (λ i. get_or (f entry ∷ map f meters) i l) next ∙ behind tail)

named : (f : List ℕ × Meter → Loads) (name : List ℕ) (meters : List (List ℕ × Meter)) (m : Meter) (l : Loads) → lookup (bytes_eq name) meters ≡ Some m
    → get_or (map f meters) (position_or_len (bytes_eq name) (keys_of meters)) l ≡ f (name, m)
named f name [] m l found = absurd cc
named f name (entry ∷ meters) m l found = named_by (bytes_eq name entry.0) f name entry meters m l refl found (λ tail. named f name meters m l tail)

-- the sums at the place of a meter's name are those of its shares
pub sums-at : (t : Table) (name : List ℕ) (m : Meter) (i : ℕ) (l : Loads) → meter_of t.domain name ≡ Some m → position (bytes_eq name) (keys_of t.domain.meters) ≡ Some i
    → get_or (loads_of t) i l ≡ sums_of m.skew (shares_at t.domain name t.contracts t.certificate)
sums-at t name m i l found at =
    ap (λ place. get_or (loads_of t) place l) (sym (place_is _ (position_or_len (bytes_eq name) (keys_of t.domain.meters)) i at))
    ∙ named (λ entry. sums_of entry.1.skew (shares_at t.domain entry.0 t.contracts t.certificate)) name t.domain.meters m l found

-- and so are the numbers of its tests
pub headroom-is : (t : Table) (name : List ℕ) (m : Meter) (l : Loads) → l ≡ sums_of m.skew (shares_at t.domain name t.contracts t.certificate)
    → headroom_by m l.green (counted_load m.parameters l) ≡ headroom_at t name m
headroom-is t name m l is =
    let shares = shares_at t.domain name t.contracts t.certificate in
    ap (λ (own : Loads). headroom_by m own.green (counted_load m.parameters own)) is
    ∙ ap (λ green. headroom_by m green (counted_load m.parameters (sums_of m.skew shares))) (green_is m.skew shares)
    ∙ ap (headroom_by m (green_load m shares)) (counted_is m.parameters m.skew shares)

-- ---- no more is taken than there is
carried_by : (b : Bool) (d : Domain) (contracts : List Contract) (rows : List (List Bound)) (name : List ℕ) (entry : List ℕ × Meter) (meters : List (List ℕ × Meter)) (m : Meter)
    → bytes_eq name entry.0 ≡ b → lookup (bytes_eq name) (entry ∷ meters) ≡ Some m → Carries entry.1 (shares_at d entry.0 contracts rows)
    → (lookup (bytes_eq name) meters ≡ Some m → Carries m (shares_at d name contracts rows)) → Carries m (shares_at d name contracts rows)
carried_by true d contracts rows name entry meters m is found own behind =
    let same_name : entry.0 ≡ name = sym ((bytes_eq-Decides name entry.0).0 is) in
    let head : Some entry.1 ≡ Some m = rw is at found in
    let same : entry.1 ≡ m = cc in
    subst (λ x. Carries x (shares_at d name contracts rows)) same (subst (λ n. Carries entry.1 (shares_at d n contracts rows)) same_name own)
carried_by false d contracts rows name entry meters m is found own behind = behind (rw is at found)

carried_at : (d : Domain) (contracts : List Contract) (rows : List (List Bound)) (name : List ℕ) (meters : List (List ℕ × Meter)) (m : Meter)
    → All (λ entry. Carries entry.1 (shares_at d entry.0 contracts rows)) meters → lookup (bytes_eq name) meters ≡ Some m → Carries m (shares_at d name contracts rows)
carried_at d contracts rows name [] m met found = absurd cc
carried_at d contracts rows name (entry ∷ meters) m met found =
    let carries : List ℕ × Meter → Type 0 = λ other. Carries other.1 (shares_at d other.0 contracts rows) in
    carried_by (bytes_eq name entry.0) d contracts rows name entry meters m refl found (All-head carries entry meters met)
    (λ tail. carried_at d contracts rows name meters m (All-tail carries entry meters met) tail)

pub covered : (t : Table) (name : List ℕ) (m : Meter) → IsAcceptable t → meter_of t.domain name ≡ Some m → AreCovered (headroom_at t name m)
covered t name m met found =
    let carries = carried_at t.domain t.contracts t.certificate name t.domain.meters m met.1 found in
    (carries.0.0, carries.0.1, carries.1.0, carries.1.1)

-- ---- read from the sums of a table
pub headroom-read : (t : Table) (sums : List Loads) (name : List ℕ) (m : Meter) (i : ℕ) (l : Loads) (h : Headroom) → IsSound t sums → Some m ≡ meter_of t.domain name
    → Some i ≡ position (bytes_eq name) (keys_of t.domain.meters) → l ≡ get_or sums i l → h ≡ headroom_by m l.green (counted_load m.parameters l) → h ≡ headroom_at t name m
headroom-read t sums name m i l h sound found at is_l is_h =
    is_h ∙ headroom-is t name m l (is_l ∙ ap (λ list. get_or list i l) sound.kept.sums ∙ sums-at t name m i l (sym found) (sym at))

pub headroom-found : (t self : Table) (sums : List Loads) (name : List ℕ) (m : Meter) (i : ℕ) (l : Loads) (h : Headroom) → t ≡ self → IsSound t sums → Some m ≡ meter_of t.domain name
    → Some i ≡ position (bytes_eq name) (keys_of t.domain.meters) → l ≡ get_or sums i l → h ≡ headroom_by m l.green (counted_load m.parameters l) → Some h ≡ headroom_of self name
headroom-found t self sums name m i l h is_self sound found at is_l is_h =
    ap Some (headroom-read t sums name m i l h sound found at is_l is_h) ∙ ap (option_map (headroom_at t name)) found ∙ ap (λ (x : Table). headroom_of x name) is_self

pub headroom-covered : (t : Table) (sums : List Loads) (name : List ℕ) (m : Meter) (i : ℕ) (l : Loads) (h : Headroom) → IsSound t sums → Some m ≡ meter_of t.domain name
    → Some i ≡ position (bytes_eq name) (keys_of t.domain.meters) → l ≡ get_or sums i l → h ≡ headroom_by m l.green (counted_load m.parameters l) → AreCovered h
headroom-covered t sums name m i l h sound found at is_l is_h =
    subst AreCovered (sym (headroom-read t sums name m i l h sound found at is_l is_h)) (covered t name m sound.acceptable (sym found))
