-- The faults of the port and the path of a contract.
use Rattle.std.proofs.Common.{◌≡◌, ℕ, ◌+◌, ◌<◌, Bool, true, false, cond, if◌then◌else◌, ◌||◌, not, List, [], ◌∷◌, ◌++◌, length, get_or, take, drop, map, nat_eq, nat_lt, Option, Some, None, is_some, is_none, refl, sym, ◌∙◌}
use Rattle.std.proofs.lemmas.List.{drop_more, map-append, take_more}
use Rattle.ds_domain_base.specs.Domains.{Domain, is_meter, is_port, meter_of}
use Rattle.ds_domain_base.specs.Faults.{fault_at}
use Rattle.ds_domain_base.specs.Fitting.{names_unknown, repeats, lacks_link, way_fault}
use Rattle.ds_domain_base.specs.declared.fault.DomainFault.{DomainFault}
use Rattle.ds_domain_base.specs.declared.fault.Kind.{Kind}
use Rattle.ds_domain_base.specs.declared.fault.Field.{Field}
use Rattle.ds_domain_base.specs.declared.fault.Kind.TheVariants as kinds
use Rattle.ds_domain_base.specs.declared.fault.Field.TheVariants as fields
use Rattle.ds_domain_base.specs.declared.fault.Section.TheVariants as sections

-- a fault at another place
abbrev pub moved : ℕ → Option DomainFault → Option DomainFault
moved i None = None
moved i (Some f) = Some (record f { index = i })

moved_test : (b : Bool) (kind : Kind) (field : Field) (i : ℕ) (first other : Option DomainFault) → other ≡ moved i first
    → cond b (Some (fault_at kind sections.Contract i field)) other ≡ moved i (cond b (Some (fault_at kind sections.Contract 0 field)) first)
moved_test true kind field i first other e = refl
moved_test false kind field i first other e = e

-- the fault of a contract at a place is that of the contract at the first, but for the place
pub way_fault-moved : (i : ℕ) (d : Domain) (port : List ℕ) (path : List (List ℕ)) → way_fault i d port path ≡ moved i (way_fault 0 d port path)
way_fault-moved i d port path =
    let linked = moved_test (lacks_link d port path) kinds.NoLink fields.Path i None None refl in
    let once = moved_test (repeats path) kinds.PathRepeats fields.Path i _ _ linked in
    let known = moved_test (names_unknown d path) kinds.UnknownName fields.Path i _ _ once in
    let long = moved_test (nat_eq (length path) 0 || nat_lt 16 (length path)) kinds.PathLength fields.Path i _ _ known in
    moved_test (not (is_port d port)) kinds.UnknownName fields.Port i _ _ long

unknown_by : {A : Type 0} (o : Option A) (text : List ℕ) → None ≡ (if is_some o then Some text else None) → is_none o ≡ true
unknown_by None text e = refl
unknown_by (Some a) text e = absurd cc

known_by : {A : Type 0} (o : Option A) (name text : List ℕ) → Some name ≡ (if is_some o then Some text else None) → (is_none o ≡ false) × (name ≡ text)
known_by None name text e = absurd cc
known_by (Some a) name text e = (refl, cc)

-- a text that names no meter
pub names_unknown-found : {X : Type 0} (v : X → List ℕ) (d : Domain) (xs : List X) (i : ℕ) (none : X) → i < length xs
    → None ≡ (if is_meter d (v (get_or xs i none)) then Some (v (get_or xs i none)) else None)
    → names_unknown d (map v (drop i xs)) ≡ names_unknown d (map v xs)
    → names_unknown d (map v xs) ≡ true
unfolding names_unknown
names_unknown-found v d xs i none h looked before =
    let unknown : is_none (meter_of d (v (get_or xs i none))) ≡ true = unknown_by (meter_of d (v (get_or xs i none))) (v (get_or xs i none)) looked in
    let front : names_unknown d (map v (drop i xs)) ≡ true = rw (drop_more xs i none h, unknown) refl in
    sym before ∙ front

-- a text that names a meter
pub names_unknown-more : {X : Type 0} (v : X → List ℕ) (d : Domain) (xs : List X) (i : ℕ) (none : X) (name : List ℕ) → i < length xs
    → Some name ≡ (if is_meter d (v (get_or xs i none)) then Some (v (get_or xs i none)) else None)
    → names_unknown d (map v (drop i xs)) ≡ names_unknown d (map v xs)
    → names_unknown d (map v (drop (i + 1) xs)) ≡ names_unknown d (map v xs)
unfolding names_unknown
names_unknown-more v d xs i none name h looked before =
    let known = known_by (meter_of d (v (get_or xs i none))) name (v (get_or xs i none)) looked in
    let front : names_unknown d (map v (drop i xs)) ≡ names_unknown d (map v (drop (i + 1) xs)) = rw (drop_more xs i none h, known.0) refl in
    sym front ∙ before

-- the texts so far, and one more
pub taken-more : {X : Type 0} (v : X → List ℕ) (d : Domain) (xs : List X) (i : ℕ) (none : X) (name : List ℕ) (names after : List (List ℕ)) → i < length xs
    → Some name ≡ (if is_meter d (v (get_or xs i none)) then Some (v (get_or xs i none)) else None)
    → names ≡ map v (take i xs)
    → after ≡ names ++ name ∷ [] → after ≡ map v (take (i + 1) xs)
taken-more v d xs i none name names after h looked before more =
    let known = known_by (meter_of d (v (get_or xs i none))) name (v (get_or xs i none)) looked in
    more ∙ rw (before, known.1, take_more xs i none h, map-append v (take i xs) (get_or xs i none ∷ [])) refl
