-- The route of a path: what each of its legs is, and that it comes to no meter twice.
use Rattle.std.proofs.Common.{arith, ◌≡◌, ℕ, suc, ◌+◌, ◌≤◌, ◌<◌, Bool, true, false, ◌||◌, List, [], ◌∷◌, ◌++◌, append-nil, length, drop, get_or, Option, None, Some, is_none, is_some, nat_eq, unwrap_or, refl, sym, ap, subst, ◌∙◌, bytes_eq}
use Rattle.std.specs.List.{AllByRecursion, IsDistinct, list_any, position}
use Rattle.std.specs.Map.{keys_of}
use Rattle.std.proofs.lemmas.Bool.{or_parts}
use Rattle.std.proofs.lemmas.Bool.Decides.{nat_tests}
use Rattle.std.proofs.lemmas.List.{append_assoc, drop_more}
use Rattle.std.proofs.lemmas.List.Quantifiers.{position-Some}
use Rattle.std.proofs.lemmas.Map.Entries.{length-keys_of}
use Rattle.std.proofs.lemmas.Slice.Eq.{bytes_eq-Decides}
use Rattle.indexmap.proofs.MapLemmas.{some_index}
use Rattle.ds_domain_base.specs.declared.route.Leg.{Leg}
use Rattle.ds_domain_base.specs.declared.contract.Contract.{Contract}
use Rattle.ds_domain_base.specs.declared.parts.Port.{Port}
use Rattle.ds_domain_base.specs.Domains.{Domain, link_of, meter_of, port_of, skew_of}
use Rattle.ds_domain_base.specs.Fitting.{lacks_link, names_unknown, repeats}
use Rattle.ds_domain_base.specs.Routes.{AreInside, IsRoute, comes_back, leg_of, legs_along, place_of, places_of, route_of}

pub length-legs_along : (d : Domain) (from : List ℕ) (path : List (List ℕ)) → length (legs_along d from path) ≡ length path
unfolding legs_along
length-legs_along d from [] = refl
length-legs_along d from (to ∷ path) = ap suc (length-legs_along d to path)

-- ---- one name more

-- what is left of a path at the place of a name
pub path_at : (path : List (List ℕ)) (i : ℕ) (to : List ℕ) → i < length path → to ≡ get_or path i to → drop i path ≡ to ∷ drop (i + 1) path
path_at path i to inside is = drop_more path i to inside ∙ ap (λ name. name ∷ drop (i + 1) path) (sym is)

pub legs-more : (d : Domain) (from to : List ℕ) (left rest : List (List ℕ)) (done more whole : List Leg) (leg : Leg) → left ≡ to ∷ rest → leg ≡ leg_of d from to
    → more ≡ done ++ leg ∷ [] → done ++ legs_along d from left ≡ whole → more ++ legs_along d to rest ≡ whole
unfolding legs_along
legs-more d from to left rest done more whole leg is_left is_leg is_more kept =
    ap (λ legs. legs ++ legs_along d to rest) is_more
    ∙ append_assoc done (leg ∷ []) (legs_along d to rest)
    ∙ ap (λ l. done ++ l ∷ legs_along d to rest) is_leg
    ∙ sym (ap (λ names. done ++ legs_along d from names) is_left)
    ∙ kept

or_assoc : (a b c : Bool) → ((a || b) || c) ≡ (a || (b || c))
or_assoc true b c = refl
or_assoc false b c = refl

pub or_false : (a : Bool) → (a || false) ≡ a
or_false true = refl
or_false false = refl

pub unknown-more : (d : Domain) (to : List ℕ) (left rest : List (List ℕ)) (so_far now here whole : Bool) → left ≡ to ∷ rest → here ≡ is_none (meter_of d to)
    → now ≡ (so_far || here) → (so_far || names_unknown d left) ≡ whole → (now || names_unknown d rest) ≡ whole
unfolding names_unknown
unknown-more d to left rest so_far now here whole is_left is_here is_now kept =
    ap (λ b. b || names_unknown d rest) is_now
    ∙ or_assoc so_far here (names_unknown d rest)
    ∙ ap (λ b. so_far || (b || names_unknown d rest)) is_here
    ∙ sym (ap (λ names. so_far || names_unknown d names) is_left)
    ∙ kept

pub unlinked-more : (d : Domain) (from to : List ℕ) (left rest : List (List ℕ)) (so_far now here whole : Bool) → left ≡ to ∷ rest → here ≡ is_none (link_of d from to)
    → now ≡ (so_far || here) → (so_far || lacks_link d from left) ≡ whole → (now || lacks_link d to rest) ≡ whole
unfolding lacks_link
unlinked-more d from to left rest so_far now here whole is_left is_here is_now kept =
    ap (λ b. b || lacks_link d to rest) is_now
    ∙ or_assoc so_far here (lacks_link d to rest)
    ∙ ap (λ b. so_far || (b || lacks_link d to rest)) is_here
    ∙ sym (ap (λ names. so_far || lacks_link d from names) is_left)
    ∙ kept

-- ---- the end of a path
pub legs-whole : (d : Domain) (from : List ℕ) (left : List (List ℕ)) (done whole : List Leg) → left ≡ [] → done ++ legs_along d from left ≡ whole → done ≡ whole
unfolding legs_along
legs-whole d from left done whole is_left kept = sym (append-nil done) ∙ sym (ap (λ names. done ++ legs_along d from names) is_left) ∙ kept

pub unknown-whole : (d : Domain) (left : List (List ℕ)) (found whole : Bool) → left ≡ [] → (found || names_unknown d left) ≡ whole → found ≡ whole
unfolding names_unknown
unknown-whole d left found whole is_left kept = sym (or_false found) ∙ sym (ap (λ names. found || names_unknown d names) is_left) ∙ kept

pub unlinked-whole : (d : Domain) (from : List ℕ) (left : List (List ℕ)) (found whole : Bool) → left ≡ [] → (found || lacks_link d from left) ≡ whole → found ≡ whole
unfolding lacks_link
unlinked-whole d from left found whole is_left kept = sym (or_false found) ∙ sym (ap (λ names. found || lacks_link d from names) is_left) ∙ kept

-- ---- the places of meters

some_from : {A : Type 0} (o : Option A) → is_none o ≡ false → is_some o ≡ true
some_from None is = absurd cc
some_from (Some x) is = refl

some_place : (place : Option ℕ) → is_some place ≡ true → place ≡ Some (unwrap_or place 0)
some_place None is = absurd cc
some_place (Some place) is = refl

-- the name of a meter has a place
pub known_at : (d : Domain) (name : List ℕ) → is_none (meter_of d name) ≡ false → position (bytes_eq name) (keys_of d.meters) ≡ Some (place_of d name)
known_at d name known =
    some_place (position (bytes_eq name) (keys_of d.meters)) (some_index (bytes_eq name) d.meters ∙ some_from (meter_of d name) known)

-- that of one of the meters, and its name stands there
pub place-inside : (d : Domain) (name : List ℕ) → is_none (meter_of d name) ≡ false → place_of d name < length d.meters
place-inside d name known =
    let at = position-Some (bytes_eq name) (keys_of d.meters) (place_of d name) name (known_at d name known) in
    omega (arith, at.0, length-keys_of d.meters)

stands_at : (d : Domain) (name other : List ℕ) → is_none (meter_of d name) ≡ false → get_or (keys_of d.meters) (place_of d name) other ≡ name
stands_at d name other known =
    let at = position-Some (bytes_eq name) (keys_of d.meters) (place_of d name) other (known_at d name known) in
    sym ((bytes_eq-Decides name (get_or (keys_of d.meters) (place_of d name) other)).0 at.1)

-- names that differ have places that differ
pub places-differ : (d : Domain) (name other : List ℕ) → is_none (meter_of d name) ≡ false → is_none (meter_of d other) ≡ false → bytes_eq name other ≡ false
    → nat_eq (place_of d name) (place_of d other) ≡ false
places-differ d name other known also differ =
    let no : (place_of d name ≡ place_of d other) → ⊥ = λ same.
    let one : name ≡ other = sym (stands_at d name name known) ∙ ap (λ place. get_or (keys_of d.meters) place name) same ∙ stands_at d other name also in
    let equal : bytes_eq name other ≡ true = (bytes_eq-Decides name other).1 one in
    absurd cc
    in
    grind (arith, nat_tests, no)

places-apart : (d : Domain) (name from : List ℕ) (path : List (List ℕ)) → is_none (meter_of d name) ≡ false → names_unknown d path ≡ false
    → list_any (bytes_eq name) path ≡ false → AllByRecursion (λ place. nat_eq (place_of d name) place ≡ false) (places_of (legs_along d from path))
unfolding legs_along names_unknown
places-apart d name from [] known all differ = tt
places-apart d name from (to ∷ path) known all differ =
    let found = or_parts (is_none (meter_of d to)) (names_unknown d path) all in
    let other = or_parts (bytes_eq name to) (list_any (bytes_eq name) path) differ in
    (places-differ d name to known found.0 other.0, places-apart d name to path known found.1 other.1)

-- a path of meters that passes none twice comes to no place twice
pub legs-once : (d : Domain) (from : List ℕ) (path : List (List ℕ)) → names_unknown d path ≡ false → repeats path ≡ false
    → IsDistinct nat_eq (places_of (legs_along d from path))
unfolding legs_along names_unknown repeats IsDistinct
legs-once d from [] known once = tt
legs-once d from (to ∷ path) known once =
    let found = or_parts (is_none (meter_of d to)) (names_unknown d path) known in
    let other = or_parts (list_any (bytes_eq to) path) (repeats path) once in
    (places-apart d to to path found.0 found.1 other.0, legs-once d to path found.1 other.1)

-- names that are one have one place, and others have others
same_place : (d : Domain) (name other : List ℕ) (same : Bool) → is_none (meter_of d name) ≡ false → is_none (meter_of d other) ≡ false → bytes_eq name other ≡ same
    → nat_eq (place_of d other) (place_of d name) ≡ same
same_place d name other true known also is =
    let one : place_of d other ≡ place_of d name = sym (ap (place_of d) ((bytes_eq-Decides name other).0 is)) in
    grind (arith, nat_tests, one)
same_place d name other false known also is =
    let apart = places-differ d name other known also is in
    grind (arith, nat_tests, apart)

any_place : (d : Domain) (name from : List ℕ) (path : List (List ℕ)) → is_none (meter_of d name) ≡ false → names_unknown d path ≡ false
    → list_any (λ (leg : Leg). nat_eq leg.place (place_of d name)) (legs_along d from path) ≡ list_any (bytes_eq name) path
unfolding legs_along names_unknown
any_place d name from [] known all = refl
any_place d name from (to ∷ path) known all =
    let found = or_parts (is_none (meter_of d to)) (names_unknown d path) all in
    ap (λ b. b || list_any (λ (leg : Leg). nat_eq leg.place (place_of d name)) (legs_along d to path)) (same_place d name to (bytes_eq name to) known found.0 refl)
    ∙ ap (λ b. bytes_eq name to || b) (any_place d name to path known found.1)

-- legs come to a meter twice where the path of their meters has a name twice
pub back-twice : (d : Domain) (from : List ℕ) (path : List (List ℕ)) → names_unknown d path ≡ false → comes_back (legs_along d from path) ≡ repeats path
unfolding legs_along names_unknown repeats comes_back
back-twice d from [] known = refl
back-twice d from (to ∷ path) known =
    let found = or_parts (is_none (meter_of d to)) (names_unknown d path) known in
    ap (λ b. b || comes_back (legs_along d to path)) (any_place d to to path found.0 found.1)
    ∙ ap (λ b. list_any (bytes_eq to) path || b) (back-twice d to path found.1)

pub back-told : (d : Domain) (from : List ℕ) (path : List (List ℕ)) (legs found : List Leg) (told is : Bool) → found ≡ legs_along d from path → legs ≡ found
    → told ≡ comes_back legs → names_unknown d path ≡ false → told ≡ is → repeats path ≡ is
back-told d from path legs found told is is_found is_legs is_told known told_is =
    sym (back-twice d from path known) ∙ sym (is_told ∙ ap comes_back (is_legs ∙ is_found)) ∙ told_is

pub legs-inside : (d : Domain) (from : List ℕ) (path : List (List ℕ)) → names_unknown d path ≡ false → AreInside (length d.meters) (legs_along d from path)
unfolding legs_along names_unknown
legs-inside d from [] known = tt
legs-inside d from (to ∷ path) known =
    let found = or_parts (is_none (meter_of d to)) (names_unknown d path) known in
    (place-inside d to found.0, legs-inside d to path found.1)

-- ---- what is found is the route
pub IsRoute-found : (d : Domain) (from : List ℕ) (path : List (List ℕ)) (skew : ℕ) (legs : List Leg) → legs ≡ legs_along d from path
    → 1 ≤ length path → length path ≤ 16 → names_unknown d path ≡ false → repeats path ≡ false → IsRoute (record { skew = skew; legs = legs })
IsRoute-found d from path skew legs is some few known once =
    let long = length-legs_along d from path in
    subst (λ found. IsRoute (record { skew = skew; legs = found })) (sym is)
    (record { some = omega (arith, long, some); few = omega (arith, long, few); once = legs-once d from path known once })

pub found-inside : (d : Domain) (from : List ℕ) (path : List (List ℕ)) (legs : List Leg) → legs ≡ legs_along d from path → names_unknown d path ≡ false
    → AreInside (length d.meters) legs
found-inside d from path legs is known = subst (AreInside (length d.meters)) (sym is) (legs-inside d from path known)

pub route_is : (d : Domain) (c : Contract) (port : Port) (path : List (List ℕ)) (legs : List Leg) → port_of d c.port ≡ Some port → path ≡ c.path
    → legs ≡ legs_along d c.port path → record { skew = port.skew; legs = legs } ≡ route_of d c
route_is d c port path legs is_port is_path is_legs =
    ap (λ found. record { skew = port.skew; legs = found }) (is_legs ∙ ap (legs_along d c.port) is_path)
    ∙ ap (λ skew. record { skew = skew; legs = legs_along d c.port c.path }) (sym (ap skew_of is_port))
