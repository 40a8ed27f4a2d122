-- A table is acceptable exactly where nothing stands against it.
use Rattle.std.proofs.Common.{◌≡◌, ℕ, suc, Bool, true, false, List, [], ◌∷◌, ◌++◌, length, Option, None, Some, refl, sym, ap, ◌∙◌, inl, inr, ◌&&◌, All, map, nat_eq, nat_le}
use Rattle.std.specs.List.{AllByRecursion}
use Rattle.std.specs.Option.{option_or}
use Rattle.std.proofs.lemmas.Bool.{cases_Bool, and_parts, and_from, eq-eqb, eqb-true, le-leb, leb-true}
use Rattle.std.proofs.lemmas.Option.{none-some}
use Rattle.std.proofs.lemmas.List.Elements.{All-nil, All-cons, All-head, All-tail}
use Rattle.moment_core.specs.Columns.{each_column}
use Rattle.moment_core.specs.declared.column.Column.{Column}
use Rattle.ds_domain_base.specs.Domains.{Domain}
use Rattle.ds_domain_base.specs.declared.contract.Contract.{Contract}
use Rattle.ds_domain_base.specs.declared.parts.Meter.{Meter}
use Rattle.ds_certificate.specs.Bounds.{Grows, HasShape, IsCertificate, MeetsIn, fits}
use Rattle.ds_certificate.specs.Columns.{Bound}
use Rattle.ds_certificate.specs.Sources.{jitters_of, source_of}
use Rattle.ds_certificate.specs.declared.source.Source.{Source}
use Rattle.ds_checker.specs.Acceptance.{Carries, IsAcceptable, Table, bounds_refusal_behind, bounds_refusal_of, refusal_behind, refusal_of}
use Rattle.ds_checker.specs.BoundTests.{bound_tests, first_test, hop_test, hop_tests, misfit, tests_along}
use Rattle.ds_checker.specs.Loads.{Share, shares_at}
use Rattle.ds_checker.specs.TableTests.{meter_tests, table_tests}
use Rattle.ds_checker.specs.Tests.{IsPassed, Test, first_failed}
use Rattle.ds_certificate.proofs.ColumnLaws.{each_of, in_column}
use Rattle.ds_checker.proofs.BoundLaws.{both_none, first_failed-append, none_failed}

pub first_failed-passed : (t : Test) (tests : List Test) → nat_le t.needed t.given ≡ true → first_failed (t ∷ tests) ≡ first_failed tests
unfolding first_failed
first_failed-passed t tests holds = rw holds refl

pub first_failed-failed : (t : Test) (tests : List Test) → nat_le t.needed t.given ≡ false → first_failed (t ∷ tests) ≡ Some (t.refused t.needed t.given)
unfolding first_failed
first_failed-failed t tests fails = rw fails refl

-- none fails: the first passes, and none of the others fails
pub passes : (t : Test) (tests : List Test) → first_failed (t ∷ tests) ≡ None → IsPassed t × (first_failed tests ≡ None)
passes t tests is = elim (cases_Bool (nat_le t.needed t.given)) [
  | inl holds ↦ (leb-true t.needed t.given holds, sym (first_failed-passed t tests holds) ∙ is)
  | inr fails ↦ absurd (none-some (t.refused t.needed t.given) (sym is ∙ first_failed-failed t tests fails))
]

pub passed : (t : Test) (tests : List Test) → IsPassed t → first_failed tests ≡ None → first_failed (t ∷ tests) ≡ None
passed t tests low none = first_failed-passed t tests (le-leb t.needed t.given low) ∙ none

parts : (xs ys : List Test) → first_failed (xs ++ ys) ≡ None → (first_failed xs ≡ None) × (first_failed ys ≡ None)
parts xs ys is = both_none (first_failed xs) (first_failed ys) (sym (first_failed-append xs ys) ∙ is)

together : (xs ys : List Test) → first_failed xs ≡ None → first_failed ys ≡ None → first_failed (xs ++ ys) ≡ None
together xs ys left right = first_failed-append xs ys ∙ ap (λ f. option_or f (first_failed ys)) left ∙ right

-- a test in each column
each_passes : (columns : List Column) (test : Column → Test) (rest : List Test) → first_failed (map test columns ++ rest) ≡ None
    → AllByRecursion (λ column. IsPassed (test column)) columns × (first_failed rest ≡ None)
each_passes [] test rest is = (tt, is)
each_passes (column ∷ columns) test rest is =
    let both = passes (test column) (map test columns ++ rest) is in
    let later = each_passes columns test rest both.1 in
    ((both.0, later.0), later.1)

each_passed : (columns : List Column) (test : Column → Test) (rest : List Test) → AllByRecursion (λ column. IsPassed (test column)) columns
    → first_failed rest ≡ None → first_failed (map test columns ++ rest) ≡ None
each_passed [] test rest low none = none
each_passed (column ∷ columns) test rest low none = passed (test column) (map test columns ++ rest) low.0 (each_passed columns test rest low.1 none)

-- bounds behind links
grows : (number hop : ℕ) (s : Source) (jitters : List ℕ) (before : Bound) (bounds : List Bound) → first_failed (hop_tests number hop s jitters before bounds) ≡ None
    → (column : Column) → Grows column s jitters before bounds
unfolding Grows hop_tests
grows number hop s [] before bounds is column = tt
grows number hop s (jitter ∷ jitters) before [] is column = tt
grows number hop s (jitter ∷ jitters) before (bound ∷ bounds) is column =
    let test = hop_test number hop s jitter before bound in
    let both = each_passes each_column test (hop_tests number (suc hop) s jitters bound bounds) is in
    (in_column (λ k. IsPassed (test k)) both.0 column, grows number (suc hop) s jitters bound bounds both.1 column)

grown : (number hop : ℕ) (s : Source) (jitters : List ℕ) (before : Bound) (bounds : List Bound) → ((column : Column) → Grows column s jitters before bounds)
    → first_failed (hop_tests number hop s jitters before bounds) ≡ None
unfolding Grows hop_tests
grown number hop s [] before bounds met = none_failed
grown number hop s (jitter ∷ jitters) before [] met = none_failed
grown number hop s (jitter ∷ jitters) before (bound ∷ bounds) met =
    let test = hop_test number hop s jitter before bound in
    each_passed each_column test (hop_tests number (suc hop) s jitters bound bounds) (each_of (λ k. IsPassed (test k)) (λ k. (met k).0))
    (grown number (suc hop) s jitters bound bounds (λ k. (met k).1))

-- the bounds of a contract
meets : (number : ℕ) (s : Source) (jitters : List ℕ) (bounds : List Bound) → first_failed (tests_along number s jitters bounds) ≡ None
    → (column : Column) → MeetsIn column s jitters bounds
meets number s jitters [] is column = tt
meets number s jitters (first ∷ bounds) is column =
    let test = first_test number s first in
    let both = each_passes each_column test (hop_tests number 1 s jitters first bounds) is in
    (in_column (λ k. IsPassed (test k)) both.0 column, grows number 1 s jitters first bounds both.1 column)

pub met_by : (number : ℕ) (s : Source) (jitters : List ℕ) (bounds : List Bound) → ((column : Column) → MeetsIn column s jitters bounds)
    → first_failed (tests_along number s jitters bounds) ≡ None
met_by number s jitters [] met = none_failed
met_by number s jitters (first ∷ bounds) met =
    let test = first_test number s first in
    each_passed each_column test (hop_tests number 1 s jitters first bounds) (each_of (λ k. IsPassed (test k)) (λ k. (met k).0))
    (grown number 1 s jitters first bounds (λ k. (met k).1))

-- the shape of a contract's bounds, as a test
unfoldable pub is_shaped : Domain → Contract → List Bound → Bool
is_shaped d c bounds = fits d c && nat_eq (length bounds) (suc (length c.path))

shaped : (d : Domain) (c : Contract) (bounds : List Bound) → is_shaped d c bounds ≡ true → HasShape d c bounds
unfolding is_shaped
shaped d c bounds holds =
    let both = and_parts (fits d c) (nat_eq (length bounds) (suc (length c.path))) holds in
    (both.0, eqb-true (length bounds) (suc (length c.path)) both.1)

pub has_shape : (d : Domain) (c : Contract) (bounds : List Bound) → HasShape d c bounds → is_shaped d c bounds ≡ true
unfolding is_shaped
has_shape d c bounds shape = and_from (fits d c) (nat_eq (length bounds) (suc (length c.path))) shape.0 (eq-eqb (length bounds) (suc (length c.path)) shape.1)

pub misfit-shaped : (number : ℕ) (d : Domain) (c : Contract) (contracts : List Contract) (bounds : List Bound) (rows : List (List Bound)) → is_shaped d c bounds ≡ true
    → misfit number d (c ∷ contracts) (bounds ∷ rows) ≡ misfit (suc number) d contracts rows
unfolding misfit is_shaped
misfit-shaped number d c contracts bounds rows holds = rw holds refl

pub misfit-unshaped : (number : ℕ) (d : Domain) (c : Contract) (contracts : List Contract) (bounds : List Bound) (rows : List (List Bound)) → is_shaped d c bounds ≡ false
    → misfit number d (c ∷ contracts) (bounds ∷ rows) ≡ Some number
unfolding misfit is_shaped
misfit-unshaped number d c contracts bounds rows fails = rw fails refl

-- a certificate of whose shape and bounds nothing is wrong
certified : (number : ℕ) (d : Domain) (contracts : List Contract) (rows : List (List Bound)) → misfit number d contracts rows ≡ None
    → first_failed (bound_tests number d contracts rows) ≡ None → IsCertificate d contracts rows
unfolding misfit bound_tests
certified number d [] [] fit is = tt
certified number d [] (bounds ∷ rows) fit is = absurd (none-some number (sym fit))
certified number d (c ∷ contracts) [] fit is = absurd (none-some number (sym fit))
certified number d (c ∷ contracts) (bounds ∷ rows) fit is = elim (cases_Bool (is_shaped d c bounds)) [
  | inl holds ↦
      let both = parts (tests_along number (source_of d c) (jitters_of d c) bounds) (bound_tests (suc number) d contracts rows) is in (
        (
          shaped d c bounds holds,
          each_of (λ k. MeetsIn k (source_of d c) (jitters_of d c) bounds) (meets number (source_of d c) (jitters_of d c) bounds both.0),
        ),
        certified (suc number) d contracts rows (sym (misfit-shaped number d c contracts bounds rows holds) ∙ fit) both.1,
      )
  | inr fails ↦ absurd (none-some number (sym fit ∙ misfit-unshaped number d c contracts bounds rows fails))
]

fitting : (number : ℕ) (d : Domain) (contracts : List Contract) (rows : List (List Bound)) → IsCertificate d contracts rows → misfit number d contracts rows ≡ None
unfolding misfit
fitting number d [] [] met = refl
fitting number d [] (bounds ∷ rows) met = absurd met
fitting number d (c ∷ contracts) [] met = absurd met
fitting number d (c ∷ contracts) (bounds ∷ rows) met =
    misfit-shaped number d c contracts bounds rows (has_shape d c bounds met.0.0) ∙ fitting (suc number) d contracts rows met.1

pub bounded : (number : ℕ) (d : Domain) (contracts : List Contract) (rows : List (List Bound)) → IsCertificate d contracts rows
    → first_failed (bound_tests number d contracts rows) ≡ None
unfolding bound_tests
bounded number d [] [] met = none_failed
bounded number d [] (bounds ∷ rows) met = absurd met
bounded number d (c ∷ contracts) [] met = absurd met
bounded number d (c ∷ contracts) (bounds ∷ rows) met =
    together (tests_along number (source_of d c) (jitters_of d c) bounds) (bound_tests (suc number) d contracts rows)
    (met_by number (source_of d c) (jitters_of d c) bounds (in_column (λ k. MeetsIn k (source_of d c) (jitters_of d c) bounds) met.0.1)) (bounded (suc number) d contracts rows met.1)

-- a meter
carries : (name : List ℕ) (m : Meter) (shares : List Share) → first_failed (meter_tests name m shares) ≡ None → Carries m shares
carries name m shares is =
    let one = passes _ _ is in
    let two = passes _ _ one.1 in
    let three = passes _ _ two.1 in
    let four = passes _ _ three.1 in
    ((one.0, two.0), (three.0, four.0))

pub carried : (name : List ℕ) (m : Meter) (shares : List Share) → Carries m shares → first_failed (meter_tests name m shares) ≡ None
carried name m shares met = passed _ _ met.0.0 (passed _ _ met.0.1 (passed _ _ met.1.0 (passed _ _ met.1.1 none_failed)))

-- the meters of a domain
abbrev pub CarriesAt : Domain → List Contract → List (List Bound) → List ℕ × Meter → Type 0
CarriesAt d contracts rows entry = Carries entry.1 (shares_at d entry.0 contracts rows)

pub all_carry : (d : Domain) (contracts : List Contract) (rows : List (List Bound)) (meters : List (List ℕ × Meter))
    → first_failed (table_tests d contracts rows meters) ≡ None → All (CarriesAt d contracts rows) meters
unfolding table_tests
all_carry d contracts rows [] is = All-nil (CarriesAt d contracts rows)
all_carry d contracts rows (entry ∷ meters) is =
    let both = parts (meter_tests entry.0 entry.1 (shares_at d entry.0 contracts rows)) (table_tests d contracts rows meters) is in
    All-cons (CarriesAt d contracts rows) entry meters (carries entry.0 entry.1 (shares_at d entry.0 contracts rows) both.0) (all_carry d contracts rows meters both.1)

pub all_carried : (d : Domain) (contracts : List Contract) (rows : List (List Bound)) (meters : List (List ℕ × Meter))
    → All (CarriesAt d contracts rows) meters → first_failed (table_tests d contracts rows meters) ≡ None
unfolding table_tests
all_carried d contracts rows [] met = none_failed
all_carried d contracts rows (entry ∷ meters) met =
    together (meter_tests entry.0 entry.1 (shares_at d entry.0 contracts rows)) (table_tests d contracts rows meters)
    (carried entry.0 entry.1 (shares_at d entry.0 contracts rows) (All-head (CarriesAt d contracts rows) entry meters met))
    (all_carried d contracts rows meters (All-tail (CarriesAt d contracts rows) entry meters met))

behind : (t : Table) (m : Option ℕ) → misfit 0 t.domain t.contracts t.certificate ≡ m → refusal_behind t m ≡ None → IsAcceptable t
behind t None fit is =
    let both = parts (bound_tests 0 t.domain t.contracts t.certificate) (table_tests t.domain t.contracts t.certificate t.domain.meters) is in
    (certified 0 t.domain t.contracts t.certificate fit both.0, all_carry t.domain t.contracts t.certificate t.domain.meters both.1)
behind t (Some number) fit is = absurd cc

-- a table against which nothing stands is acceptable
pub acceptable : (t : Table) → refusal_of t ≡ None → IsAcceptable t
acceptable t is = behind t (misfit 0 t.domain t.contracts t.certificate) refl is

-- and nothing stands against one that is acceptable
pub unrefused : (t : Table) → IsAcceptable t → refusal_of t ≡ None
unrefused t met =
    ap (refusal_behind t) (fitting 0 t.domain t.contracts t.certificate met.0)
    ∙ together (bound_tests 0 t.domain t.contracts t.certificate) (table_tests t.domain t.contracts t.certificate t.domain.meters)
    (bounded 0 t.domain t.contracts t.certificate met.0) (all_carried t.domain t.contracts t.certificate t.domain.meters met.1)

-- nothing stands against the shape and the bounds of a certificate
pub certificate_stands : (t : Table) → IsCertificate t.domain t.contracts t.certificate → bounds_refusal_of t ≡ None
certificate_stands t met =
    ap (bounds_refusal_behind t) (fitting 0 t.domain t.contracts t.certificate met) ∙ bounded 0 t.domain t.contracts t.certificate met

-- nor against those of an acceptable table
pub bounds_stand : (t : Table) → IsAcceptable t → bounds_refusal_of t ≡ None
bounds_stand t met = certificate_stands t met.0
