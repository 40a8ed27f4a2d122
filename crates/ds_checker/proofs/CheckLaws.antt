-- What stands against a table, part by part.
use Rattle.std.proofs.Common.{arith, ◌≡◌, ◌∙◌, ℕ, ◌+◌, ◌≤◌, ◌<◌, true, false, inl, List, drop, get_or, length, Option, None, Some, refl, ap, sym, Bool, suc, [], ◌∷◌, ◌++◌, nat_le, if◌then◌else◌, subst, le-ltb, lt-ltb}
use Rattle.std.specs.Bool.{then_some}
use Rattle.std.specs.Option.{option_or}
use Rattle.std.proofs.lemmas.List.{drop_all}
use Rattle.ds_domain_base.specs.Domains.{Domain}
use Rattle.ds_domain_base.specs.declared.contract.Contract.{Contract}
use Rattle.ds_certificate.specs.Columns.{Bound}
use Rattle.ds_certificate.specs.Sources.{jitters_of, source_of}
use Rattle.ds_checker.specs.Acceptance.{Table, bounds_refusal_behind, bounds_refusal_of, refusal_behind, refusal_of}
use Rattle.ds_checker.specs.BoundTests.{bound_tests, misfit, tests_along, hop_tests}
use Rattle.ds_checker.specs.TableTests.{table_tests}
use Rattle.ds_checker.specs.Tests.{first_failed, Test}
use Rattle.ds_checker.specs.declared.refusal.Refusal.{Refusal}
use Rattle.ds_checker.specs.declared.refusal.Refusal.TheVariants.{NoMemory, Shape}
use Rattle.ds_checker.specs.Sums.{loads_of, sums_tests}
use Rattle.ds_checker.specs.declared.load.Loads.{Loads}
use Rattle.ds_checker.proofs.BoundLaws.{contracts-ended, contracts-step, first_failed-append, item_ahead, misfit-behind, or_assoc, or_none}
use Rattle.ds_checker.proofs.LoadLaws.{sums_tests-are}
use Rattle.std.specs.Prelude.{IfSome, ⊤}
use Rattle.std.specs.List.{AllByRecursion}
use Rattle.ds_domain_base.specs.declared.parts.Meter.{Meter}
use Rattle.ds_certificate.specs.declared.source.Source.{Source}
use Rattle.ds_checker.proofs.ChangeLaws.{all_together}

behind_is : (t : Table) (m : Option ℕ) → refusal_behind t m ≡ option_or (bounds_refusal_behind t m) (first_failed (table_tests t.domain t.contracts t.certificate t.domain.meters))
behind_is t (Some number) = refl
behind_is t None = first_failed-append (bound_tests 0 t.domain t.contracts t.certificate) (table_tests t.domain t.contracts t.certificate t.domain.meters)

-- where its shape or a bound is refused
pub bounds_found : (t : Table) (refusal : Refusal) → bounds_refusal_of t ≡ Some refusal → refusal_of t ≡ Some refusal
bounds_found t refusal found =
    behind_is t (misfit 0 t.domain t.contracts t.certificate)
    ∙ ap (λ bounds. option_or bounds (first_failed (table_tests t.domain t.contracts t.certificate t.domain.meters))) found

-- where neither is, the first meter that has too little
pub table_found : (t : Table) (found : Option Refusal) (own sums : List Loads) → bounds_refusal_of t ≡ None → own ≡ sums → sums ≡ loads_of t
    → found ≡ first_failed (sums_tests t.domain.meters own) → refusal_of t ≡ found
table_found t found own sums passed is_own is_sums is_found =
    behind_is t (misfit 0 t.domain t.contracts t.certificate)
    ∙ ap (λ bounds. option_or bounds (first_failed (table_tests t.domain t.contracts t.certificate t.domain.meters))) passed
    ∙ sym (is_found ∙ ap (λ list. first_failed (sums_tests t.domain.meters list)) (is_own ∙ is_sums)
    ∙ ap first_failed (sums_tests-are t.domain t.contracts t.certificate t.domain.meters))

-- its shape alone
shape_by : (t : Table) (m : Option ℕ) → bounds_refusal_behind t m ≡ None → m ≡ None
shape_by t None passed = refl
shape_by t (Some number) passed = absurd cc

pub shape_passed : (t : Table) → bounds_refusal_of t ≡ None → misfit 0 t.domain t.contracts t.certificate ≡ None
shape_passed t passed = shape_by t (misfit 0 t.domain t.contracts t.certificate) passed

pub shape_found : (t : Table) (contracts : List Contract) (rows : List (List Bound)) (number : ℕ) → contracts ≡ t.contracts → rows ≡ t.certificate
    → misfit 0 t.domain contracts rows ≡ Some number → bounds_refusal_of t ≡ Some (Shape number)
shape_found t contracts rows number is_contracts is_rows found =
    ap (bounds_refusal_behind t) (sym (ap (λ list. misfit 0 t.domain list rows) is_contracts ∙ ap (misfit 0 t.domain t.contracts) is_rows) ∙ found)

-- its bounds, where its shape is right: the first that is found once all contracts are gone over
pub bounds_ended : (t : Table) (contracts : List Contract) (rows : List (List Bound)) (i : ℕ) (low : Option Refusal) → contracts ≡ t.contracts → rows ≡ t.certificate
    → i ≡ length contracts → length rows ≤ length contracts → misfit i t.domain (drop i contracts) (drop i rows) ≡ misfit 0 t.domain contracts rows
    → option_or low (first_failed (bound_tests i t.domain (drop i contracts) (drop i rows))) ≡ first_failed (bound_tests 0 t.domain contracts rows)
    → bounds_refusal_of t ≡ low
bounds_ended t contracts rows i low is_contracts is_rows ended level shape bounds =
    let d = t.domain in
    let unfitting : misfit 0 d contracts rows ≡ None =
    sym shape ∙ misfit-behind d contracts rows i ended ∙ ap (λ more. then_some more (length contracts)) (le-ltb (length contracts) (length rows) level) in
    let none = contracts-ended i d (drop i contracts) (drop i rows) (inl (drop_all i contracts (omega (arith, ended)))) in
    ap (bounds_refusal_behind t) (sym (ap (λ list. misfit 0 d list rows) is_contracts ∙ ap (misfit 0 d t.contracts) is_rows) ∙ unfitting)
    ∙ sym (ap (λ list. first_failed (bound_tests 0 d list rows)) is_contracts ∙ ap (λ list. first_failed (bound_tests 0 d t.contracts list)) is_rows)
    ∙ sym bounds ∙ ap (option_or low) none ∙ or_none low

-- where there are more rows than contracts
pub over : (d : Domain) (contracts : List Contract) (rows : List (List Bound)) (i : ℕ) → i ≡ length contracts → length contracts < length rows
    → misfit i d (drop i contracts) (drop i rows) ≡ misfit 0 d contracts rows → misfit 0 d contracts rows ≡ Some (length contracts)
over d contracts rows i ended more shape =
    sym shape ∙ misfit-behind d contracts rows i ended ∙ ap (λ some. then_some some (length contracts)) (lt-ltb (length contracts) (length rows) more)

-- one contract more is gone over
pub bounds_step : (d : Domain) (contracts : List Contract) (rows : List (List Bound)) (i : ℕ) (contract : Contract) (bounds : List Bound) (low refusal next whole : Option Refusal)
    → i < length contracts → contract ≡ get_or contracts i contract → i < length rows → bounds ≡ get_or rows i bounds
    → refusal ≡ first_failed (tests_along i (source_of d contract) (jitters_of d contract) bounds) → next ≡ option_or low refusal
    → option_or low (first_failed (bound_tests i d (drop i contracts) (drop i rows))) ≡ whole
    → option_or next (first_failed (bound_tests (i + 1) d (drop (i + 1) contracts) (drop (i + 1) rows))) ≡ whole
bounds_step d contracts rows i contract bounds low refusal next whole inside is_contract within is_row is_refusal is_next held =
    let behind = first_failed (bound_tests (i + 1) d (drop (i + 1) contracts) (drop (i + 1) rows)) in
    let step = contracts-step d (drop i contracts) (drop (i + 1) contracts) (drop i rows) (drop (i + 1) rows) contract bounds i i (i + 1) refusal
    (item_ahead contracts i contract inside is_contract) (item_ahead rows i bounds within is_row) refl refl is_refusal in
    ap (λ found. option_or found behind) is_next ∙ or_assoc low refusal behind ∙ ap (option_or low) (sym step) ∙ held

-- ---- what holds of the refusal of each test holds of the first that fails
told_by : (P : Refusal → Type 0) (passes : Bool) (refusal : Refusal) (rest : Option Refusal) → P refusal → IfSome rest P → IfSome (if passes then rest else Some refusal) P
told_by P true refusal rest own others = others
told_by P false refusal rest own others = own

pub told_tests : (P : Refusal → Type 0) (tests : List Test) → AllByRecursion (λ t. (needed given : ℕ) → P (t.refused needed given)) tests → IfSome (first_failed tests) P
unfolding first_failed
told_tests P [] all = tt
told_tests P (t ∷ tests) all =
    told_by P (nat_le t.needed t.given) (t.refused t.needed t.given) (first_failed tests) (all.0 t.needed t.given) (told_tests P tests all.1)

-- ---- no test of a table tells want of memory
abbrev IsTold : Refusal → Type 0
IsTold NoMemory = ⊥
IsTold refusal = ⊤

abbrev Tells : Test → Type 0
Tells t = (needed given : ℕ) → IsTold (t.refused needed given)

hops_told : (number hop : ℕ) (s : Source) (jitters : List ℕ) (before : Bound) (bounds : List Bound) → AllByRecursion Tells (hop_tests number hop s jitters before bounds)
unfolding hop_tests
hops_told number hop s [] before bounds = tt
hops_told number hop s (jitter ∷ jitters) before [] = tt
hops_told number hop s (jitter ∷ jitters) before (bound ∷ bounds) =
    ((λ needed given. tt), ((λ needed given. tt), ((λ needed given. tt), hops_told number (suc hop) s jitters bound bounds)))

bounds_told : (number : ℕ) (d : Domain) (contracts : List Contract) (rows : List (List Bound)) → AllByRecursion Tells (bound_tests number d contracts rows)
unfolding bound_tests
bounds_told number d [] rows = tt
bounds_told number d (c ∷ contracts) [] = tt
bounds_told number d (c ∷ contracts) ([] ∷ rows) = bounds_told (suc number) d contracts rows
bounds_told number d (c ∷ contracts) ((first ∷ bounds) ∷ rows) = (
  (λ needed given. tt),
  (
    (λ needed given. tt),
    (
      (λ needed given. tt),
      all_together Tells (hop_tests number 1 (source_of d c) (jitters_of d c) first bounds) (bound_tests (suc number) d contracts rows)
          (hops_told number 1 (source_of d c) (jitters_of d c) first bounds) (bounds_told (suc number) d contracts rows),
    ),
  ),
)

tables_told : (d : Domain) (contracts : List Contract) (rows : List (List Bound)) (meters : List (List ℕ × Meter)) → AllByRecursion Tells (table_tests d contracts rows meters)
unfolding table_tests
tables_told d contracts rows [] = tt
tables_told d contracts rows (entry ∷ meters) =
    ((λ needed given. tt), ((λ needed given. tt), ((λ needed given. tt), ((λ needed given. tt), tables_told d contracts rows meters))))

told_behind : (t : Table) (m : Option ℕ) → IfSome (refusal_behind t m) IsTold
told_behind t (Some number) = tt
told_behind t None =
    told_tests IsTold (bound_tests 0 t.domain t.contracts t.certificate ++ table_tests t.domain t.contracts t.certificate t.domain.meters)
    (all_together Tells (bound_tests 0 t.domain t.contracts t.certificate) (table_tests t.domain t.contracts t.certificate t.domain.meters)
    (bounds_told 0 t.domain t.contracts t.certificate) (tables_told t.domain t.contracts t.certificate t.domain.meters))

pub never_memory : (t : Table) → refusal_of t ≡ Some NoMemory → ⊥
never_memory t is = subst (λ o. IfSome o IsTold) is (told_behind t (misfit 0 t.domain t.contracts t.certificate))
