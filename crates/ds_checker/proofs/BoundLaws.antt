-- Laws of the tests of bounds.
use Rattle.std.proofs.Common.{◌≡◌, ℕ, suc, ◌+◌, ◌-◌, ◌*◌, ◌<◌, ◌≤◌, ◌^◌, ◌++◌, ◌&&◌, nat_eq, length, drop, get_or, map, List, [], ◌∷◌, Bool, true, false, is_none, is_some, Option, None, Some, if◌then◌else◌, nat_le, nat_lt, ◌⊎◌, inl, inr, refl, sym, ap, ◌∙◌, arith, IfSome, mul-le-mul}
use Rattle.std.proofs.lemmas.List.{drop_all, drop_more, length-drop}
use Rattle.std.specs.Bool.{then_some}
use Rattle.std.specs.Option.{MatchOption, option_or}
use Rattle.std.proofs.lemmas.Bool.Decides.{nat_tests}
use Rattle.std.proofs.lemmas.Grind.{div_ceil_times}
use Rattle.moment_core.specs.Volume.{bytes_over}
use Rattle.moment_core.specs.declared.column.Column.{Column}
use Rattle.ds_domain_base.specs.Domains.{Domain}
use Rattle.ds_domain_base.specs.declared.contract.Contract.{Contract}
use Rattle.ds_certificate.specs.Bounds.{fits}
use Rattle.ds_certificate.specs.Columns.{Bound}
use Rattle.ds_certificate.specs.Sources.{jitters_of, source_of}
use Rattle.ds_certificate.specs.declared.source.Source.{Source}
use Rattle.ds_domain_base.specs.Fitting.{way_fault}
use Rattle.ds_domain_base.specs.Routes.{Route, jitters_in, route_of}
use Rattle.ds_domain_base.proofs.RouteLaws.{length-legs_along}
use Rattle.ds_domain_base.specs.declared.route.Leg.{Leg}
use Rattle.ds_certificate.proofs.RouteLaws.{jitters-legs}
use Rattle.ds_checker.specs.BoundTests.{bound_tests, first_test, hop_test, hop_tests, in_columns, misfit, tests_along}
use Rattle.ds_checker.specs.Tests.{Test, first_failed}
use Rattle.ds_checker.specs.declared.refusal.Refusal.{Refusal}
use Rattle.moment_core.specs.Columns.{each_column}

-- what a rate gives over a gap is far below 2^128
pub bytes_over_fits : (rate gap : ℕ) → rate < 2 ^ 64 → gap < 2 ^ 64 → bytes_over rate gap < 2 ^ 97
bytes_over_fits rate gap slow short =
    let product : rate * gap ≤ 2 ^ 64 * 2 ^ 64 = mul-le-mul {n₁ = rate} {m₁ = gap} {n₂ = 2 ^ 64} {m₂ = 2 ^ 64} (omega arith) (omega arith) in
    let times = div_ceil_times (rate * gap) 8000000000 (omega arith) in
    omega (arith, times)

pub none_failed : first_failed [] ≡ None
unfolding first_failed
none_failed = refl

-- an item, and those behind it
pub item_ahead : {X : Type 0} (xs : List X) (i : ℕ) (x : X) → i < length xs → x ≡ get_or xs i x → drop i xs ≡ x ∷ drop (i + 1) xs
item_ahead xs i x inside is_item = drop_more xs i x inside ∙ ap (λ first. first ∷ drop (i + 1) xs) (sym is_item)

-- the first test that fails in a list, or else in the list behind it
append_by : (passed : Bool) (refusal : Refusal) (rest whole other : Option Refusal) → whole ≡ option_or rest other
    → (if passed then whole else Some refusal) ≡ option_or (if passed then rest else Some refusal) other
append_by true refusal rest whole other same = same
append_by false refusal rest whole other same = refl

pub first_failed-append : (a b : List Test) → first_failed (a ++ b) ≡ option_or (first_failed a) (first_failed b)
unfolding first_failed
first_failed-append [] b = refl
first_failed-append (t ∷ a) b =
    append_by (nat_le t.needed t.given) (t.refused t.needed t.given) (first_failed a) (first_failed (a ++ b)) (first_failed b) (first_failed-append a b)

-- a single test
alone_by : (needed given : ℕ) (refusal : Refusal) → then_some (nat_lt given needed) refusal ≡ (if nat_le needed given then None else Some refusal)
alone_by needed given refusal = grind (arith, nat_tests)

pub first_failed-alone : (t : Test) (needed given : ℕ) (refusal : Refusal) → needed ≡ t.needed → given ≡ t.given → refusal ≡ t.refused needed given
    → then_some (nat_lt given needed) refusal ≡ first_failed (t ∷ [])
unfolding first_failed
first_failed-alone t needed given refusal is_needed is_given same =
    rw (sym is_needed) (rw (sym is_given) (ap (then_some (nat_lt given needed)) same ∙ alone_by needed given (t.refused needed given)))

-- the first test of the columns that fails is that in the column at an index, or one in the columns behind it
pub column-next : (test : Column → Test) (columns : List Column) (i : ℕ) (d : Column) (refusal : Option Refusal) → columns ≡ each_column → i < length columns
    → refusal ≡ first_failed (test (get_or columns i d) ∷ []) → first_failed (map test (drop i each_column)) ≡ first_failed (in_columns test)
    → option_or refusal (first_failed (map test (drop (i + 1) each_column))) ≡ first_failed (in_columns test)
column-next test columns i d refusal are inside is_refusal left =
    rw is_refusal
    (ap (λ own. option_or (first_failed (test (get_or columns i d) ∷ [])) (first_failed (map test (drop (i + 1) own)))) (sym are)
    ∙ sym (first_failed-append (test (get_or columns i d) ∷ []) (map test (drop (i + 1) columns)))
    ∙ ap (λ own. first_failed (map test own)) (sym (drop_more columns i d inside)) ∙ ap (λ own. first_failed (map test (drop i own))) are ∙ left)

pub columns-ended : (test : Column → Test) (columns : List Column) (i : ℕ) → columns ≡ each_column → length columns ≤ i
    → first_failed (map test (drop i each_column)) ≡ first_failed (in_columns test) → None ≡ first_failed (in_columns test)
columns-ended test columns i are ended left =
    sym none_failed ∙ ap (λ own. first_failed (map test own)) (sym (drop_all i columns ended)) ∙ ap (λ own. first_failed (map test (drop i own))) are ∙ left

-- where a refusal stands before others it is the first, and else the first is among the others
pub found : (refusal other whole : Option Refusal) → is_some refusal ≡ true → option_or refusal other ≡ whole → refusal ≡ whole
found None other whole some same = absurd cc
found (Some r) other whole some same = same

pub not_found : (refusal other whole : Option Refusal) → is_some refusal ≡ false → option_or refusal other ≡ whole → other ≡ whole
not_found None other whole none same = same
not_found (Some r) other whole none same = absurd cc

-- a refusal, or what was computed where there was none
pub or_else_is : {P : Type 0} (first rest result : Option Refusal) → MatchOption first P (λ refusal. result ≡ Some refusal) → (P → result ≡ rest) → result ≡ option_or first rest
or_else_is None rest result which called = called which
or_else_is (Some refusal) rest result which called = which

pub or_none : (a : Option Refusal) → option_or a None ≡ a
or_none None = refl
or_none (Some a) = refl

pub both_none : (a b : Option Refusal) → option_or a b ≡ None → (a ≡ None) × (b ≡ None)
both_none None b none = (refl, none)
both_none (Some a) b none = absurd cc

pub or_assoc : (a b c : Option Refusal) → option_or (option_or a b) c ≡ option_or a (option_or b c)
or_assoc None b c = refl
or_assoc (Some a) b c = refl

next_is : (i : ℕ) → suc i ≡ i + 1
next_is i = omega arith

-- a contract that has no bounds
pub misfit-missing : (d : Domain) (contracts : List Contract) (rows : List (List Bound)) (i : ℕ) (contract : Contract) → i < length contracts → contract ≡ get_or contracts i contract
    → length rows ≤ i → misfit i d (drop i contracts) (drop i rows) ≡ Some i
unfolding misfit
misfit-missing d contracts rows i contract inside is_item short = rw (item_ahead contracts i contract inside is_item) (rw (drop_all i rows short) refl)

-- a contract that has
misfit-next : (i : ℕ) (d : Domain) (c : Contract) (contracts : List Contract) (bounds : List Bound) (rows : List (List Bound))
    → misfit i d (c ∷ contracts) (bounds ∷ rows) ≡ (if fits d c && nat_eq (length bounds) (suc (length c.path)) then misfit (i + 1) d contracts rows else Some i)
unfolding misfit
misfit-next i d c contracts bounds rows =
    ap (λ next. if fits d c && nat_eq (length bounds) (suc (length c.path)) then misfit next d contracts rows else Some i) (next_is i)

pub misfit-step : (d : Domain) (contracts : List Contract) (rows : List (List Bound)) (i : ℕ) (contract : Contract) (bounds : List Bound) (answer : Bool) → i < length contracts
    → contract ≡ get_or contracts i contract → i < length rows → bounds ≡ get_or rows i bounds → answer ≡ (fits d contract && nat_eq (length bounds) (suc (length contract.path)))
    → misfit i d (drop i contracts) (drop i rows) ≡ (if answer then misfit (i + 1) d (drop (i + 1) contracts) (drop (i + 1) rows) else Some i)
misfit-step d contracts rows i contract bounds answer inside is_item within is_row same =
    rw (item_ahead contracts i contract inside is_item)
    (rw (item_ahead rows i bounds within is_row) (rw same (misfit-next i d contract (drop (i + 1) contracts) bounds (drop (i + 1) rows))))

-- what is left behind the last contract
misfit_left : (i : ℕ) (d : Domain) (rows : List (List Bound)) → misfit i d [] rows ≡ then_some (nat_lt 0 (length rows)) i
unfolding misfit
misfit_left i d [] = refl
misfit_left i d (bounds ∷ rows) = grind (arith, nat_tests)

left_over : (i n : ℕ) → nat_lt 0 (n - i) ≡ nat_lt i n
left_over i n = grind (arith, nat_tests)

pub misfit-behind : (d : Domain) (contracts : List Contract) (rows : List (List Bound)) (i : ℕ) → i ≡ length contracts
    → misfit i d (drop i contracts) (drop i rows) ≡ then_some (nat_lt (length contracts) (length rows)) (length contracts)
misfit-behind d contracts rows i ended =
    ap (λ left. misfit i d left (drop i rows)) (drop_all i contracts (omega arith))
    ∙ misfit_left i d (drop i rows)
    ∙ ap (λ count. then_some (nat_lt 0 count) i) (length-drop i rows) ∙ ap (λ some. then_some some i) (left_over i (length rows))
    ∙ ap (λ count. then_some (nat_lt count (length rows)) count) ended

-- a hop, and what is behind it
hops-next : (number hop : ℕ) (s : Source) (jitter : ℕ) (jitters : List ℕ) (before bound : Bound) (bounds : List Bound)
    → first_failed (hop_tests number hop s (jitter ∷ jitters) before (bound ∷ bounds))
    ≡ option_or (first_failed (in_columns (hop_test number hop s jitter before bound))) (first_failed (hop_tests number (hop + 1) s jitters bound bounds))
unfolding hop_tests
hops-next number hop s jitter jitters before bound bounds =
    first_failed-append (in_columns (hop_test number hop s jitter before bound)) (hop_tests number (suc hop) s jitters bound bounds)
    ∙ ap (λ next. option_or (first_failed (in_columns (hop_test number hop s jitter before bound))) (first_failed (hop_tests number next s jitters bound bounds))) (next_is hop)

pub hops-step : (number : ℕ) (s : Source) (jitters later : List ℕ) (jitter : ℕ) (before bound : Bound) (bounds rest : List Bound)
    → (index at next : ℕ) (refusal : Option Refusal) → jitters ≡ jitter ∷ later → bounds ≡ bound ∷ rest → at ≡ index → next ≡ index + 1
    → refusal ≡ first_failed (in_columns (hop_test number (at + 1) s jitter before bound))
    → first_failed (hop_tests number (index + 1) s jitters before bounds) ≡ option_or refusal (first_failed (hop_tests number (next + 1) s later bound rest))
hops-step number s jitters later jitter before bound bounds rest index at next refusal is_jitters is_bounds is_at is_next is_refusal =
    rw is_jitters (rw is_bounds (rw is_refusal (rw is_at (rw is_next (hops-next number (index + 1) s jitter later before bound rest)))))

hops_none : (number hop : ℕ) (s : Source) (jitters : List ℕ) (before : Bound) → hop_tests number hop s jitters before [] ≡ []
unfolding hop_tests
hops_none number hop s [] before = refl
hops_none number hop s (jitter ∷ jitters) before = refl

pub hops-ended : (number hop : ℕ) (s : Source) (legs : List Leg) (before : Bound) (bounds : List Bound) → (legs ≡ []) ⊎ (bounds ≡ [])
    → first_failed (hop_tests number hop s (jitters_in legs) before bounds) ≡ None
unfolding hop_tests
hops-ended number hop s legs before bounds ended = elim ended [
  | inl ended ↦ rw ended none_failed
  | inr ended ↦ rw ended (rw (hops_none number hop s (jitters_in legs) before) none_failed)
]

-- the jitters of a contract's links are told by its route
pub jitters-route : (d : Domain) (c : Contract) (route : Route) → route ≡ route_of d c → jitters_in route.legs ≡ jitters_of d c
jitters-route d c route is = ap (λ r. jitters_in r.legs) is ∙ jitters-legs d c.port c.path

-- what is made where a test holds
pub some-if : {X : Type 0} (holds : Bool) (x : X) → is_some (then_some holds x) ≡ holds
some-if true x = refl
some-if false x = refl

pub some-then : {X : Type 0} (P : X → Type 0) (holds : Bool) (x : X) → P x → IfSome (then_some holds x) P
some-then P true x own = own
some-then P false x own = tt

-- a contract that does not fit has no shape
pub shaped-none : (d : Domain) (c : Contract) (bounds : List Bound) → fits d c ≡ false → false ≡ (fits d c && nat_eq (length bounds) (suc (length c.path)))
shaped-none d c bounds unfit = sym (ap (λ f. f && nat_eq (length bounds) (suc (length c.path))) unfit)

-- the shape of a contract that fits, by its route
pub shaped-route : (d : Domain) (c : Contract) (route : Route) (legs : List Leg) (bounds : List Bound) (same : Bool) → way_fault 0 d c.port c.path ≡ None → route ≡ route_of d c → legs ≡ route.legs
    → nat_eq (length bounds) (length legs + 1) ≡ same → same ≡ (fits d c && nat_eq (length bounds) (suc (length c.path)))
shaped-route d c route legs bounds same faultless is is_legs is_same =
    let long : length legs ≡ length c.path = ap length is_legs ∙ ap (λ r. length r.legs) is ∙ length-legs_along d c.port c.path in
    sym is_same ∙ ap (nat_eq (length bounds)) (omega (arith, long)) ∙ sym (ap (λ fault. is_none fault && nat_eq (length bounds) (suc (length c.path))) faultless)

-- a contract, and what is behind it
contracts-next : (number : ℕ) (d : Domain) (c : Contract) (contracts : List Contract) (bounds : List Bound) (rows : List (List Bound))
    → first_failed (bound_tests number d (c ∷ contracts) (bounds ∷ rows))
    ≡ option_or (first_failed (tests_along number (source_of d c) (jitters_of d c) bounds)) (first_failed (bound_tests (number + 1) d contracts rows))
unfolding bound_tests
contracts-next number d c contracts bounds rows =
    first_failed-append (tests_along number (source_of d c) (jitters_of d c) bounds) (bound_tests (suc number) d contracts rows)
    ∙ ap (λ next. option_or (first_failed (tests_along number (source_of d c) (jitters_of d c) bounds)) (first_failed (bound_tests next d contracts rows))) (next_is number)

pub contracts-step : (d : Domain) (contracts later : List Contract) (rows rest : List (List Bound)) (contract : Contract) (bounds : List Bound) (number at next : ℕ)
    → (refusal : Option Refusal) → contracts ≡ contract ∷ later → rows ≡ bounds ∷ rest → at ≡ number → next ≡ number + 1
    → refusal ≡ first_failed (tests_along at (source_of d contract) (jitters_of d contract) bounds)
    → first_failed (bound_tests number d contracts rows) ≡ option_or refusal (first_failed (bound_tests next d later rest))
contracts-step d contracts later rows rest contract bounds number at next refusal is_contracts is_rows is_at is_next is_refusal =
    rw is_contracts (rw is_rows (rw is_refusal (rw is_at (rw is_next (contracts-next number d contract later bounds rest)))))

contracts_none : (number : ℕ) (d : Domain) (contracts : List Contract) → bound_tests number d contracts [] ≡ []
unfolding bound_tests
contracts_none number d [] = refl
contracts_none number d (c ∷ contracts) = refl

pub contracts-ended : (number : ℕ) (d : Domain) (contracts : List Contract) (rows : List (List Bound)) → (contracts ≡ []) ⊎ (rows ≡ [])
    → first_failed (bound_tests number d contracts rows) ≡ None
unfolding bound_tests
contracts-ended number d contracts rows ended = elim ended [
  | inl ended ↦ rw ended none_failed
  | inr ended ↦ rw ended (rw (contracts_none number d contracts) none_failed)
]

-- the tests of a contract
pub along-empty : (number : ℕ) (s : Source) (jitters : List ℕ) (bounds : List Bound) → length bounds ≡ 0 → first_failed (tests_along number s jitters bounds) ≡ None
along-empty number s jitters [] empty = none_failed
along-empty number s jitters (first ∷ bounds) empty = absurd (omega (arith, empty))

pub along-parts : (number : ℕ) (s : Source) (jitters : List ℕ) (bounds : List Bound) (first : Bound) (behind : List Bound) (own : Source) (refusal : Option Refusal)
    → own ≡ s → bounds ≡ first ∷ behind → refusal ≡ first_failed (in_columns (first_test number own first))
    → option_or refusal (first_failed (hop_tests number 1 own jitters first behind)) ≡ first_failed (tests_along number s jitters bounds)
along-parts number s jitters bounds first behind own refusal same are is_refusal =
    rw is_refusal (rw same (rw are (sym (first_failed-append (in_columns (first_test number s first)) (hop_tests number 1 s jitters first behind)))))
