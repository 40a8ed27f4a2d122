-- What is found by trying values is the greatest that can be sold.
use Rattle.std.proofs.Common.{arith, ◌≡◌, ℕ, ◌+◌, ◌-◌, ◌≤◌, ◌<◌, ◌^◌, zero, suc, Bool, true, false, if◌then◌else◌, Option, None, Some, nat_lt, ◌⊎◌, inl, inr, refl, sym, length, subst, ap, ◌∙◌, IfNone, IfSome, IsSomeAnd, is_none, is_some, nat_eq, option_and_then}
use Rattle.std.specs.Option.{option_map_or}
use Rattle.std.proofs.lemmas.Bool.Decides.{nat_tests}
use Rattle.ds_domain_base.specs.declared.contract.Contract.{Contract}
use Rattle.ds_domain_base.specs.declared.terms.Terms.{Terms}
use Rattle.ds_certificate.specs.Bounds.{fits, least_of}
use Rattle.ds_checker.specs.Acceptance.{IsAcceptable, Table, refusal_of}
use Rattle.ds_checker.specs.Changes.{on_terms}
use Rattle.ds_checker.specs.declared.refusal.Refusal.TheVariants.{Shape}
use Rattle.ds_checker.proofs.AcceptanceLaws.{acceptable, is_shaped, unrefused}
use Rattle.ds_checker.proofs.ChangeLaws.{last_shape, refused-shape, rows_long}
use Rattle.ds_quotes.specs.Fields.{AreThose, is_allowed, terms_with}
use Rattle.ds_quotes.specs.Passing.{IsDownward, IsPassing}
use Rattle.ds_quotes.specs.Quotes.{IsGreatest, IsSaleable, greatest_below, is_saleable, least_below, least_terms, offered, quote_of, value_limit}
use Rattle.ds_quotes.specs.declared.field.Field.{Field}
use Rattle.ds_quotes.proofs.LesserTables.{carries-too, lesser-on_terms}

pub none_by : {X : Type 0} (o : Option X) → is_none o ≡ true → o ≡ None
none_by None is = refl
none_by (Some x) is = absurd cc

-- ---- the greatest and the least number below a limit
last-by : (passes : ℕ → Bool) (n value : ℕ) (x : Bool) → nat_lt value n ≡ x → passes value ≡ true → value < suc n
    → (value < n → passes n ≡ false) → (value < n → greatest_below passes n ≡ Some value) → greatest_below passes (suc n) ≡ Some value
unfolding greatest_below
last-by passes n value true is holds below above behind =
    let lower : value < n = grind (arith, is, nat_tests) in
    rw (above lower) (behind lower)
last-by passes n value false is holds below above behind =
    let same : value ≡ n = grind (arith, is, nat_tests) in
    rw (ap passes (sym same) ∙ holds) (ap Some (sym same))

pub last-of : (passes : ℕ → Bool) (limit value : ℕ) → passes value ≡ true → value < limit → ((other : ℕ) → value < other → other < limit → passes other ≡ false)
    → greatest_below passes limit ≡ Some value
last-of passes zero value holds below above = absurd (omega (arith, below))
last-of passes (suc n) value holds below above =
    last-by passes n value (nat_lt value n) refl holds below (λ lower. above n lower (omega arith))
    (λ lower. last-of passes n value holds lower (λ other more less. above other more (omega (arith, less))))

none-of : (passes : ℕ → Bool) (limit : ℕ) → ((other : ℕ) → other < limit → passes other ≡ false) → greatest_below passes limit ≡ None
unfolding greatest_below
none-of passes zero none = refl
none-of passes (suc n) none = rw (none n (omega arith)) (none-of passes n (λ other less. none other (omega (arith, less))))

none-first : (passes : ℕ → Bool) (limit : ℕ) → ((other : ℕ) → other < limit → passes other ≡ false) → least_below passes limit ≡ None
unfolding least_below
none-first passes zero none = refl
none-first passes (suc n) none = rw (none-first passes n (λ other less. none other (omega (arith, less))), none n (omega arith)) refl

first-by : (passes : ℕ → Bool) (n value : ℕ) (x : Bool) → nat_lt value n ≡ x → passes value ≡ true → value < suc n
    → ((other : ℕ) → other < value → passes other ≡ false) → (value < n → least_below passes n ≡ Some value) → least_below passes (suc n) ≡ Some value
unfolding least_below
first-by passes n value true is holds below before behind =
    let lower : value < n = grind (arith, is, nat_tests) in
    rw (behind lower) refl
first-by passes n value false is holds below before behind =
    let same : value ≡ n = grind (arith, is, nat_tests) in
    let none : least_below passes n ≡ None = none-first passes n (λ other less. before other (omega (arith, less, same))) in
    rw (none, ap passes (sym same) ∙ holds) (ap Some (sym same))

first-of : (passes : ℕ → Bool) (limit value : ℕ) → passes value ≡ true → value < limit → ((other : ℕ) → other < value → passes other ≡ false)
    → least_below passes limit ≡ Some value
first-of passes zero value holds below before = absurd (omega (arith, below))
first-of passes (suc n) value holds below before =
    first-by passes n value (nat_lt value n) refl holds below before (λ lower. first-of passes n value holds lower before)

not_true : (b : Bool) → (b ≡ true → ⊥) → b ≡ false
not_true true denied = absurd (denied refl)
not_true false denied = refl

-- what the checker's tests tell of a contract on some terms
abbrev stands : Table → Contract → Terms → Bool
stands t c terms = is_none (refusal_of (offered t c terms))

stood : (t : Table) (c : Contract) (terms : Terms) → stands t c terms ≡ true → IsAcceptable (offered t c terms)
stood t c terms is = acceptable (offered t c terms) (none_by (refusal_of (offered t c terms)) is)

stands-for : (t : Table) (c : Contract) (terms : Terms) → IsAcceptable (offered t c terms) → stands t c terms ≡ true
stands-for t c terms met = ap is_none (unrefused (offered t c terms) met)

sold_by : (t : Table) (c : Contract) (found : Option Terms) → option_map_or (stands t c) found false ≡ true → IsSomeAnd found (λ terms. IsAcceptable (offered t c terms))
sold_by t c None is = absurd cc
sold_by t c (Some terms) is = stood t c terms is

pub sold : (t : Table) (c : Contract) (field : Field) (value : ℕ) → is_saleable t c field value ≡ true → IsSaleable t c field value
sold t c field value is = sold_by t c (terms_with field value c.terms) is

tells_by : (t : Table) (c : Contract) (found : Option Terms) → IsSomeAnd found (λ terms. IsAcceptable (offered t c terms)) → option_map_or (stands t c) found false ≡ true
tells_by t c None met = absurd met
tells_by t c (Some terms) met = stands-for t c terms met

pub tells : (t : Table) (c : Contract) (field : Field) (value : ℕ) → IsSaleable t c field value → is_saleable t c field value ≡ true
tells t c field value met = tells_by t c (terms_with field value c.terms) met

allowed_by : {X : Type 0} (found : Option X) (P : X → Type 0) → IsSomeAnd found P → is_some found ≡ true
allowed_by None P met = absurd met
allowed_by (Some x) P met = refl

allowed : (t : Table) (c : Contract) (field : Field) (value : ℕ) → IsSaleable t c field value → is_allowed field c.terms value ≡ true
allowed t c field value met = allowed_by (terms_with field value c.terms) (λ terms. IsAcceptable (offered t c terms)) met

-- a lower value that is allowed can be sold too
lower_by : (t : Table) (c : Contract) (field : Field) (value more : ℕ) (low high : Option Terms) → IsAcceptable t → value ≤ more → terms_with field value c.terms ≡ low
    → terms_with field more c.terms ≡ high → is_some low ≡ true → option_map_or (stands t c) high false ≡ true → option_map_or (stands t c) low false ≡ true
lower_by t c field value more None high own order is are some told = absurd cc
lower_by t c field value more (Some low) None own order is are some told = absurd cc
lower_by t c field value more (Some low) (Some high) own order is are some told =
    stands-for t c low
    (carries-too t (on_terms low c) (on_terms high c) (lesser-on_terms t.domain c field value more low high order is are) own (stood t c high told))

lower : (t : Table) (c : Contract) (field : Field) (value more : ℕ) → IsAcceptable t → value ≤ more → is_allowed field c.terms value ≡ true
    → is_saleable t c field more ≡ true → is_saleable t c field value ≡ true
lower t c field value more own order some told =
    lower_by t c field value more (terms_with field value c.terms) (terms_with field more c.terms) own order refl refl some told

pub downward : (t : Table) (c : Contract) (field : Field) (least most limit : ℕ) → IsAcceptable t → AreThose least most (is_allowed field c.terms) → limit ≡ most - least + 1
    → IsDownward limit (λ value. is_saleable t c field (least + value))
downward t c field least most limit own those is value more order below told =
    let at : least + value ≤ most = omega (arith, order, below, is, those.some) in
    lower t c field (least + value) (least + more) own (omega (arith, order)) (those.inside (least + value) (omega arith) at) told

-- the last value that passes
pub cases_≤ : (a b : ℕ) → (a < b) ⊎ (b ≤ a)
cases_≤ a b = by (nat_lt a b) refl
  where
    by : (x : Bool) → nat_lt a b ≡ x → (a < b) ⊎ (b ≤ a)
    by true is = inl (grind (arith, is, nat_tests))
    by false is = inr (grind (arith, is, nat_tests))

above_by : (t : Table) (c : Contract) (field : Field) (least most count other : ℕ) → AreThose least most (is_allowed field c.terms)
    → IsPassing (most - least + 1) (λ value. is_saleable t c field (least + value)) count → IsSaleable t c field other → other < least + count
above_by t c field least most count other those found met = by (cases_≤ other (least + count))
  where
    within : (least ≤ other) × (other ≤ most)
    within = those.outside other (allowed t c field other met)

    by : (other < least + count) ⊎ (least + count ≤ other) → other < least + count
    by (inl below) = below
    by (inr above) =
        let at : least + (other - least) ≡ other = omega (arith, within.0) in
        let fails : is_saleable t c field (least + (other - least)) ≡ false =
        found.above (other - least) (omega (arith, above)) (omega (arith, within.0, within.1)) in
        let passes : is_saleable t c field (least + (other - least)) ≡ true = ap (is_saleable t c field) at ∙ tells t c field other met in
        let false_is_true : false ≡ true = sym fails ∙ passes in
        absurd cc

pub greatest-found : (t : Table) (c : Contract) (field : Field) (least most count : ℕ) → AreThose least most (is_allowed field c.terms)
    → IsPassing (most - least + 1) (λ value. is_saleable t c field (least + value)) count → 1 ≤ count → IsGreatest (IsSaleable t c field) (least + (count - 1))
greatest-found t c field least most count those found some = record {
  holds = sold t c field (least + (count - 1)) (found.below (count - 1) (omega (arith, some)));
  greatest = λ other met. omega (arith, above_by t c field least most count other those found met, some);
}

pub none-found : (t : Table) (c : Contract) (field : Field) (least most : ℕ) → AreThose least most (is_allowed field c.terms)
    → IsPassing (most - least + 1) (λ value. is_saleable t c field (least + value)) 0 → (value : ℕ) → IsSaleable t c field value → ⊥
none-found t c field least most those found value met =
    let below = above_by t c field least most 0 value those found met in
    let within = those.outside value (allowed t c field value met) in
    absurd (omega (arith, below, within.0))

-- a field that the contract has not, and a contract that does not fit
pub no-field : (t : Table) (c : Contract) (field : Field) → ((value : ℕ) → is_allowed field c.terms value ≡ false) → (value : ℕ) → IsSaleable t c field value → ⊥
no-field t c field none value met =
    let both : false ≡ true = sym (none value) ∙ allowed t c field value met in
    absurd cc

unfit_by : (t : Table) (c : Contract) (found : Option Terms) → IsAcceptable t → fits t.domain c ≡ false → IsSomeAnd found (λ terms. IsAcceptable (offered t c terms)) → ⊥
unfit_by t c None own unfits met = met
unfit_by t c (Some terms) own unfits met =
    let shape = last_shape t.domain t.contracts t.certificate (on_terms terms c) (least_of t.domain (on_terms terms c)) (rows_long t.domain t.contracts t.certificate own.0) met.0 in
    let both : false ≡ true = sym unfits ∙ shape.0 in
    absurd cc

pub unfit : (t : Table) (c : Contract) (field : Field) → IsAcceptable t → fits t.domain c ≡ false → (value : ℕ) → IsSaleable t c field value → ⊥
unfit t c field own unfits value met = unfit_by t c (terms_with field value c.terms) own unfits met

-- ---- as it is defined
pub quoted-greatest : (t : Table) (c : Contract) (field : Field) (value : ℕ) → IsGreatest (IsSaleable t c field) value → value ≤ 10 ^ 13 → quote_of t c field ≡ Some value
unfolding value_limit
quoted-greatest t c field value found low =
    last-of (is_saleable t c field) (10 ^ 13 + 1) value (tells t c field value found.holds) (omega (arith, low))
    (λ other more less. not_true (is_saleable t c field other)
    (λ holds. let at : other ≤ value = found.greatest other (sold t c field other holds) in absurd (omega (arith, at, more))))

pub quoted-none : (t : Table) (c : Contract) (field : Field) → ((value : ℕ) → IsSaleable t c field value → ⊥) → quote_of t c field ≡ None
quoted-none t c field none =
    none-of (is_saleable t c field) value_limit (λ other less. not_true (is_saleable t c field other) (λ holds. none other (sold t c field other holds)))

-- the least value that is allowed
pub least-is : (field : Field) (terms : Terms) (least most : ℕ) → AreThose least most (is_allowed field terms) → most ≤ 10 ^ 13
    → least_terms field terms ≡ terms_with field least terms
unfolding value_limit
least-is field terms least most those low =
    let same : least ≤ least = omega arith in
    ap (option_and_then (λ value. terms_with field value terms))
    (first-of (is_allowed field terms) (10 ^ 13 + 1) least (those.inside least same those.some) (omega (arith, low, those.some))
    (λ other less. not_true (is_allowed field terms other)
    (λ holds. let within = those.outside other holds in absurd (omega (arith, within.0, less)))))

-- ---- by how many values pass
abbrev pub counted : ℕ → ℕ → Option ℕ
counted least count = if nat_eq count 0 then None else Some (least + (count - 1))

some_more : (n : ℕ) → nat_eq (suc n) 0 ≡ false
some_more n = grind (arith, nat_tests)

counted-some : (least count : ℕ) → counted least (suc count) ≡ Some (least + (suc count - 1))
counted-some least count = ap (λ b. if b then None else Some (least + (suc count - 1))) (some_more count)

found-value : (t : Table) (c : Contract) (field : Field) (least most count : ℕ) → AreThose least most (is_allowed field c.terms) → most ≤ 10 ^ 13
    → IsPassing (most - least + 1) (λ value. is_saleable t c field (least + value)) (suc count) → quote_of t c field ≡ Some (least + (suc count - 1))
found-value t c field least most count those low found =
    quoted-greatest t c field (least + (suc count - 1)) (greatest-found t c field least most (suc count) those found (omega arith))
    (omega (arith, found.within, those.some, low))

pub count-value : (t : Table) (c : Contract) (field : Field) (least most count : ℕ) (result : Option ℕ) → AreThose least most (is_allowed field c.terms) → most ≤ 10 ^ 13
    → IsPassing (most - least + 1) (λ value. is_saleable t c field (least + value)) count → result ≡ counted least count → result ≡ quote_of t c field
count-value t c field least most zero result those low found is =
    is ∙ sym (quoted-none t c field (none-found t c field least most those found))
count-value t c field least most (suc count) result those low found is = is ∙ counted-some least count ∙ sym (found-value t c field least most count those low found)

some-by : (P : ℕ → Type 0) (value : ℕ) (result : Option ℕ) → result ≡ Some value → P value → IfSome result P
some-by P value result is holds = subst (λ o. IfSome o P) (sym is) holds

pub count-some : (t : Table) (c : Contract) (field : Field) (least most count : ℕ) (result : Option ℕ) → AreThose least most (is_allowed field c.terms)
    → IsPassing (most - least + 1) (λ value. is_saleable t c field (least + value)) count → result ≡ counted least count → IfSome result (IsGreatest (IsSaleable t c field))
count-some t c field least most zero result those found is = subst (λ o. IfSome o (IsGreatest (IsSaleable t c field))) (sym is) tt
count-some t c field least most (suc count) result those found is =
    some-by (IsGreatest (IsSaleable t c field)) (least + (suc count - 1)) result (is ∙ counted-some least count) (greatest-found t c field least most (suc count) those found (omega arith))

pub count-none : (t : Table) (c : Contract) (field : Field) (least most count : ℕ) (result : Option ℕ) → AreThose least most (is_allowed field c.terms)
    → IsPassing (most - least + 1) (λ value. is_saleable t c field (least + value)) count → result ≡ counted least count
    → IfNone result ((value : ℕ) → IsSaleable t c field value → ⊥)
count-none t c field least most zero result those found is =
    subst (λ o. IfNone o ((value : ℕ) → IsSaleable t c field value → ⊥)) (sym is) (none-found t c field least most those found)
count-none t c field least most (suc count) result those found is =
    subst (λ o. IfNone o ((value : ℕ) → IsSaleable t c field value → ⊥)) (sym (is ∙ counted-some least count)) tt

-- ---- a contract that does not fit
pub unfit-offered : (t : Table) (c : Contract) (terms : Terms) (number : ℕ) → IsAcceptable t → fits t.domain c ≡ false → number ≡ length t.contracts
    → Some (Shape number) ≡ refusal_of (offered t c terms)
unfolding is_shaped
unfit-offered t c terms number own unfits is_number =
    let other = on_terms terms c in
    let unshaped : is_shaped t.domain other (least_of t.domain other) ≡ false = rw unfits refl in
    sym (refused-shape t other (least_of t.domain other) number own is_number unshaped)
