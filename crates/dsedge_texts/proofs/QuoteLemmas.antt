-- A contract of a text beside the others, and in its place again.
use Rattle.std.proofs.Common.{arith, rules, ◌≡◌, ℕ, zero, suc, ◌<◌, ◌≤◌, Bool, true, false, List, [], ◌∷◌, ◌++◌, codes, length, Option, get_or, cond, nat_lt, None, Some, Result, Ok, Err, IfOk, refl, sym, ap, ◌∙◌, bytes_eq, IfSome, IsSome}
use Rattle.std.specs.List.{insert, list_all, position_or_len, remove}
use Rattle.std.proofs.lemmas.Bool.{and_from, and_parts}
use Rattle.std.proofs.lemmas.List.Edits.{length-remove}
use Rattle.std.proofs.lemmas.Bool.Decides.{nat_tests}
use Rattle.std.proofs.lemmas.Option.{slice_get_read}
use Rattle.ds_checker.specs.Acceptance.{Table, refusal_of}
use Rattle.ds_checker.specs.Besides.{IsNameless}
use Rattle.ds_checker.specs.declared.refusal.Refusal.{Refusal}
use Rattle.ds_checker.specs.declared.refusal.Refusal.TheVariants as refusals
use Rattle.ds_domain_base.specs.Domains.{Domain}
use Rattle.ds_domain_base.specs.declared.contract.Contract.{Contract}
use Rattle.ds_domain_base.specs.declared.terms.Terms.{Terms}
use Rattle.ds_quotes.specs.Quotes.{least_refusal, least_terms, quote_of, with_least}
use Rattle.ds_quotes.specs.declared.asked.Asked.{Asked}
use Rattle.ds_quotes.specs.declared.field.Field.{Field}
use Rattle.dsedge_texts.specs.Quotation.{said_in}
use Rattle.dsedge_texts.specs.Quoted.{Nothing, Quote, asked_on, lines_of_quote, named_in, none_lines, nothing_told, quote_at, quote_beside, quote_by_value, quote_none, quote_of_contract, quote_on, quote_with, told_beside, told_by}
use Rattle.dsedge_texts.specs.declared.quoting.QuoteFault.{QuoteFault}
use Rattle.dsedge_texts.specs.declared.quoting.Quoted.{Quoted}
use Rattle.dsedge_texts.specs.Refused.{refusal_line}
use Rattle.dsedge_texts.specs.Wording.{place_named}

-- ---- what holds of all of a list
pub all_removed : {X : Type 0} (p : X → Bool) (xs : List X) (i : ℕ) → list_all p xs ≡ true → list_all p (remove xs i) ≡ true
all_removed p [] zero all = all
all_removed p [] (suc i) all = all
all_removed p (x ∷ xs) zero all = (and_parts (p x) (list_all p xs) all).1
all_removed p (x ∷ xs) (suc i) all =
    let both = and_parts (p x) (list_all p xs) all in
    and_from (p x) (list_all p (remove xs i)) both.0 (all_removed p xs i both.1)

pub one_of_all : {X : Type 0} (p : X → Bool) (xs : List X) (i : ℕ) (x : X) → list_all p xs ≡ true → i < length xs → p (get_or xs i x) ≡ true
one_of_all p [] i x all inside = absurd (omega (arith, inside))
one_of_all p (own ∷ xs) zero x all inside = (and_parts (p own) (list_all p xs) all).0
one_of_all p (own ∷ xs) (suc i) x all inside = one_of_all p xs i x (and_parts (p own) (list_all p xs) all).1 (omega (arith, inside))

pub all_inserted : {X : Type 0} (p : X → Bool) (xs : List X) (i : ℕ) (x : X) → list_all p xs ≡ true → p x ≡ true → i ≤ length xs → list_all p (insert xs i x) ≡ true
all_inserted p xs zero x all own inside = and_from (p x) (list_all p xs) own all
all_inserted p [] (suc i) x all own inside = absurd (omega (arith, inside))
all_inserted p (first ∷ xs) (suc i) x all own inside =
    let both = and_parts (p first) (list_all p xs) all in
    and_from (p first) (list_all p (insert xs i x)) both.0 (all_inserted p xs i x both.1 own (omega (arith, inside)))

-- ---- the contract of a name
inside_by : (b : Bool) (j n i : ℕ) → nat_lt j n ≡ b → cond b (Some j) None ≡ Some i → i < n
inside_by true j n i below is = let same : j ≡ i = cc in let lower : j < n = grind (arith, below, nat_tests) in omega (arith, lower, same)
inside_by false j n i below is = absurd cc

pub place-inside : (contracts : List Contract) (name : List ℕ) (place : ℕ) → Some place ≡ place_named contracts name → place < length contracts
place-inside contracts name place is =
    let named : Contract → Bool = λ c. bytes_eq name c.name in
    inside_by (nat_lt (position_or_len named contracts) (length contracts)) (position_or_len named contracts) (length contracts) place refl (sym is)

pub others-long : (contracts others : List Contract) (place : ℕ) → place < length contracts → others ≡ remove contracts place → place ≤ length others
others-long contracts others place inside is = omega (arith, inside, ap length is, length-remove contracts place inside)

pub quote-found : (d : Domain) (contracts others : List Contract) (name : List ℕ) (place : ℕ) (c : Contract) (asked : Asked) → Some place ≡ place_named contracts name
    → others ≡ remove contracts place → c ≡ get_or contracts place c
    → quote_at d contracts asked (place_named contracts name) ≡ asked_on d others place c asked
quote-found d contracts others name place c asked is_place is_others is_contract =
    ap (quote_at d contracts asked) (sym is_place)
    ∙ ap (quote_of_contract d contracts place asked) (slice_get_read contracts (length contracts) place c refl (place-inside contracts name place is_place) is_contract)
    ∙ ap (λ xs. asked_on d xs place c asked) (sym is_others)

-- ---- beside the others, which the checker accepts
pub quote-over : (d : Domain) (others : List Contract) (place : ℕ) (c : Contract) (field : Field) (terms : Terms) (t : Table) → least_terms field c.terms ≡ Some terms
    → refusal_of (with_least d others) ≡ None → t ≡ with_least d others
    → quote_on d others place c field (least_terms field c.terms) ≡ Ok (quote_beside t c field)
quote-over d others place c field terms t is_terms unrefused same =
    ap (quote_on d others place c field) is_terms
    ∙ ap (λ refusal. Ok (quote_with d others place c field terms refusal)) unrefused
    ∙ ap (λ table. Ok (quote_beside table c field)) (sym same)

none-at : (d : Domain) (others : List Contract) (place : ℕ) (c : Contract) (field : Field) (terms : Terms) (refusal : Option Refusal) → IsSome refusal
    → quote_with d others place c field terms refusal ≡ quote_none d others place c terms
none-at d others place c field terms None refused = absurd (search rules)
none-at d others place c field terms (Some refusal) refused = refl

-- beside the others, which the checker refuses
pub quote-none : (d : Domain) (others : List Contract) (place : ℕ) (c : Contract) (field : Field) (terms : Terms) → least_terms field c.terms ≡ Some terms
    → IsSome (refusal_of (with_least d others)) → quote_on d others place c field (least_terms field c.terms) ≡ Ok (quote_none d others place c terms)
quote-none d others place c field terms is_terms refused =
    ap (quote_on d others place c field) is_terms
    ∙ ap Ok (none-at d others place c field terms (refusal_of (with_least d others)) refused)

pub said-ok : (r : Result Quoted QuoteFault) (said : Quote) (whole : Result Quote QuoteFault) → whole ≡ Ok said
    → IfOk r (λ quoted. said ≡ said_in quoted) → IfOk r (λ quoted. whole ≡ Ok (said_in quoted))
said-ok (Ok quoted) said whole is holds = is ∙ ap Ok holds
said-ok (Err fault) said whole is holds = holds

pub said-one : (quoted : Quoted) (said : Quote) (whole : Result Quote QuoteFault) → whole ≡ Ok said → said ≡ said_in quoted → whole ≡ Ok (said_in quoted)
said-one quoted said whole is holds = is ∙ ap Ok holds

-- where a refusal names no contract, none are needed
nameless_named : (refusal : Option Refusal) (contracts others : List Contract) → IfSome refusal IsNameless → named_in contracts refusal ≡ named_in others refusal
nameless_named None contracts others none = refl
nameless_named (Some (refusals.Shape place)) contracts others none = refl
nameless_named (Some (refusals.FirstBound place column needed given)) contracts others none = absurd none
nameless_named (Some (refusals.HopBound place hop column needed given)) contracts others none = absurd none
nameless_named (Some (refusals.GreenRate meter needed available)) contracts others none = refl
nameless_named (Some (refusals.GreenBurst meter needed available)) contracts others none = refl
nameless_named (Some (refusals.AllRate meter needed available)) contracts others none = refl
nameless_named (Some (refusals.AllBurst meter needed available)) contracts others none = refl
nameless_named (Some refusals.NoMemory) contracts others none = refl

-- what is answered beside a table: a value, or the refusal of the least one
pub quote-value : (t : Table) (c : Contract) (field : Field) (value : Option ℕ) → value ≡ quote_of t c field
    → quote_beside t c field ≡ quote_by_value t.contracts field (least_refusal t c field) value
quote-value t c field value is = ap (quote_by_value t.contracts field (least_refusal t c field)) (sym is)

pub quote-nothing : (t : Table) (c : Contract) (field : Field) (contracts : List Contract) (refusal : Option Refusal)
    → quote_of t c field ≡ None → refusal ≡ least_refusal t c field → IfSome refusal IsNameless
    → quote_beside t c field ≡ nothing_told contracts refusal
quote-nothing t c field contracts refusal none is nameless =
    ap (quote_by_value t.contracts field (least_refusal t c field)) none
    ∙ ap (nothing_told t.contracts) (sym is)
    ∙ ap (λ xs. Nothing xs refusal) (nameless_named refusal t.contracts contracts nameless)

-- the contracts that a refusal does not name are not told
pub named_lines : (contracts : List Contract) (refusal : Option Refusal) → none_lines (named_in contracts refusal) refusal ≡ none_lines contracts refusal
named_lines contracts None = refl
named_lines contracts (Some (refusals.Shape place)) = refl
named_lines contracts (Some (refusals.FirstBound place column needed given)) = refl
named_lines contracts (Some (refusals.HopBound place hop column needed given)) = refl
named_lines contracts (Some (refusals.GreenRate meter needed available)) = refl
named_lines contracts (Some (refusals.GreenBurst meter needed available)) = refl
named_lines contracts (Some (refusals.AllRate meter needed available)) = refl
named_lines contracts (Some (refusals.AllBurst meter needed available)) = refl
named_lines contracts (Some refusals.NoMemory) = refl

-- the lines of an answer are those that drive tells
by_value_lines : (contracts : List Contract) (field : Field) (refusal : Option Refusal) (value : Option ℕ)
    → lines_of_quote (quote_by_value contracts field refusal value) ≡ told_by contracts field refusal value
by_value_lines contracts field refusal None = ap (λ lines. (lines, false)) (named_lines contracts refusal)
by_value_lines contracts field refusal (Some value) = refl

pub lines-beside : (t : Table) (c : Contract) (field : Field) → lines_of_quote (quote_beside t c field) ≡ told_beside t c field
lines-beside t c field = by_value_lines t.contracts field (least_refusal t c field) (quote_of t c field)

-- the line of a refusal that names no contract is the same for any contracts
nameless_line : (refusal : Refusal) (contracts others : List Contract) → IsNameless refusal → refusal_line contracts refusal ≡ refusal_line others refusal
nameless_line (refusals.Shape number) contracts others none = refl
nameless_line (refusals.FirstBound number column needed given) contracts others none = absurd none
nameless_line (refusals.HopBound number hop column needed given) contracts others none = absurd none
nameless_line (refusals.GreenRate meter needed available) contracts others none = refl
nameless_line (refusals.GreenBurst meter needed available) contracts others none = refl
nameless_line (refusals.AllRate meter needed available) contracts others none = refl
nameless_line (refusals.AllBurst meter needed available) contracts others none = refl
nameless_line refusals.NoMemory contracts others none = refl

pub nameless_lines : (refusal : Option Refusal) (contracts others : List Contract) → IfSome refusal IsNameless → none_lines contracts refusal ≡ none_lines others refusal
nameless_lines None contracts others none = refl
nameless_lines (Some refusal) contracts others none = ap (λ line. codes "none\n" ++ line) (nameless_line refusal contracts others none)

-- where no value is, what is told is the refusal of the least one
pub told-none-beside : (t : Table) (c : Contract) (field : Field) (contracts : List Contract) (refusal : Option Refusal) (value : Option ℕ) (before text : List ℕ)
    → value ≡ quote_of t c field → value ≡ None → refusal ≡ least_refusal t c field → IfSome refusal IsNameless → text ≡ before ++ none_lines contracts refusal
    → text ≡ before ++ (told_beside t c field).0
told-none-beside t c field contracts refusal value before text is none is_refusal nameless written =
    written
    ∙ ap (λ lines. before ++ lines)
    (nameless_lines refusal contracts t.contracts nameless ∙ ap (none_lines t.contracts) is_refusal
    ∙ ap (λ (v : Option ℕ). (told_by t.contracts field (least_refusal t c field) v).0) (sym none ∙ is))
