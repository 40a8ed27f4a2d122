-- What can still be sold beside a table.
use Rattle.std.specs.Prelude.{ℕ, zero, suc, ◌+◌, ◌^◌, ◌≤◌, Bool, false, is_none, List, IsSomeAnd, option_and_then, position, Option, None, Some, if◌then◌else◌, bytes_eq}
use Rattle.std.specs.Option.{option_map_or, option_or}
use Rattle.ds_domain_base.specs.Domains.{Domain}
use Rattle.ds_domain_base.specs.declared.contract.Contract.{Contract}
use Rattle.ds_domain_base.specs.declared.terms.Terms.{Terms}
use Rattle.ds_certificate.specs.Bounds.{least, least_of}
use Rattle.ds_checker.specs.Acceptance.{IsAcceptable, Table, refusal_of}
use Rattle.ds_checker.specs.Changes.{on_terms, with_contract, without_contract}
use Rattle.ds_checker.specs.declared.refusal.Refusal.{Refusal}
use Rattle.ds_quotes.specs.Fields.{is_allowed, terms_with}
use Rattle.ds_quotes.specs.declared.field.Field.{Field}

-- contracts in a domain, with their least certificate
abbrev pub with_least : Domain → List Contract → Table
with_least d contracts = record { domain = d; contracts = contracts; certificate = least d contracts }

-- a table with one contract more on some terms, and its least bounds
abbrev pub offered : Table → Contract → Terms → Table
offered t c terms = with_contract t (on_terms terms c) (least_of t.domain (on_terms terms c))

-- a contract is valid with a value of a field, and the table is acceptable with it then
abbrev pub IsSaleable : Table → Contract → Field → ℕ → Type 0
IsSaleable t c field value = IsSomeAnd (terms_with field value c.terms) (λ terms. IsAcceptable (offered t c terms))

-- a number of which something holds, and of no greater one
pub record IsGreatest (P : ℕ → Type 0) (value : ℕ) : Type 0 where
  pub holds : P value
  pub greatest : (other : ℕ) → P other → other ≤ value

-- the same as a test: nothing stands against it
abbrev pub is_saleable : Table → Contract → Field → ℕ → Bool
is_saleable t c field value =
    option_map_or (λ terms. is_none (refusal_of (offered t c terms))) (terms_with field value c.terms) false

-- the greatest, and the least, number below a limit that passes a test
unfoldable pub greatest_below : (ℕ → Bool) → ℕ → Option ℕ
greatest_below passes zero = None
greatest_below passes (suc n) = if passes n then Some n else greatest_below passes n

unfoldable pub least_below : (ℕ → Bool) → ℕ → Option ℕ
least_below passes zero = None
least_below passes (suc n) = option_or (least_below passes n) (if passes n then Some n else None)

-- no field has a value from here on
unfoldable pub value_limit : ℕ
value_limit = 10 ^ 13 + 1

-- the greatest value of a field with which a contract can be sold beside a table, if there is one
abbrev pub quote_of : Table → Contract → Field → Option ℕ
quote_of t c field = greatest_below (is_saleable t c field) value_limit

-- terms with the least value that a field may have
abbrev pub least_terms : Field → Terms → Option Terms
least_terms field terms =
    option_and_then (λ value. terms_with field value terms) (least_below (is_allowed field terms) value_limit)

-- what stands against a contract on them
abbrev pub least_refusal : Table → Contract → Field → Option Refusal
least_refusal t c field = option_and_then (λ terms. refusal_of (offered t c terms)) (least_terms field c.terms)

-- a table without the contract of a name, if it holds one
abbrev pub others_of : Table → List ℕ → Table
others_of t name = option_map_or (without_contract t) (position (λ c. bytes_eq name c.name) t.contracts) t
