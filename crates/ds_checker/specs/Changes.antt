-- What changes in a table: one contract more, one fewer, or another lifetime of one.
use Rattle.std.specs.Prelude.{ℕ, zero, suc, Bool, ◌&&◌, nat_eq, List, [], ◌∷◌, ◌++◌, length, filter, Option, Some, if◌then◌else◌, bytes_eq}
use Rattle.std.specs.List.{list_any, remove}
use Rattle.ds_domain_base.specs.Lifetimes.{Span}
use Rattle.ds_domain_base.specs.declared.contract.Contract.{Contract}
use Rattle.ds_domain_base.specs.declared.parts.Meter.{Meter}
use Rattle.ds_domain_base.specs.declared.terms.Terms.{Terms}
use Rattle.ds_certificate.specs.Bounds.{fits}
use Rattle.ds_certificate.specs.Columns.{Bound}
use Rattle.ds_certificate.specs.Sources.{jitters_of, source_of}
use Rattle.ds_checker.specs.Acceptance.{Table}
use Rattle.ds_checker.specs.BoundTests.{tests_along}
use Rattle.ds_checker.specs.TableTests.{table_tests}
use Rattle.ds_checker.specs.Tests.{Test, first_failed}
use Rattle.ds_checker.specs.declared.refusal.Refusal.{Refusal}
use Rattle.ds_checker.specs.declared.refusal.Refusal.TheVariants.{Shape}

-- with one contract more, behind the others, and its bounds beside it
abbrev pub with_contract : Table → Contract → List Bound → Table
with_contract t c bounds = record t { contracts = t.contracts ++ c ∷ []; certificate = t.certificate ++ bounds ∷ [] }

-- a meter is on a path
abbrev pub is_on : List (List ℕ) → List ℕ × Meter → Bool
is_on path entry = list_any (bytes_eq entry.0) path

-- the tests of one contract more: of its own bounds, and of the meters of its path, in the order of the meters
abbrev pub own_tests : Table → Contract → List Bound → List Test
own_tests t c bounds =
    tests_along (length t.contracts) (source_of t.domain c) (jitters_of t.domain c) bounds
    ++ table_tests t.domain (t.contracts ++ c ∷ []) (t.certificate ++ bounds ∷ [])
    (filter (is_on c.path) t.domain.meters)

-- what stands against one contract more in itself: its shape, then the first of those tests that fails
abbrev pub own_refusal : Table → Contract → List Bound → Option Refusal
own_refusal t c bounds =
    if fits t.domain c && nat_eq (length bounds) (suc (length c.path)) then
    first_failed (own_tests t c bounds)
    else
    Some (Shape (length t.contracts))

-- without the contract at a place, and without its bounds; what stands behind it moves up
abbrev pub without_contract : Table → ℕ → Table
without_contract t index =
    record t { contracts = remove t.contracts index; certificate = remove t.certificate index }

-- a contract with another lifetime
abbrev pub lasting : Span → Contract → Contract
lasting lifetime c = record c { lifetime = lifetime }

-- a contract on other terms
abbrev pub on_terms : Terms → Contract → Contract
on_terms terms c = record c { terms = terms }

-- contracts of which the one at a place has another lifetime
unfoldable pub lasting_at : ℕ → Span → List Contract → List Contract
lasting_at index lifetime [] = []
lasting_at zero lifetime (c ∷ contracts) = lasting lifetime c ∷ contracts
lasting_at (suc index) lifetime (c ∷ contracts) = c ∷ lasting_at index lifetime contracts

abbrev pub with_lifetime : Table → ℕ → Span → Table
with_lifetime t index lifetime = record t { contracts = lasting_at index lifetime t.contracts }
