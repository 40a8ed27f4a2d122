-- Which certificates are acceptable, and what is answered of the others.
use Rattle.std.specs.Prelude.{ℕ, ◌≤◌, List, ◌++◌, All, Option, None, Some}
use Rattle.envelope_core.specs.Curve.{Curve}
use Rattle.ds_domain_base.specs.Domains.{Domain}
use Rattle.ds_domain_base.specs.declared.contract.Contract.{Contract}
use Rattle.ds_domain_base.specs.declared.parts.Meter.{Meter}
use Rattle.ds_certificate.specs.Bounds.{IsCertificate}
use Rattle.ds_certificate.specs.Columns.{Bound}
use Rattle.ds_checker.specs.BoundTests.{bound_tests, misfit}
use Rattle.ds_domain_base.specs.Limits.{all_limit, green_limit}
use Rattle.ds_checker.specs.Loads.{Share, shares_at}
use Rattle.ds_checker.specs.TableTests.{all_load, green_load, table_tests}
use Rattle.ds_checker.specs.Tests.{first_failed}
use Rattle.ds_checker.specs.declared.candidate.Candidate.{Candidate}
use Rattle.ds_checker.specs.declared.refusal.Refusal.{Refusal}
use Rattle.ds_checker.specs.declared.refusal.Refusal.TheVariants.{Shape}

-- a domain, contracts, and what is said of their bursts
pub record Table : Type 0 where
  pub domain : Domain
  pub contracts : List Contract
  pub certificate : List (List Bound)

-- what a candidate says
abbrev pub table_of : Candidate → Table
table_of c = record { domain = c.domain; contracts = c.contracts.items; certificate = c.certificate }

-- neither rate nor burst is above the limit's
abbrev pub IsWithin : Curve → Curve → Type 0
IsWithin limit brought = (brought.rate ≤ limit.rate) × (brought.burst ≤ limit.burst)

-- a meter has enough for what is brought to it
abbrev pub Carries : Meter → List Share → Type 0
Carries m shares =
    IsWithin (green_limit m.parameters) (green_load m shares) × IsWithin (all_limit m.parameters) (all_load m shares)

-- Acceptable: the certificate says enough of each contract, and each meter has enough for what is brought to it.
abbrev pub IsAcceptable : Table → Type 0
IsAcceptable t =
    IsCertificate t.domain t.contracts t.certificate
    × All (λ entry. Carries entry.1 (shares_at t.domain entry.0 t.contracts t.certificate)) t.domain.meters

-- the first thing that stands against a table's shape and its bounds, which are looked at without memory
abbrev pub bounds_refusal_behind : Table → Option ℕ → Option Refusal
bounds_refusal_behind t (Some number) = Some (Shape number)
bounds_refusal_behind t None = first_failed (bound_tests 0 t.domain t.contracts t.certificate)

abbrev pub bounds_refusal_of : Table → Option Refusal
bounds_refusal_of t = bounds_refusal_behind t (misfit 0 t.domain t.contracts t.certificate)

-- the first thing that stands against a table: its shape, then its bounds, contract by contract, then its meters
abbrev pub refusal_behind : Table → Option ℕ → Option Refusal
refusal_behind t (Some number) = Some (Shape number)
refusal_behind t None =
    first_failed (bound_tests 0 t.domain t.contracts t.certificate
    ++ table_tests t.domain t.contracts t.certificate t.domain.meters)

abbrev pub refusal_of : Table → Option Refusal
refusal_of t = refusal_behind t (misfit 0 t.domain t.contracts t.certificate)
