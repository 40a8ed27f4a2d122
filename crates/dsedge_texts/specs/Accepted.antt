-- What a domain text and a certificate text say together: a table that is acceptable, or what stands against it.
use Rattle.std.specs.Prelude.{◌≡◌, ℕ, List, Option, None, Some, Result, Ok, Err, IfErr}
use Rattle.ds_certificate.specs.Columns.{Bound}
use Rattle.ds_certificate.specs.Places.{fault_line}
use Rattle.ds_certificate.specs.Readings.{certificate_in}
use Rattle.ds_certificate.specs.declared.fault.CertificateFault.{CertificateFault}
use Rattle.ds_certificate.specs.declared.fault.CertificateFault.TheVariants as certificates
use Rattle.ds_checker.specs.Acceptance.{Table, refusal_of}
use Rattle.ds_checker.specs.declared.refusal.Refusal.{Refusal}
use Rattle.ds_domain.specs.DomainTexts.{parse_of}
use Rattle.ds_domain_base.specs.Domains.{Domain}
use Rattle.ds_domain_base.specs.declared.contract.Contract.{Contract}
use Rattle.ds_domain_base.specs.declared.fault.DomainFault.{DomainFault}
use Rattle.dsedge_texts.specs.Refused.{refusal_line}
use Rattle.dsedge_texts.specs.declared.accepting.TableFault.{TableFault}
use Rattle.dsedge_texts.specs.declared.accepting.TableFault.TheVariants as faults

-- a certificate's text has no fault, if not want of memory
abbrev pub IsUnfaulty : Result (List (List Bound)) CertificateFault → Type 0
IsUnfaulty said = IfErr said (λ fault. fault ≡ certificates.NoMemory)

-- a table of which nothing stands against it, or the line of the first test that fails
abbrev pub judged : Table → Option Refusal → Result Table TableFault
judged t None = Ok t
judged t (Some refusal) = Err (faults.Refused (refusal_line t.contracts refusal))

abbrev pub table_with : Domain × List Contract → List (List Bound) → Table
table_with parsed certificate = record { domain = parsed.0; contracts = parsed.1; certificate = certificate }

-- the fault of a certificate's text stands in the first line that is not what its turn wants
abbrev pub tabled_by : Domain × List Contract → List ℕ → Result (List (List Bound)) CertificateFault
    → Result Table TableFault
tabled_by parsed text (Err fault) = Err (faults.Certificate (record { fault = fault; line = fault_line parsed.1 text }))
tabled_by parsed text (Ok certificate) = Ok (table_with parsed certificate)

abbrev pub tabled : Domain × List Contract → List ℕ → Result Table TableFault
tabled parsed text = tabled_by parsed text (certificate_in parsed.1 text)

abbrev pub table_by : Result (Domain × List Contract) DomainFault → List ℕ → Result Table TableFault
table_by (Err fault) certificate = Err (faults.Domain fault)
table_by (Ok parsed) certificate = tabled parsed certificate

-- the table that two texts say; the domain's fault before the certificate's
abbrev pub table_in : List ℕ → List ℕ → Result Table TableFault
table_in domain certificate = table_by (parse_of domain) certificate

-- what the checker makes of a table, if there is one
abbrev pub judged_on : Result Table TableFault → Result Table TableFault
judged_on (Ok t) = judged t (refusal_of t)
judged_on (Err fault) = Err fault

-- the faults of the texts before the checker's refusal
abbrev pub accepted_in : List ℕ → List ℕ → Result Table TableFault
accepted_in domain certificate = judged_on (table_in domain certificate)
