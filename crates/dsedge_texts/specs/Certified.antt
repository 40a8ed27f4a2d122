-- The least certificate of a domain text.
use Rattle.std.specs.Prelude.{ℕ, List, Result, Ok, Err}
use Rattle.ds_certificate.specs.Bounds.{least}
use Rattle.ds_certificate.specs.Texts.{text_of}
use Rattle.ds_domain.specs.DomainTexts.{parse_of}
use Rattle.ds_domain_base.specs.Domains.{Domain}
use Rattle.ds_domain_base.specs.declared.contract.Contract.{Contract}
use Rattle.ds_domain_base.specs.declared.fault.DomainFault.{DomainFault}

-- the text of the least certificate of what a domain text says, or the text's first fault
abbrev pub certificate_by : Result (Domain × List Contract) DomainFault → Result (List ℕ) DomainFault
certificate_by (Ok parsed) = Ok (text_of parsed.1 (least parsed.0 parsed.1))
certificate_by (Err fault) = Err fault

abbrev pub certified : List ℕ → Result (List ℕ) DomainFault
certified text = certificate_by (parse_of text)
