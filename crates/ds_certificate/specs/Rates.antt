-- Contracts whose traffic has a rate.
use Rattle.std.specs.Prelude.{◌≤◌}
use Rattle.ds_domain_base.specs.Domains.{Domain}
use Rattle.ds_domain_base.specs.declared.contract.Contract.{Contract}
use Rattle.ds_certificate.specs.Columns.{InEach, envelope_in}
use Rattle.ds_certificate.specs.Sources.{source_of}

-- what a contract's traffic keeps has a rate in each column
abbrev pub HasRates : Domain → Contract → Type 0
HasRates d c = InEach (λ column. 1 ≤ (envelope_in column (source_of d c)).rate)
