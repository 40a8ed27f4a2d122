-- What a domain text says.
use Rattle.std.specs.Prelude.{ℕ, ◌==◌, List, [], Option, None, Some, Result, Ok, Err, if◌then◌else◌}
use Rattle.std.specs.Str.{is_utf8}
use Rattle.toml.specs.Data.{Members}
use Rattle.toml.specs.Parse.{parse_document}
use Rattle.ds_domain_base.specs.Domains.{Domain, bare}
use Rattle.ds_domain_base.specs.Faults.{fault_at, field_text}
use Rattle.ds_domain_base.specs.declared.contract.Contract.{Contract}
use Rattle.ds_domain_base.specs.declared.fault.DomainFault.{DomainFault}
use Rattle.ds_domain_base.specs.declared.fault.Field.{Field}
use Rattle.ds_domain_base.specs.declared.fault.Field.TheVariants as fields
use Rattle.ds_domain_base.specs.declared.fault.Kind.TheVariants as kinds
use Rattle.ds_domain_base.specs.declared.fault.Section.TheVariants as sections
use Rattle.ds_domain_base.specs.declared.parts.Version.{Version}
use Rattle.ds_domain_base.specs.declared.parts.Version.TheVariants.{One, Two, Three}
use Rattle.ds_domain_text.specs.Steps.{◌>>=◌, or_fail}
use Rattle.ds_domain_text.specs.Values.{tables_at}
use Rattle.ds_domain.specs.ContractEntries.{with_contract_of}
use Rattle.ds_domain.specs.Keys.{only, optional_number_at, told}
use Rattle.ds_domain.specs.Kinds.{top_fields}
use Rattle.ds_domain.specs.Parts.{with_link_of, with_meter_of, with_port_of}
use Rattle.ds_domain.specs.Sections.{section_in, top}

-- the tables of the sections
pub record SectionTables : Type 0 where
  pub meters : List Members
  pub ports : List Members
  pub links : List Members
  pub contracts : List Members

-- the version of a number; the first is meant where none is told
abbrev pub version_of : Option ℕ → Version
version_of None = One
version_of (Some number) = if number == 2 then Two else if number == 3 then Three else One

-- no unknown key, and no other version than 1, 2 and 3
unfoldable pub top_of : Members → Result Version DomainFault
top_of members = do
  _ ← only top top_fields members
  number ← optional_number_at top fields.Version 1 3 members
  Ok (version_of number)

-- a section is an array of tables, and empty where it is absent
unfoldable pub section_of : Field → Members → Result (List Members) DomainFault
section_of field members = told top field (tables_at (field_text field) members)

unfoldable pub sections_of : Members → Result SectionTables DomainFault
sections_of members = do
  meters ← section_of fields.Meter members
  ports ← section_of fields.Port members
  links ← section_of fields.Link members
  contracts ← section_of fields.Contract members
  Ok (record { meters = meters; ports = ports; links = links; contracts = contracts })

-- a domain with more meters, then ports, then links
unfoldable pub with_parts_of : Domain → List Members → List Members → List Members → Result Domain DomainFault
with_parts_of d meters ports links = do
  with_meters ← section_in fields.Meter 1024 with_meter_of d meters
  with_ports ← section_in fields.Port 1024 with_port_of with_meters ports
  section_in fields.Link 65536 with_link_of with_ports links

-- the domain of a version: its meters, then its ports, then its links
unfoldable pub domain_of : Version → SectionTables → Result Domain DomainFault
domain_of version tables = with_parts_of (bare version) tables.meters tables.ports tables.links

-- the domain of a version, and then its contracts
unfoldable pub parts_of : Version → SectionTables → Result (Domain × List Contract) DomainFault
parts_of version tables = do
  d ← domain_of version tables
  contracts ← section_in fields.Contract 4096 (with_contract_of d) [] tables.contracts
  Ok (d, contracts)

-- the version first, then the sections
unfoldable pub document_of : Members → Result (Domain × List Contract) DomainFault
document_of members = do
  version ← top_of members
  tables ← sections_of members
  parts_of version tables

-- a text that is not UTF-8, or not TOML
abbrev pub no_text : DomainFault
no_text = fault_at kinds.Text sections.Text 0 fields.Empty

-- what a domain text says: its domain and its contracts, or its first fault
unfoldable pub parse_of : List ℕ → Result (Domain × List Contract) DomainFault
parse_of bytes = if is_utf8 bytes then or_fail (parse_document bytes) no_text >>= document_of else Err no_text
