-- What one line of TOML says of a contract that is offered.
use Rattle.std.specs.Prelude.{ℕ, List, Result, Err, if◌then◌else◌}
use Rattle.std.specs.Str.{is_utf8}
use Rattle.toml.specs.Data.{Data, Members, as_table}
use Rattle.toml.specs.Parse.{parse_value}
use Rattle.ds_domain_base.specs.Domains.{Domain}
use Rattle.ds_domain_base.specs.declared.contract.Contract.{Contract}
use Rattle.ds_domain_base.specs.declared.fault.DomainFault.{DomainFault}
use Rattle.ds_domain_base.specs.declared.fault.Field.TheVariants as fields
use Rattle.ds_domain_base.specs.declared.fault.Kind.TheVariants as kinds
use Rattle.ds_domain_text.specs.Steps.{◌>>=◌, or_fail}
use Rattle.ds_domain.specs.ContractEntries.{contract_in}
use Rattle.ds_domain.specs.DomainTexts.{no_text}
use Rattle.ds_domain.specs.Keys.{fault_here}
use Rattle.ds_domain.specs.Sections.{top}

-- a value that is no table is what an array of contracts has none of
abbrev pub table_of : Data → Result Members DomainFault
table_of value = or_fail (as_table value) (fault_here top kinds.Field fields.Contract)

-- an inline table is read as an entry of the text behind the contracts that are offered
unfoldable pub contract_told : Domain → List Contract → Data → Result Contract DomainFault
contract_told d offered value = do
  members ← table_of value
  contract_in d offered members

-- the contract that a line says, beside those that are offered, or the first fault that their domain's text would have
unfoldable pub contract_said : Domain → List Contract → List ℕ → Result Contract DomainFault
contract_said d offered line =
    if is_utf8 line then or_fail (parse_value line) no_text >>= contract_told d offered else Err no_text
