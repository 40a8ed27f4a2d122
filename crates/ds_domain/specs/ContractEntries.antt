-- The entries of contracts, one after the other.
use Rattle.std.specs.Prelude.{ℕ, Bool, false, List, [], ◌∷◌, ◌++◌, length, nat_lt, Option, None, Some, Result, Ok}
use Rattle.toml.specs.Data.{Members}
use Rattle.ds_domain_base.specs.Domains.{Domain}
use Rattle.ds_domain_base.specs.Faults.{field_text}
use Rattle.ds_domain_base.specs.Fitting.{way_fault}
use Rattle.ds_domain_base.specs.Lifetimes.{Span}
use Rattle.ds_domain_base.specs.declared.contract.Contract.{Contract}
use Rattle.ds_domain_base.specs.declared.fault.DomainFault.{DomainFault}
use Rattle.ds_domain_base.specs.declared.fault.Field.TheVariants as fields
use Rattle.ds_domain_base.specs.declared.fault.Kind.TheVariants as kinds
use Rattle.ds_domain_base.specs.declared.fault.Section.TheVariants as sections
use Rattle.ds_domain_base.specs.declared.parts.Version.{Version}
use Rattle.ds_domain_base.specs.declared.terms.Terms.{Terms}
use Rattle.ds_domain_text.specs.Steps.{◌>>=◌}
use Rattle.ds_domain_text.specs.Values.{required, texts_in}
use Rattle.ds_offers.specs.Offered.{has_name}
use Rattle.ds_domain.specs.Keys.{fault_here, refused_if, told, moment_at, name_at, number_at, only, optional_moment_at, text_at}
use Rattle.ds_domain.specs.Kinds.{contract_fields, contract_kind_at, terms_fields}
use Rattle.ds_domain.specs.Parts.{refused_by}
use Rattle.ds_domain.specs.Rules.{rule_at}
use Rattle.ds_domain.specs.Terms.{claim_at, terms_of}
use Rattle.ds_domain.specs.declared.contract_keys.ContractRest.{ContractRest}
use Rattle.ds_domain.specs.declared.kinds.ContractKind.{ContractKind}
use Rattle.ds_domain.specs.declared.place.Place.{Place}

-- what the keys of a contract say; the port and the path may be any texts
pub record ContractText : Type 0 where
  pub name : List ℕ
  pub port : List ℕ
  pub path : List (List ℕ)
  pub rest : ContractRest

-- the names of a path, any texts
unfoldable pub path_at : Place → Members → Result (List (List ℕ)) DomainFault
path_at place members = told place fields.Path (required texts_in (field_text fields.Path) members)

-- the kind first, then keys that the kind does not have in the version, then the name
unfoldable pub contract_head : Place → Version → Members → Result (ContractKind × List ℕ) DomainFault
contract_head place version members = do
  kind ← contract_kind_at place members
  _ ← only place (contract_fields ++ terms_fields version kind) members
  name ← name_at place members
  Ok (kind, name)

-- the keys behind the path
unfoldable pub contract_rest : Place → Version → ContractKind → Members → Result ContractRest DomainFault
contract_rest place version kind members = do
  class ← number_at place fields.Class 1 4 members
  since ← moment_at place fields.Since members
  until ← optional_moment_at place fields.Until members
  claim ← claim_at place kind members
  rule ← rule_at version place members
  Ok (record { class = class; since = since; until = until; claim = claim; rule = rule })

-- what the keys of a contract of a version say, key by key
unfoldable pub contract_text : Place → Version → Members → Result ContractText DomainFault
contract_text place version members = do
  head ← contract_head place version members
  port ← text_at place fields.Port members
  path ← path_at place members
  rest ← contract_rest place version head.0 members
  Ok (record { name = head.1; port = port; path = path; rest = rest })

-- where the next contract stands, behind those before it
abbrev pub next_contract : List Contract → Place
next_contract done = record { section = sections.Contract; index = length done }

-- the end is below the beginning
abbrev pub ends_early : ℕ → Option ℕ → Bool
ends_early since None = false
ends_early since (Some until) = nat_lt until since

-- what the keys of the next contract say is judged: its name, its parameters, its end
unfoldable pub contract_terms : List Contract → List ℕ → ContractRest → Result (Terms × Span) DomainFault
contract_terms done name rest = do
  _ ← refused_if (has_name done name) (fault_here (next_contract done) kinds.Twice fields.Name)
  terms ← terms_of (next_contract done) rest.claim
  _ ← refused_if (ends_early rest.since rest.until) (fault_here (next_contract done) kinds.Range fields.Until)
  Ok (terms, record { since = rest.since; until = rest.until })

-- and then its port and its path
unfoldable pub contract_of : Domain → List Contract → ContractText → Result Contract DomainFault
contract_of d done text = do
  judged ← contract_terms done text.name text.rest
  _ ← refused_by (way_fault (length done) d text.port text.path)
  Ok (record {
    name = text.name;
    terms = judged.0;
    port = text.port;
    path = text.path;
    class = text.rest.class;
    lifetime = judged.1;
    rule = text.rest.rule;
  })

-- the next contract, as its table says it
unfoldable pub contract_in : Domain → List Contract → Members → Result Contract DomainFault
contract_in d done members = do
  text ← contract_text (next_contract done) d.version members
  contract_of d done text

-- the contracts with one more
unfoldable pub with_contract_of : Domain → List Contract → Members → Result (List Contract) DomainFault
with_contract_of d done members = do
  contract ← contract_in d done members
  Ok (done ++ contract ∷ [])
