-- The kinds of meters and of contracts, the modes, and the keys that entries of each kind have.
use Rattle.std.specs.Prelude.{ℕ, List, [], ◌∷◌, Option, None, Some, Result, Ok, codes, if◌then◌else◌, option_map, bytes_eq}
use Rattle.toml.specs.Data.{Members}
use Rattle.moment_core.specs.declared.colour.Mode.{Mode}
use Rattle.moment_core.specs.declared.colour.Mode.TheVariants as modes
use Rattle.ds_domain_base.specs.Faults.{field_text}
use Rattle.ds_domain_base.specs.declared.fault.DomainFault.{DomainFault}
use Rattle.ds_domain_base.specs.declared.fault.Field.{Field}
use Rattle.ds_domain_base.specs.declared.fault.Field.TheVariants as fields
use Rattle.ds_domain_base.specs.declared.fault.Kind.TheVariants as kinds
use Rattle.ds_domain_base.specs.declared.parts.Version.{Version}
use Rattle.ds_domain_base.specs.declared.parts.Version.TheVariants.{One, Two, Three}
use Rattle.ds_domain_text.specs.Steps.{◌>>=◌, or_fail}
use Rattle.ds_domain_text.specs.Values.{optional, text_in}
use Rattle.ds_domain.specs.Keys.{fault_here, text_at, told}
use Rattle.ds_domain.specs.declared.place.Place.{Place}
use Rattle.ds_domain.specs.declared.kinds.MeterKind.{MeterKind}
use Rattle.ds_domain.specs.declared.kinds.MeterKind.TheVariants.{SrTcm, TrTcm, Rfc4115}
use Rattle.ds_domain.specs.declared.kinds.ContractKind.{ContractKind}
use Rattle.ds_domain.specs.declared.kinds.ContractKind.TheVariants.{Trusted, Policed}

-- the kind of meter that a text names
unfoldable pub meter_kind_of : List ℕ → Option MeterKind
meter_kind_of text =
    if bytes_eq text (codes "srtcm") then Some SrTcm
    else if bytes_eq text (codes "trtcm") then Some TrTcm
    else if bytes_eq text (codes "rfc4115") then Some Rfc4115
    else None

-- the kind of contract that a text names
unfoldable pub contract_kind_of : List ℕ → Option ContractKind
contract_kind_of text =
    if bytes_eq text (codes "trusted") then Some Trusted else option_map Policed (meter_kind_of text)

-- the mode that a text names
unfoldable pub mode_of : List ℕ → Option Mode
mode_of text =
    if bytes_eq text (codes "aware") then Some modes.Aware
    else if bytes_eq text (codes "blind") then Some modes.Blind
    else None

-- what a text at a field names, where it names something
abbrev pub meant : {A : Type 0} → Place → Field → (List ℕ → Option A) → List ℕ → Result A DomainFault
meant place field naming text = or_fail (naming text) (fault_here place kinds.Range field)

unfoldable pub meter_kind_at : Place → Members → Result MeterKind DomainFault
meter_kind_at place members = text_at place fields.Kind members >>= meant place fields.Kind meter_kind_of

unfoldable pub contract_kind_at : Place → Members → Result ContractKind DomainFault
contract_kind_at place members = text_at place fields.Kind members >>= meant place fields.Kind contract_kind_of

unfoldable pub mode_at : Place → Members → Result Mode DomainFault
mode_at place members = text_at place fields.Mode members >>= meant place fields.Mode mode_of

-- the mode of a meter, which is aware where none is told
abbrev pub mode_if_told : Place → Option (List ℕ) → Result Mode DomainFault
mode_if_told place None = Ok modes.Aware
mode_if_told place (Some text) = meant place fields.Mode mode_of text

unfoldable pub optional_mode_at : Place → Members → Result Mode DomainFault
optional_mode_at place members =
    told place fields.Mode (optional text_in (field_text fields.Mode) members) >>= mode_if_told place

-- the keys of the parameters of a meter of a kind, in order
abbrev pub parameter_fields : MeterKind → List Field
parameter_fields SrTcm = fields.Cir ∷ fields.Cbs ∷ fields.Ebs ∷ []
parameter_fields TrTcm = fields.Cir ∷ fields.Cbs ∷ fields.Pir ∷ fields.Pbs ∷ []
parameter_fields Rfc4115 = fields.Cir ∷ fields.Cbs ∷ fields.Eir ∷ fields.Ebs ∷ []

-- the keys of what a trusted contract keeps, in order; the first version has none of those of an excess
abbrev pub trusted_fields : Version → List Field
trusted_fields One = fields.Cir ∷ fields.Cbs ∷ fields.Pir ∷ fields.Pbs ∷ []
trusted_fields Two = fields.Cir ∷ fields.Cbs ∷ fields.Pir ∷ fields.Pbs ∷ fields.Eir ∷ fields.Ebs ∷ []
trusted_fields Three = fields.Cir ∷ fields.Cbs ∷ fields.Pir ∷ fields.Pbs ∷ fields.Eir ∷ fields.Ebs ∷ []

-- what contracts of a kind have beside the keys of all contracts
abbrev pub terms_fields : Version → ContractKind → List Field
terms_fields version Trusted = trusted_fields version
terms_fields version (Policed kind) = fields.Mode ∷ parameter_fields kind

-- the keys that all meters have, ports, links, contracts, and the top
abbrev pub meter_fields : List Field
meter_fields = fields.Name ∷ fields.Kind ∷ fields.Mode ∷ fields.Skew ∷ fields.Origin ∷ []

abbrev pub port_fields : List Field
port_fields = fields.Name ∷ fields.Skew ∷ []

abbrev pub link_fields : List Field
link_fields = fields.From ∷ fields.To ∷ fields.Floor ∷ fields.Jitter ∷ []

abbrev pub contract_fields : List Field
contract_fields =
    fields.Name ∷ fields.Kind ∷ fields.Port ∷ fields.Path ∷ fields.Class ∷ fields.Since ∷ fields.Until
    ∷ fields.Src ∷ fields.Dst ∷ fields.Protocol ∷ fields.Sport ∷ fields.Dport ∷ fields.Dscp ∷ []

abbrev pub top_fields : List Field
top_fields = fields.Version ∷ fields.Meter ∷ fields.Port ∷ fields.Link ∷ fields.Contract ∷ []
