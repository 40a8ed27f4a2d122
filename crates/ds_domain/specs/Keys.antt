-- What the keys of an entry say; a flaw of a key is a fault at its field.
use Rattle.std.specs.Prelude.{ℕ, ◌-◌, ◌^◌, Bool, true, false, not, List, [], ◌∷◌, Option, Result, Ok, Err, unwrap_or, bytes_eq}
use Rattle.std.specs.List.{list_any, list_all}
use Rattle.toml.specs.Data.{Members, no_members, member}
use Rattle.ds_domain_base.specs.Faults.{fault_at, field_text, no_memory}
use Rattle.ds_domain_base.specs.Names.{is_name}
use Rattle.ds_domain_base.specs.declared.fault.DomainFault.{DomainFault}
use Rattle.ds_domain_base.specs.declared.fault.Field.{Field}
use Rattle.ds_domain_base.specs.declared.fault.Field.TheVariants as fields
use Rattle.ds_domain_base.specs.declared.fault.Kind.{Kind}
use Rattle.ds_domain_base.specs.declared.fault.Kind.TheVariants as kinds
use Rattle.ds_domain_text.specs.Steps.{◌>>=◌}
use Rattle.ds_domain_text.specs.Values.{number_in, optional, required, text_in}
use Rattle.ds_domain_text.specs.declared.flaw.Flaw.{Flaw}
use Rattle.ds_domain_text.specs.declared.flaw.Flaw.TheVariants as flaws
use Rattle.ds_domain.specs.declared.place.Place.{Place}

-- a fault at a field of the entry at a place
abbrev pub fault_here : Place → Kind → Field → DomainFault
fault_here place kind field = fault_at kind place.section place.index field

-- the fault that the flaw of a key is
abbrev pub fault_of_flaw : Place → Field → Flaw → DomainFault
fault_of_flaw place field flaws.Misfit = fault_here place kinds.Field field
fault_of_flaw place field flaws.OutOfRange = fault_here place kinds.Range field
fault_of_flaw place field flaws.NoMemory = no_memory

-- what a key says, with its flaw as a fault at its field
abbrev pub told : {A : Type 0} → Place → Field → Result A Flaw → Result A DomainFault
told place field (Ok a) = Ok a
told place field (Err flaw) = Err (fault_of_flaw place field flaw)

-- nothing to refuse, or a fault where a test says so
abbrev pub refused_if : Bool → DomainFault → Result (Unit {0}) DomainFault
refused_if true fault = Err fault
refused_if false fault = Ok tt

-- the keys of a table
abbrev pub keys_in : Members → List (List ℕ)
keys_in no_members = []
keys_in (member key value members) = key ∷ keys_in members

-- the text is the key of one of the fields
abbrev pub is_key_of : List Field → List ℕ → Bool
is_key_of known key = list_any (λ field. bytes_eq (field_text field) key) known

-- an entry has no other key than those of the fields
unfoldable pub has_only : List Field → Members → Bool
has_only known members = list_all (is_key_of known) (keys_in members)

-- any other key is a fault that names no field
unfoldable pub only : Place → List Field → Members → Result (Unit {0}) DomainFault
only place known members = refused_if (not (has_only known members)) (fault_here place kinds.Field fields.Empty)

-- a whole number in a range, which must be there, and which may be absent
unfoldable pub number_at : Place → Field → ℕ → ℕ → Members → Result ℕ DomainFault
number_at place field least most members = told place field (required (number_in least most) (field_text field) members)

unfoldable pub optional_number_at : Place → Field → ℕ → ℕ → Members → Result (Option ℕ) DomainFault
optional_number_at place field least most members =
    told place field (optional (number_in least most) (field_text field) members)

-- a rate in bits per second, a burst in bytes, and a delay or a skew in nanoseconds
unfoldable pub rate_at : Place → Field → Members → Result ℕ DomainFault
rate_at place field members = number_at place field 1 (10 ^ 13) members

unfoldable pub burst_at : Place → Field → Members → Result ℕ DomainFault
burst_at place field members = number_at place field 0 (2 ^ 32 - 1) members

unfoldable pub delay_at : Place → Field → Members → Result ℕ DomainFault
delay_at place field members = number_at place field 0 (10 ^ 10) members

-- a moment in nanoseconds, which may be absent, and 0 where it is
unfoldable pub optional_moment_at : Place → Field → Members → Result (Option ℕ) DomainFault
optional_moment_at place field members = optional_number_at place field 0 (2 ^ 63 - 1) members

unfoldable pub moment_at : Place → Field → Members → Result ℕ DomainFault
moment_at place field members = optional_moment_at place field members >>= (λ moment. Ok (unwrap_or moment 0))

-- any text
unfoldable pub text_at : Place → Field → Members → Result (List ℕ) DomainFault
text_at place field members = told place field (required text_in (field_text field) members)

-- the name of an entry
abbrev pub as_name : Place → List ℕ → Result (List ℕ) DomainFault
as_name place text = refused_if (not (is_name text)) (fault_here place kinds.Range fields.Name) >>= (λ _. Ok text)

unfoldable pub name_at : Place → Members → Result (List ℕ) DomainFault
name_at place members = text_at place fields.Name members >>= as_name place
