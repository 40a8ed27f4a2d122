-- Where a fault of a domain's text stands.
use Rattle.std.specs.Prelude.{ℕ, Bool, true, false, if◌then◌else◌, List, [], ◌∷◌, Option, None, Some}
use Rattle.std.specs.Option.{option_map_or}
use Rattle.toml_places.specs.Aims.{Aim}
use Rattle.toml_places.specs.Searches.{found_in}
use Rattle.toml_places.specs.declared.findings.Findings.{Findings}
use Rattle.toml_places.specs.declared.findings.Spot.{Spot}
use Rattle.ds_domain_base.specs.Faults.{field_text, section_text}
use Rattle.ds_domain_base.specs.declared.fault.DomainFault.{DomainFault}
use Rattle.ds_domain_base.specs.declared.fault.Field.{Field}
use Rattle.ds_domain_base.specs.declared.fault.Field.TheVariants as fields
use Rattle.ds_domain_base.specs.declared.fault.Section.{Section}
use Rattle.ds_domain_base.specs.declared.fault.Section.TheVariants as sections
use Rattle.domain_places.specs.declared.spot.FaultSpot.{FaultSpot}
use Rattle.domain_places.specs.declared.spot.FaultSpot.TheVariants.{Key, Entry, Nowhere}
use Rattle.domain_places.specs.declared.spot.FaultSpot.TheVariants as spots

-- how many bytes stand before it
abbrev pub offset_of : FaultSpot → Option ℕ
offset_of (Key spot) = Some spot.key
offset_of (Entry offset) = Some offset
offset_of (spots.Section offset) = Some offset
offset_of Nowhere = None

-- the array of tables that a section is
abbrev pub section_name : Section → Option (List ℕ)
section_name sections.Text = None
section_name sections.Top = None
section_name sections.Meter = Some (section_text sections.Meter)
section_name sections.Port = Some (section_text sections.Port)
section_name sections.Link = Some (section_text sections.Link)
section_name sections.Contract = Some (section_text sections.Contract)

-- the fault names a key
abbrev pub is_named : Field → Bool
is_named fields.Empty = false
is_named _ = true

-- the key that a fault names, or the first that its entry may not have
abbrev pub names_at : List (List ℕ) → Field → List (List ℕ)
names_at known field = if is_named field then field_text field ∷ [] else known

-- some keys of the entry of a fault, or the first other one
abbrev pub aim_at : DomainFault → List (List ℕ) → Bool → Aim
aim_at fault names is_named = record {
  section = section_name fault.section;
  index = fault.index;
  names = names;
  is_named = is_named;
}

abbrev pub entry_aim : List (List ℕ) → DomainFault → Aim
entry_aim known fault = aim_at fault (names_at known fault.field) (is_named fault.field)

-- the key of a section, at the top
abbrev pub section_aim : Section → Aim
section_aim section = record {
  section = None;
  index = 0;
  names = section_text section ∷ [];
  is_named = true;
}

abbrev pub spot_by_section : Findings → FaultSpot
spot_by_section found = option_map_or (λ spot. spots.Section spot.key) found.key Nowhere

abbrev pub spot_by_entry : Findings → FaultSpot → FaultSpot
spot_by_entry found otherwise = option_map_or Entry found.entry otherwise

-- at the key, or else at the header of its entry, or else at the key of its section
abbrev pub spot_by : Findings → FaultSpot → FaultSpot
spot_by found otherwise = option_map_or Key found.key (spot_by_entry found otherwise)

abbrev pub fault_spot : List (List ℕ) → DomainFault → List ℕ → FaultSpot
fault_spot known fault text =
    spot_by (found_in (entry_aim known fault) text) (spot_by_section (found_in (section_aim fault.section) text))
