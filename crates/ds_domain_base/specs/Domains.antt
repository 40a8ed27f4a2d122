-- A domain: the version of its text, and its meters, ports and links by name, in the order in which they were told.
use Rattle.std.specs.Prelude.{ℕ, Bool, ◌&&◌, ◌||◌, List, [], ◌∷◌, ◌++◌, length, nat_le, is_some, not, Option, None, Some, if◌then◌else◌, bytes_eq}
use Rattle.std.specs.Map.{lookup}
use Rattle.ds_domain_base.specs.declared.fault.DomainFault.{DomainFault}
use Rattle.ds_domain_base.specs.declared.fault.Kind.TheVariants as kinds
use Rattle.ds_domain_base.specs.declared.fault.Section.TheVariants as sections
use Rattle.ds_domain_base.specs.declared.fault.Field.TheVariants as fields
use Rattle.ds_domain_base.specs.declared.parts.Meter.{Meter}
use Rattle.ds_domain_base.specs.declared.parts.Port.{Port}
use Rattle.ds_domain_base.specs.declared.parts.Link.{Link}
use Rattle.ds_domain_base.specs.declared.parts.Version.{Version}
use Rattle.ds_domain_base.specs.Faults.{fault_at}

pub record Domain : Type 0 where
  pub version : Version
  pub meters : List (List ℕ × Meter)
  pub ports : List (List ℕ × Port)
  pub links : List ((List ℕ × List ℕ) × Link)

-- of a version, with nothing in it
abbrev pub bare : Version → Domain
bare version = record { version = version; meters = []; ports = []; links = [] }

-- the meter, and the port, of a name
abbrev pub meter_of : Domain → List ℕ → Option Meter
meter_of d name = lookup (bytes_eq name) d.meters

abbrev pub port_of : Domain → List ℕ → Option Port
port_of d name = lookup (bytes_eq name) d.ports

-- the ends of a link, where it comes from and where it goes to
abbrev pub same_ends : List ℕ × List ℕ → List ℕ × List ℕ → Bool
same_ends a b = bytes_eq a.0 b.0 && bytes_eq a.1 b.1

-- the link from a name to a name
abbrev pub link_of : Domain → List ℕ → List ℕ → Option Link
link_of d from to = lookup (same_ends (from, to)) d.links

-- what delays of a link are at least, and by how much they differ at most; 0 where there is no link
abbrev pub floor_of : Option Link → ℕ
floor_of None = 0
floor_of (Some link) = link.floor

abbrev pub jitter_of : Option Link → ℕ
jitter_of None = 0
jitter_of (Some link) = link.jitter

-- the skew of a port; 0 where there is none
abbrev pub skew_of : Option Port → ℕ
skew_of None = 0
skew_of (Some port) = port.skew

abbrev pub is_meter : Domain → List ℕ → Bool
is_meter d name = is_some (meter_of d name)

abbrev pub is_port : Domain → List ℕ → Bool
is_port d name = is_some (port_of d name)

-- meters and ports share one space of names
abbrev pub is_taken : Domain → List ℕ → Bool
is_taken d name = is_meter d name || is_port d name

-- what stands against one more meter, port or link
abbrev pub meter_fault : Domain → List ℕ → Option DomainFault
meter_fault d name =
    if nat_le 1024 (length d.meters) then
    Some (fault_at kinds.Range sections.Top 0 fields.Meter)
    else if is_taken d name then
    Some (fault_at kinds.Twice sections.Meter (length d.meters) fields.Name)
    else
    None

abbrev pub port_fault : Domain → List ℕ → Option DomainFault
port_fault d name =
    if nat_le 1024 (length d.ports) then
    Some (fault_at kinds.Range sections.Top 0 fields.Port)
    else if is_taken d name then
    Some (fault_at kinds.Twice sections.Port (length d.ports) fields.Name)
    else
    None

abbrev pub link_fault : Domain → List ℕ → List ℕ → Option DomainFault
link_fault d from to =
    if nat_le 65536 (length d.links) then
    Some (fault_at kinds.Range sections.Top 0 fields.Link)
    else if is_some (link_of d from to) then
    Some (fault_at kinds.Twice sections.Link (length d.links) fields.From)
    else if not (is_taken d from) then
    Some (fault_at kinds.UnknownName sections.Link (length d.links) fields.From)
    else if not (is_meter d to) then
    Some (fault_at kinds.UnknownName sections.Link (length d.links) fields.To)
    else
    None

-- the domain with one more meter, port or link
abbrev pub with_meter : Domain → List ℕ → Meter → Domain
with_meter d name meter = record d { meters = d.meters ++ (name, meter) ∷ [] }

abbrev pub with_port : Domain → List ℕ → Port → Domain
with_port d name port = record d { ports = d.ports ++ (name, port) ∷ [] }

abbrev pub with_link : Domain → List ℕ → List ℕ → Link → Domain
with_link d from to link = record d { links = d.links ++ ((from, to), link) ∷ [] }
