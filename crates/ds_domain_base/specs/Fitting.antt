-- Which contract fits a domain.
use Rattle.std.specs.Prelude.{ℕ, Bool, false, ◌||◌, List, [], ◌∷◌, length, nat_eq, nat_lt, is_none, not, Option, None, Some, if◌then◌else◌, bytes_eq}
use Rattle.std.specs.List.{list_any}
use Rattle.ds_domain_base.specs.declared.fault.DomainFault.{DomainFault}
use Rattle.ds_domain_base.specs.declared.fault.Kind.TheVariants as kinds
use Rattle.ds_domain_base.specs.declared.fault.Section.TheVariants as sections
use Rattle.ds_domain_base.specs.declared.fault.Field.TheVariants as fields
use Rattle.ds_domain_base.specs.Domains.{Domain, meter_of, is_port, link_of}
use Rattle.ds_domain_base.specs.Faults.{fault_at}

-- a name of a path that is not a meter's
unfoldable pub names_unknown : Domain → List (List ℕ) → Bool
names_unknown d path = list_any (λ name. is_none (meter_of d name)) path

-- a name that stands twice
unfoldable pub repeats : List (List ℕ) → Bool
repeats [] = false
repeats (name ∷ rest) = list_any (bytes_eq name) rest || repeats rest

-- from a name on, two names of a path in turn with no link from the one to the other
unfoldable pub lacks_link : Domain → List ℕ → List (List ℕ) → Bool
lacks_link d from [] = false
lacks_link d from (to ∷ rest) = is_none (link_of d from to) || lacks_link d to rest

-- the first fault of a contract's port and path, by the place of the contract
abbrev pub way_fault : ℕ → Domain → List ℕ → List (List ℕ) → Option DomainFault
way_fault index d port path =
    if not (is_port d port) then
    Some (fault_at kinds.UnknownName sections.Contract index fields.Port)
    else if nat_eq (length path) 0 || nat_lt 16 (length path) then
    Some (fault_at kinds.PathLength sections.Contract index fields.Path)
    else if names_unknown d path then
    Some (fault_at kinds.UnknownName sections.Contract index fields.Path)
    else if repeats path then
    Some (fault_at kinds.PathRepeats sections.Contract index fields.Path)
    else if lacks_link d port path then
    Some (fault_at kinds.NoLink sections.Contract index fields.Path)
    else
    None
