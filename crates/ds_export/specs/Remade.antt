-- A domain in which one meter has other parameters.
use Rattle.std.specs.Prelude.{ℕ, List, map, if◌then◌else◌, bytes_eq}
use Rattle.ds_domain_base.specs.Domains.{Domain}
use Rattle.ds_domain_base.specs.Parameters.{Parameters}
use Rattle.ds_domain_base.specs.declared.parts.Meter.{Meter}

-- the meter of a name with them, and each other one as it is
abbrev pub changed : List ℕ → Parameters → List ℕ × Meter → List ℕ × Meter
changed name p entry = (entry.0, if bytes_eq name entry.0 then record entry.1 { parameters = p } else entry.1)

abbrev pub with_parameters : Domain → List ℕ → Parameters → Domain
with_parameters d name p = record d { meters = map (changed name p) d.meters }
