-- The entries of meters, ports and links, one after the other.
use Rattle.std.specs.Prelude.{Bool, true, false, ◌++◌, length, Option, None, Some, Result, Ok, Err}
use Rattle.toml.specs.Data.{Members}
use Rattle.moment_core.specs.declared.colour.Mode.{Mode}
use Rattle.moment_core.specs.declared.colour.Mode.TheVariants.{Aware, Blind}
use Rattle.ds_domain_base.specs.Domains.{Domain, is_taken, with_link, with_meter, with_port, link_fault, meter_fault, port_fault}
use Rattle.ds_domain_base.specs.declared.fault.DomainFault.{DomainFault}
use Rattle.ds_domain_base.specs.declared.fault.Field.TheVariants as fields
use Rattle.ds_domain_base.specs.declared.fault.Kind.TheVariants as kinds
use Rattle.ds_domain_base.specs.declared.fault.Section.TheVariants as sections
use Rattle.ds_domain_text.specs.Steps.{◌>>=◌}
use Rattle.ds_domain.specs.Keys.{delay_at, fault_here, moment_at, name_at, only, refused_if, text_at}
use Rattle.ds_domain.specs.Kinds.{meter_kind_at, optional_mode_at, link_fields, meter_fields, parameter_fields, port_fields}
use Rattle.ds_domain.specs.Terms.{parameters_at, sound}
use Rattle.ds_domain.specs.declared.parts.MeterKeys.{MeterKeys}
use Rattle.ds_domain.specs.declared.place.Place.{Place}

-- where the next meter of a domain stands, the next port, and the next link
abbrev pub next_meter : Domain → Place
next_meter d = record { section = sections.Meter; index = length d.meters }

abbrev pub next_port : Domain → Place
next_port d = record { section = sections.Port; index = length d.ports }

abbrev pub next_link : Domain → Place
next_link d = record { section = sections.Link; index = length d.links }

-- a fault, if something stands against the entry
abbrev pub refused_by : Option DomainFault → Result (Unit {0}) DomainFault
refused_by None = Ok tt
refused_by (Some fault) = Err fault

abbrev pub is_blind : Mode → Bool
is_blind Aware = false
is_blind Blind = true

-- what the keys of a meter say: the kind first, then unknown keys, then key by key
unfoldable pub meter_keys : Place → Members → Result MeterKeys DomainFault
meter_keys place members = do
  kind ← meter_kind_at place members
  _ ← only place (meter_fields ++ parameter_fields kind) members
  name ← name_at place members
  mode ← optional_mode_at place members
  parameters ← parameters_at place kind members
  skew ← delay_at place fields.Skew members
  origin ← moment_at place fields.Origin members
  Ok (record { name = name; mode = mode; parameters = parameters; skew = skew; origin = origin })

-- the domain with one more meter, whose keys are good before the rest is judged
unfoldable pub with_meter_of : Domain → Members → Result Domain DomainFault
with_meter_of d members = do
  keys ← meter_keys (next_meter d) members
  _ ← refused_if (is_taken d keys.name) (fault_here (next_meter d) kinds.Twice fields.Name)
  _ ← refused_if (is_blind keys.mode) (fault_here (next_meter d) kinds.BlindInside fields.Mode)
  parameters ← sound (next_meter d) keys.parameters
  _ ← refused_by (meter_fault d keys.name)
  Ok (with_meter d keys.name (record { parameters = parameters; skew = keys.skew; origin = keys.origin }))

-- one more port
unfoldable pub with_port_of : Domain → Members → Result Domain DomainFault
with_port_of d members = do
  _ ← only (next_port d) port_fields members
  name ← name_at (next_port d) members
  skew ← delay_at (next_port d) fields.Skew members
  _ ← refused_by (port_fault d name)
  Ok (with_port d name (record { skew = skew }))

-- one more link
unfoldable pub with_link_of : Domain → Members → Result Domain DomainFault
with_link_of d members = do
  _ ← only (next_link d) link_fields members
  from ← text_at (next_link d) fields.From members
  to ← text_at (next_link d) fields.To members
  floor ← delay_at (next_link d) fields.Floor members
  jitter ← delay_at (next_link d) fields.Jitter members
  _ ← refused_by (link_fault d from to)
  Ok (with_link d from to (record { floor = floor; jitter = jitter }))
