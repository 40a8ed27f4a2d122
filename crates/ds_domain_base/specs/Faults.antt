-- The faults of a domain: their numbers, and the texts of their parts.
use Rattle.std.specs.Prelude.{ℕ, List, [], codes}
use Rattle.ds_domain_base.specs.declared.fault.DomainFault.{DomainFault}
use Rattle.ds_domain_base.specs.declared.fault.Kind.{Kind}
use Rattle.ds_domain_base.specs.declared.fault.Kind.TheVariants as kinds
use Rattle.ds_domain_base.specs.declared.fault.Section.{Section}
use Rattle.ds_domain_base.specs.declared.fault.Section.TheVariants as sections
use Rattle.ds_domain_base.specs.declared.fault.Field.{Field}
use Rattle.ds_domain_base.specs.declared.fault.Field.TheVariants as fields

-- the number of a kind
abbrev pub kind_code : Kind → ℕ
kind_code kinds.Text = 1
kind_code kinds.Field = 2
kind_code kinds.Range = 3
kind_code kinds.Twice = 4
kind_code kinds.UnknownName = 5
kind_code kinds.NoLink = 6
kind_code kinds.PathRepeats = 7
kind_code kinds.PathLength = 8
kind_code kinds.BlindInside = 9
kind_code kinds.NoMemory = 10

-- how a section is written
abbrev pub section_text : Section → List ℕ
section_text sections.Text = codes "text"
section_text sections.Top = codes "top"
section_text sections.Meter = codes "meter"
section_text sections.Port = codes "port"
section_text sections.Link = codes "link"
section_text sections.Contract = codes "contract"

-- the key of a field; empty where no key of the format is meant
abbrev pub field_text : Field → List ℕ
field_text fields.Empty = []
field_text fields.Version = codes "version"
field_text fields.Meter = codes "meter"
field_text fields.Port = codes "port"
field_text fields.Link = codes "link"
field_text fields.Contract = codes "contract"
field_text fields.Name = codes "name"
field_text fields.Kind = codes "kind"
field_text fields.Mode = codes "mode"
field_text fields.Cir = codes "cir"
field_text fields.Cbs = codes "cbs"
field_text fields.Pir = codes "pir"
field_text fields.Pbs = codes "pbs"
field_text fields.Eir = codes "eir"
field_text fields.Ebs = codes "ebs"
field_text fields.Skew = codes "skew"
field_text fields.Origin = codes "origin"
field_text fields.From = codes "from"
field_text fields.To = codes "to"
field_text fields.Floor = codes "floor"
field_text fields.Jitter = codes "jitter"
field_text fields.Path = codes "path"
field_text fields.Class = codes "class"
field_text fields.Since = codes "since"
field_text fields.Until = codes "until"
field_text fields.Src = codes "src"
field_text fields.Dst = codes "dst"
field_text fields.Protocol = codes "protocol"
field_text fields.Sport = codes "sport"
field_text fields.Dport = codes "dport"
field_text fields.Dscp = codes "dscp"

-- a fault of a kind at a field of an entry, by the entry's section and its place there
abbrev pub fault_at : Kind → Section → ℕ → Field → DomainFault
fault_at kind section index field = record { kind = kind; section = section; index = index; field = field }

-- want of memory is no fault of a section that the domain has
abbrev pub no_memory : DomainFault
no_memory = fault_at kinds.NoMemory sections.Text 0 fields.Empty
